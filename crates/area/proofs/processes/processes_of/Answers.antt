-- The process of each slot.
use Rattle.std.proofs.Common.{◌∙◌, rules}
use Rattle.buffer.proofs.Lists.{tab-same}
use Rattle.machine.specs.Area.{kernel_of}
use Rattle.machine.specs.Limits.{slot_count}
use Rattle.machine.specs.State.{process_at}
use Rattle.area.specs.Parts.{process_in}
use Rattle.area.proofs.Reading.{process-read}
use Rattle.area.proofs.Made.{made-all}
use Rattle.area.proofs.processes.processes_of.Goals as goal

pub returns : goal.returns
unfolding kernel_of
returns c =
    let area = c.args.area.now in
    made-all _ (process_at (kernel_of area)) _ (λ i y q k. search rules) c.from_fn.result slot_count c.from_fn.ensures.items
    ∙ tab-same (process_at (kernel_of area)) (process_in area) slot_count (λ i h. process-read area i h)
