-- The ID of each slot.
use Rattle.std.proofs.Common.{rules}
use Rattle.machine.specs.Limits.{slot_count}
use Rattle.area.specs.Parts.{process_in}
use Rattle.area.proofs.Made.{made-all}
use Rattle.validation.specs.Columns.{slot_id}
use Rattle.validation.proofs.good.ids.live_ids.Goals as goal

pub returns : goal.returns
returns c =
    let area = c.args.area.now in
    made-all _ (λ i. slot_id (process_in area i)) _ (λ i y q k. search rules) c.from_fn.result slot_count c.from_fn.ensures.items
