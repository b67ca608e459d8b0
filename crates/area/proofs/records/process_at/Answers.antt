-- The record's bytes say the process of that slot.
use mathlib.Core.Path.{sym, ap, ◌∙◌}
use native.Mathlib.Omega.{arith}
use Rattle.machine.specs.Area.{process_of}
use Rattle.area.proofs.Reading.{process-read}
use Rattle.area.proofs.records.process_at.Goals as goal

pub returns : goal.returns
returns c =
    let a = c.args in
    c.process_of.ensures ∙ ap process_of c.record_at.ensures.0 ∙ sym (process-read a.area.now a.slot (omega arith))
