-- The length of the next line is counted to those of the lines before.
use Prim.Native.Nat.{◌+◌}
use mathlib.Core.Path.{ap, ◌∙◌}
use native.Mathlib.Omega.{arith}
use lib.ListN.{length}
use Rattle.buffer.proofs.Lines.{counted-all, counted_next, counted_none}
use Rattle.machine.specs.Area.{process_of}
use Rattle.operation.proofs.Lines.{list-short, live-lines}
use Rattle.operation.proofs.list.list_length.Goals as goal

pub loop-slot-init : goal.loop-slot-init
loop-slot-init c = counted_none _ _ _

pub overflow_add-len : goal.overflow_add-len
overflow_add-len c =
    let next = counted_next _ _ _ c.loop-slot.invariant (omega arith) (ap process_of c.record_at.ensures.0) c.line_length-len.ensures in
    omega (arith, next.sum, list-short c.args.area.now (c.loop-slot.slot + 1))

pub loop-slot-preserved : goal.loop-slot-preserved
loop-slot-preserved c =
    counted_next _ _ _ c.loop-slot.invariant (omega arith) (ap process_of c.record_at.ensures.0) c.line_length-len.ensures

pub returns : goal.returns
returns c = counted-all _ _ _ c.loop-slot.invariant (omega arith) ∙ ap length (live-lines c.args.area.now)
