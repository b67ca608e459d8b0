-- Each turn counts the line of one file more.
use Prim.Native.Nat.{◌+◌}
use native.Mathlib.Omega.{arith}
use Rattle.buffer.proofs.Lines.{counted-all, counted_next, counted_none}
use Rattle.disc_operation.proofs.Lines.{files-short}
use Rattle.disc_operation.proofs.operations.files_length.Goals as goal

pub loop-i-init : goal.loop-i-init
loop-i-init c = counted_none _ _ _

pub overflow_add-len : goal.overflow_add-len
overflow_add-len c =
    let counted = counted_next _ _ _ c.loop-i.invariant (omega arith) c.entry_at.ensures c.line_length-len.ensures in
    omega (arith, counted.sum, files-short c.args.disc.now (c.loop-i.i + 1))

pub loop-i-preserved : goal.loop-i-preserved
loop-i-preserved c = counted_next _ _ _ c.loop-i.invariant (omega arith) c.entry_at.ensures c.line_length-len.ensures

pub returns : goal.returns
returns c = counted-all _ _ _ c.loop-i.invariant (omega arith)
