-- Each turn writes the line of one file more.
use native.Mathlib.Omega.{arith}
use Rattle.buffer.proofs.Lines.{written_all, written_next, written_none, written-room}
use Rattle.disc_operation.proofs.operations.put_files.Goals as goal

pub loop-i-init : goal.loop-i-init
loop-i-init c = written_none _ _ _ _

pub shape_of-out : goal.shape_of-out
shape_of-out c = c.loop-i.invariant.size

pub put_line-at-requires : goal.put_line-at-requires
put_line-at-requires c =
    written-room _ _ _ _ c.requires.disc_in_bounds c.loop-i.invariant (omega arith) c.entry_at.ensures

pub loop-i-preserved : goal.loop-i-preserved
loop-i-preserved c =
    written_next _ _ _ _ c.requires.disc_in_bounds c.loop-i.invariant (omega arith) c.entry_at.ensures c.put_line-at.ensures

pub returns : goal.returns
returns c = written_all _ _ _ _ c.loop-i.invariant (omega arith)
