-- `file::erase_entry` meets its contract: later entries move up, zeros go into the vacated one, and the count goes down.
use Prim.Native.Nat.{◌-◌}
use lib.ListN.{length-set}
use Rattle.store.proofs.Steps.{erased-steps}
use native.Mathlib.Omega.{arith}
use Rattle.store.proofs.file.erase_entry.Goals as goal

pub returns : goal.returns
returns c =
    let n = c.file_count-last in
    let a = c.args in
    erased-steps a.disc.now (omega arith) _ _ a.i (n.result - 1) (omega (arith, n.ensures)) (omega (arith, n.ensures))
    (omega (arith, n.ensures)) (omega arith) c.move_up.ensures c.overwrite_at.ensures

pub shape_of-disc : goal.shape_of-disc
shape_of-disc c = simp length-set (omega arith)
