-- The loop: whether one of the first i is the owner.
use mathlib.Core.Path.{◌≡◌}
use lib.Dec.{eqb}
use lib.ListN.{take}
use Rattle.buffer.specs.Lists.{any}
use Rattle.validation.proofs.good.variables.is_owner.Given as goal

abbrev pub invariant-loop-i : goal.invariant-loop-i
invariant-loop-i l = l.hit ≡ any (eqb l.id) (take l.i l.ids)
