-- The loop: whether the first i owners are live.
use Prim.Native.Nat.{ℕ}
use mathlib.Core.Path.{◌≡◌}
use mathlib.Core.Bool.{Bool}
use mathlib.Core.List.{List}
use lib.Dec.{eqb}
use lib.ListN.{take}
use Rattle.buffer.specs.Lists.{all, any, keep}
use Rattle.validation.specs.Columns.{is_id}
use Rattle.validation.proofs.good.variables.are_owned.Given as goal

abbrev pub owns : List ℕ → ℕ → Bool
owns ids id = any (eqb id) (keep is_id ids)

abbrev pub invariant-loop-i : goal.invariant-loop-i
invariant-loop-i l = l.good ≡ all (owns l.ids) (take l.i l.owners)
