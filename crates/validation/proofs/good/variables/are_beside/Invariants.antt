-- The loop: no two clash whose distance is below d.
use Prim.Native.Nat.{ℕ, ◌≤◌, ◌<◌}
use mathlib.Core.Path.{◌≡◌}
use mathlib.Core.Bool.{false}
use Rattle.validation.proofs.Clashes.{clash_by}
use Rattle.validation.proofs.good.variables.are_beside.Given as goal

abbrev pub invariant-loop-d : goal.invariant-loop-d
invariant-loop-d l = (1 ≤ l.d) × ((k : ℕ) → 1 ≤ k → k < l.d → clash_by l.area l.count k ≡ false)
