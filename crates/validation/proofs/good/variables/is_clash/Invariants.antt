-- The loop: whether two of which the first stands below i clash.
use Prim.Native.Nat.{ℕ, ◌+◌}
use mathlib.Core.Bool.{Bool}
use mathlib.Core.List.{List}
use Rattle.buffer.proofs.Equivalence.{Asked}
use Rattle.validation.specs.Columns.{clash}
use Rattle.validation.proofs.good.variables.is_clash.Given as goal

abbrev pub test : List ℕ → List ℕ → List ℕ → List ℕ → ℕ → ℕ → Bool
test starts ends names owners d i = clash starts ends names owners i (i + d)

abbrev pub invariant-loop-i : goal.invariant-loop-i
invariant-loop-i l = Asked (test l.starts l.ends l.names l.owners l.d) (λ i. i) l.n l.hit l.i
