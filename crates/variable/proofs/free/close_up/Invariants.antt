-- The loop: of the first i entries those that stay stand in front.
use Prim.Native.Nat.{◌≤◌}
use mathlib.Core.Bool.{Bool}
use mathlib.Core.Path.{◌≡◌}
use lib.ListN.{length}
use Rattle.variable.specs.Bytes.{variables_of}
use Rattle.variable.specs.Closing.{AnswersAs, ClosedUp}
use Rattle.variable.specs.Limits.{variables_size}
use Rattle.variable.specs.declared.Variable.{Variable}
use Rattle.variable.proofs.free.close_up.Given as goal

abbrev pub invariant-loop-i : goal.invariant-loop-i
invariant-loop-i g l = (length l.variables ≡ variables_size) × (l.i ≤ l.count) × (l.kept ≤ l.i)
    × ((test : Variable → Bool) → AnswersAs (goal.F-post g l.gone) test
    → ClosedUp (variables_of l.initial.variables) l.i test l.variables l.kept)
