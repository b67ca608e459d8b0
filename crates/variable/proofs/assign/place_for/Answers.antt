-- No entry where all are used; otherwise what the search for a run finds.
use mathlib.Core.Path.{ap, ◌∙◌}
use borrow.Author.Tests.{le-ltb, lt-ltb}
use Prim.Native.Nat.{ℕ}
use Rattle.std.specs.Prelude.{Option}
use Rattle.std.specs.Option.{ok_or}
use Rattle.variable.specs.Assign.{placing}
use Rattle.variable.specs.declared.Unplaced.TheVariants.{NoRun}
use native.Mathlib.Omega.{arith}
use Rattle.variable.proofs.assign.place_for.Goals as goal

pub returns-then-limit-used : goal.returns-then-limit-used
unfolding placing
returns-then-limit-used c = rw (le-ltb c.args.used c.args.limit (omega arith))

pub returns : goal.returns
unfolding placing
returns c =
    rw (lt-ltb c.args.used c.args.limit (omega arith)) (c.ok_or.ensures.value ∙ ap (λ (f : Option ℕ). ok_or f NoRun) c.find_place.ensures)
