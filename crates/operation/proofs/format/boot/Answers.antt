-- An area of the right length is cleared, any other refused.
use Rattle.std.specs.Prelude.{Ok}
use Prim.Native.Nat.{ℕ}
use mathlib.Core.Path.{ap}
use mathlib.Core.List.{List}
use borrow.Author.Tests.{eq-eqb, ne_eqb}
use Rattle.machine.specs.Answer.{boot_answer}
use Rattle.operation.specs.Answers.{answered}
use Rattle.operation.proofs.format.boot.Goals as goal

pub returns-then-area-ne-AREA_LENGTH : goal.returns-then-area-ne-AREA_LENGTH
unfolding boot_answer
returns-then-area-ne-AREA_LENGTH c disc out = rw (ne_eqb _ _ c.if-area-ne-AREA_LENGTH.true)

pub returns : goal.returns
unfolding boot_answer
returns c disc out =
    rw (eq-eqb _ _ c.if-area-ne-AREA_LENGTH.false) (ap (λ (l : List ℕ). answered (Ok 0) disc l out) c.clear_area.ensures)
