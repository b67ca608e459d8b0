-- Both lengths are tested; then the disc is zeros, and the area is cleared.
use Rattle.std.specs.Prelude.{Ok}
use Prim.Native.Nat.{ℕ}
use borrow.Author.Rules.{rules}
use mathlib.Core.Path.{◌≡◌, sym, ap₂, ◌∙◌}
use mathlib.Core.Bool.{true}
use mathlib.Core.List.{List}
use lib.ListN.{length}
use borrow.Author.Tests.{eq-eqb, ne_eqb}
use Rattle.disc.specs.Directory.{is_disc_length}
use Rattle.machine.specs.Answer.{format_answer}
use Rattle.operation.specs.Answers.{answered}
use Rattle.operation.proofs.format.format.Goals as goal

pub returns-then-not-is_disc_length : goal.returns-then-not-is_disc_length
unfolding format_answer
returns-then-not-is_disc_length c out = rw (sym c.is_disc_length.ensures ∙ c.if-not-is_disc_length.true)

pub returns-then-area-ne-AREA_LENGTH : goal.returns-then-area-ne-AREA_LENGTH
unfolding format_answer
returns-then-area-ne-AREA_LENGTH c out =
    let disc-long : is_disc_length (length c.args.disc.now) ≡ true = sym c.is_disc_length.ensures ∙ c.if-not-is_disc_length.false in
    rw (disc-long, ne_eqb _ _ c.if-area-ne-AREA_LENGTH.true)

pub returns : goal.returns
unfolding format_answer
returns c out =
    let disc-long : is_disc_length (length c.args.disc.now) ≡ true = sym c.is_disc_length.ensures ∙ c.if-not-is_disc_length.false in
    rw (disc-long, eq-eqb _ _ c.if-area-ne-AREA_LENGTH.false)
    (ap₂ (λ (d a : List ℕ). answered (Ok 0) d a out) (c.fill.ensures.after (λ y e. search rules)) c.clear_area.ensures)
