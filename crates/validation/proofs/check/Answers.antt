-- Both lengths, then the disc, then the area.
use mathlib.Core.Path.{sym, ◌∙◌}
use borrow.Author.Tests.{eq-eqb, ne_eqb}
use Rattle.disc.proofs.Lengths.{disc-bounds, readable}
use Rattle.validation.specs.Tests.{tested}
use Rattle.validation.proofs.check.Goals as goal
use Rattle.validation.proofs.check.Goals.{then-not-is_disc_length-via-then-not-is_disc_length}
use Rattle.validation.proofs.check.Goals.{then-not-is_disc_length-via-else-not-is_disc_length+then-area-ne-AREA_LENGTH}

pub returns-then-not-is_disc_length : goal.returns-then-not-is_disc_length
unfolding tested
returns-then-not-is_disc_length c =
    elim c.then-not-is_disc_length.branch [
      | then-not-is_disc_length-via-then-not-is_disc_length w ↦ rw (sym c.is_disc_length.ensures ∙ w.if-not-is_disc_length.true)
      | then-not-is_disc_length-via-else-not-is_disc_length+then-area-ne-AREA_LENGTH w ↦
          rw (sym c.is_disc_length.ensures ∙ w.if-not-is_disc_length.false, ne_eqb _ _ w.if-area-ne-AREA_LENGTH.true)
    ]

pub is_good_disc-requires : goal.is_good_disc-requires
is_good_disc-requires c = (disc-bounds _ (sym c.is_disc_length.ensures ∙ c.if-not-is_disc_length.false)).low

pub returns-then-not-is_good_disc : goal.returns-then-not-is_good_disc
unfolding tested
returns-then-not-is_good_disc c =
    rw (
      sym c.is_disc_length.ensures ∙ c.if-not-is_disc_length.false,
      eq-eqb _ _ c.if-area-ne-AREA_LENGTH.false,
      sym c.is_good_disc.ensures ∙ c.if-not-is_good_disc.true,
    )

pub is_good_area-requires : goal.is_good_area-requires
is_good_area-requires c =
    let good = sym c.is_good_disc.ensures ∙ c.if-not-is_good_disc.false in
    (readable c.args.disc.now (sym c.is_disc_length.ensures ∙ c.if-not-is_disc_length.false) good, good, c.if-area-ne-AREA_LENGTH.false)

pub returns-then-not-is_good_area : goal.returns-then-not-is_good_area
unfolding tested
returns-then-not-is_good_area c =
    rw (
      sym c.is_disc_length.ensures ∙ c.if-not-is_disc_length.false,
      eq-eqb _ _ c.if-area-ne-AREA_LENGTH.false,
      sym c.is_good_disc.ensures ∙ c.if-not-is_good_disc.false,
      sym c.is_good_area.ensures ∙ c.if-not-is_good_area.true,
    )

pub returns : goal.returns
unfolding tested
returns c =
    rw (
      sym c.is_disc_length.ensures ∙ c.if-not-is_disc_length.false,
      eq-eqb _ _ c.if-area-ne-AREA_LENGTH.false,
      sym c.is_good_disc.ensures ∙ c.if-not-is_good_disc.false,
      sym c.is_good_area.ensures ∙ c.if-not-is_good_area.false,
    )
