-- `operations::check` meets its contract: first the length, then the goodness.
use mathlib.Core.Path.{sym, ◌∙◌}
use Rattle.disc.proofs.Lengths.{disc-bounds}
use Rattle.store.specs.Answer.{checked}
use Rattle.disc_operation.proofs.operations.check.Goals as goal

pub returns-then-not-is_disc_length : goal.returns-then-not-is_disc_length
unfolding checked
returns-then-not-is_disc_length c = rw (sym c.is_disc_length.ensures ∙ c.if-not-is_disc_length.true)

pub is_good_disc-requires : goal.is_good_disc-requires
is_good_disc-requires c = (disc-bounds _ (sym c.is_disc_length.ensures ∙ c.if-not-is_disc_length.false)).low

pub returns-then-not-is_good_disc : goal.returns-then-not-is_good_disc
unfolding checked
returns-then-not-is_good_disc c =
    rw (
      sym c.is_disc_length.ensures ∙ c.if-not-is_disc_length.false,
      sym c.is_good_disc.ensures ∙ c.if-not-is_good_disc.true,
    )

pub returns : goal.returns
unfolding checked
returns c =
    rw (
      sym c.is_disc_length.ensures ∙ c.if-not-is_disc_length.false,
      sym c.is_good_disc.ensures ∙ c.if-not-is_good_disc.false,
    )
