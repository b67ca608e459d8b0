-- Its tests are those of `good_process`: the state, and a live record.
use mathlib.Core.Path.{sym, ◌∙◌}
use borrow.Author.Tests.{eq-eqb, ne_eqb}
use Rattle.machine.specs.GoodArea.{good_process}
use Rattle.validation.proofs.good.records.is_good_record.Goals as goal

pub returns-then-state-eq0 : goal.returns-then-state-eq0
unfolding good_process
returns-then-state-eq0 c = rw (eq-eqb _ _ c.if-state-eq0.true)

pub returns-then-not-is_live : goal.returns-then-not-is_live
unfolding good_process
returns-then-not-is_live c =
    rw (ne_eqb _ _ c.if-state-eq0.false, sym c.is_live.ensures ∙ c.if-not-is_live.true)

pub returns : goal.returns
unfolding good_process
returns c =
    rw (ne_eqb _ _ c.if-state-eq0.false, sym c.is_live.ensures ∙ c.if-not-is_live.false) c.is_good_live.ensures
