-- By the state.
use mathlib.Core.Path.{sym, ◌∙◌}
use Rattle.validation.specs.Columns.{slot_id}
use Rattle.validation.proofs.good.ids.live_id.Goals as goal

pub returns-then-is_live : goal.returns-then-is_live
unfolding slot_id
returns-then-is_live c =
    rw (sym c.is_live.ensures ∙ c.if-is_live.true) c.word_at.ensures

pub returns : goal.returns
unfolding slot_id
returns c = rw (sym c.is_live.ensures ∙ c.if-is_live.false)
