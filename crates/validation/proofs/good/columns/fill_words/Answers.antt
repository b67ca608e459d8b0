-- Each turn fills one place more with its word.
use native.Mathlib.Omega.{arith}
use Rattle.validation.proofs.Columns.{column-filled, column-next, column-none}
use Rattle.validation.proofs.good.columns.fill_words.Goals as goal

pub loop-i-init : goal.loop-i-init
loop-i-init c = column-none _ _ _

pub loop-i-preserved : goal.loop-i-preserved
loop-i-preserved c =
    column-next _ _ _ c.loop-i.invariant (omega arith) (omega arith) c.word_at.ensures

pub returns : goal.returns
returns c = column-filled _ _ _ c.loop-i.invariant (omega arith)
