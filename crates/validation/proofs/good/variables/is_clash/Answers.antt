-- Each turn tests one pair more.
use mathlib.Core.Path.{refl}
use native.Mathlib.Omega.{arith}
use Rattle.buffer.proofs.Equivalence.{asked-all, asked-next, asked-none}
use Rattle.validation.specs.Columns.{clash}
use Rattle.validation.proofs.good.variables.is_clash.Goals as goal

pub loop-i-init : goal.loop-i-init
loop-i-init c = asked-none _ _ _

pub loop-i-preserved : goal.loop-i-preserved
unfolding clash
loop-i-preserved c =
    asked-next _ _ _ c.loop-i.invariant (omega arith) refl

pub returns : goal.returns
returns c = asked-all _ _ _ c.loop-i.invariant (omega arith)
