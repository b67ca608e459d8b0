-- The product so far is the power of as many factors as there were turns.
use Rattle.std.proofs.Common.{arith}
use Rattle.scaling.proofs.Powers.{one, real-next}
use Rattle.scaling.proofs.power.power_real.Goals as goal

pub loop-init : goal.loop-init
loop-init c = (omega arith, one c.args.x)

pub loop-preserved : goal.loop-preserved
loop-preserved c = (omega arith, real-next c.args.x c.loop.counter c.loop.invariant.1)
