-- `machine::good_kept` meets its contract: good buffers stay good.
use Rattle.machine.specs.Demands.{GoodKept}
use Rattle.machine.proofs.Demands.Booted.{boot-good, format-good}
use Rattle.machine.proofs.Demands.GoodCalls.{good-kept}
use Rattle.machine.proofs.good_kept.Goals as goal

-- `machine::good_kept` meets its contract: good buffers stay good.

pub returns : goal.returns
unfolding GoodKept
returns c = ((λ c b passes. good-kept b passes c), format-good, boot-good)
