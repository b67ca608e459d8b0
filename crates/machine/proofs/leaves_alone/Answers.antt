-- `machine::leaves_alone` meets its contract: what a call leaves alone, done or refused.
use Rattle.machine.specs.LeftAlone.{LeavesAlone}
use Rattle.machine.proofs.LeftAlone.Buffers.{boot-keeps, call-leaves, format-keeps}
use Rattle.machine.proofs.LeftAlone.Files.{files-kept}
use Rattle.machine.proofs.LeftAlone.Processes.{processes-kept}
use Rattle.machine.proofs.leaves_alone.Goals as goal

-- `machine::leaves_alone` meets its contract: what a call leaves alone, done or refused.

pub returns : goal.returns
unfolding LeavesAlone
returns c = (
  ((λ c b. (call-leaves b c).0), format-keeps, boot-keeps),
  (λ c b. (call-leaves b c).1),
  (λ c b own live far. processes-kept b own live c far),
  (λ c b name i n far. files-kept b name i n c far),
)
