-- `machine::waits_keep_time` meets its contract.
use Rattle.machine.specs.Waiting.{WaitsKeepTime}
use Rattle.machine.proofs.Waiting.{waits}
use Rattle.machine.proofs.waits_keep_time.Goals as goal

-- `machine::waits_keep_time` meets its contract.

pub returns : goal.returns
unfolding WaitsKeepTime
returns c = waits
