-- `machine::refused_exactly` meets its contract: the first test that fails refuses a call, and where none does it is done.
use Rattle.machine.specs.Tests.{RefusedExactly}
use Rattle.machine.proofs.Demands.Refused.{boot-decided, call-decided, format-decided}
use Rattle.machine.proofs.refused_exactly.Goals as goal

-- `machine::refused_exactly` meets its contract: the first test that fails refuses a call, and where none does it is done.

pub returns : goal.returns
unfolding RefusedExactly
returns c = ((λ c b. (call-decided c b).is), (λ b. (format-decided b).is), (λ b. (boot-decided b).is))
