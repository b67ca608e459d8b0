-- `machine::fault_touches_own` meets its contract: a turn that ends its process touches nothing else.
use Rattle.machine.specs.Demands.{FaultTouchesOwn}
use Rattle.machine.proofs.Demands.TurnCalls.{ended-only, ends-or-runs}
use Rattle.machine.proofs.fault_touches_own.Goals as goal

-- `machine::fault_touches_own` meets its contract: a turn that ends its process touches nothing else.

pub returns : goal.returns
unfolding FaultTouchesOwn
returns c = λ b slot clock may. (ended-only b slot clock may, ends-or-runs b slot clock may)
