-- `machine::isolation` meets its contract, which is demand 3.
use Rattle.machine.proofs.Traces.Isolated.{isolated}
use Rattle.machine.proofs.isolation.Goals as goal

-- `machine::isolation` meets its contract, which is demand 3.

pub returns : goal.returns
returns c = isolated
