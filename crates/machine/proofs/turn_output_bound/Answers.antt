-- `machine::turn_output_bound` meets its contract: a turn prints at most 32 bytes.
use Rattle.machine.specs.Demands.{TurnOutputBound}
use Rattle.machine.proofs.Demands.TurnCalls.{turn-output-bound}
use Rattle.machine.proofs.turn_output_bound.Goals as goal

-- `machine::turn_output_bound` meets its contract: a turn prints at most 32 bytes.

pub returns : goal.returns
unfolding TurnOutputBound
returns c = turn-output-bound
