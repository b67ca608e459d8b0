-- `machine::round_is_turns` meets its contract: a done round is exactly its turns.
use Rattle.machine.specs.Demands.{RoundIsTurns}
use Rattle.machine.proofs.Traces.RoundEvents.{round-events}
use Rattle.machine.proofs.Traces.RunEvents.{bytes_whole, whole-after}
use Rattle.machine.proofs.round_is_turns.Goals as goal

-- `machine::round_is_turns` meets its contract: a done round is exactly its turns.

pub returns : goal.returns
unfolding RoundIsTurns
returns c = (round-events, bytes_whole, whole-after)
