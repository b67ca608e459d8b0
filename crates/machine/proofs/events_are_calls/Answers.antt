-- `machine::events_are_calls` meets its contract: the events of a run lead where its calls lead.
use Rattle.machine.specs.Demands.{EventsAreCalls}
use Rattle.machine.proofs.Traces.RunEvents.{run-is-events}
use Rattle.machine.proofs.events_are_calls.Goals as goal

-- `machine::events_are_calls` meets its contract: the events of a run lead where its calls lead.

pub returns : goal.returns
unfolding EventsAreCalls
returns c = run-is-events
