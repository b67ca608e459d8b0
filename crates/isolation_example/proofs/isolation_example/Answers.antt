-- `isolation_example::isolation_example` meets its contract: the two runs and what they show.
use Rattle.isolation_example.proofs.Runs.{example-holds}
use Rattle.isolation_example.proofs.isolation_example.Goals as goal

-- `isolation_example::isolation_example` meets its contract: the two runs and what they show.

pub returns : goal.returns
returns c = example-holds
