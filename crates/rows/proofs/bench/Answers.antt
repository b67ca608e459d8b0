-- `rows::bench` meets its contract, which is the bench table.
use Rattle.rows.proofs.BenchCases.{bench-holds}
use Rattle.rows.proofs.bench.Goals as goal

-- `rows::bench` meets its contract, which is the bench table.

pub returns : goal.returns
returns c = bench-holds
