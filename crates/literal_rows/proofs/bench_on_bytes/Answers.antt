-- `literal_rows::bench_on_bytes` meets its contract.
use Rattle.literal_rows.proofs.Rows.{bench-holds}
use Rattle.literal_rows.proofs.bench_on_bytes.Goals as goal

-- `literal_rows::bench_on_bytes` meets its contract.

pub returns : goal.returns
returns c = bench-holds
