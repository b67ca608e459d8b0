-- `literal_rows::run_on_bytes` meets its contract.
use Rattle.literal_rows.proofs.Rows.{run_holds}
use Rattle.literal_rows.proofs.run_on_bytes.Goals as goal

-- `literal_rows::run_on_bytes` meets its contract.

pub returns : goal.returns
returns c = run_holds
