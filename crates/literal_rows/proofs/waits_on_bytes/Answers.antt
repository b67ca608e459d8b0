-- `literal_rows::waits_on_bytes` meets its contract.
use Rattle.literal_rows.proofs.Rows.{waits-hold}
use Rattle.literal_rows.proofs.waits_on_bytes.Goals as goal

-- `literal_rows::waits_on_bytes` meets its contract.

pub returns : goal.returns
returns c = waits-hold
