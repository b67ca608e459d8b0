-- `literal_rows::listings` meets its contract.
use Rattle.literal_rows.proofs.Rows.{listings-hold}
use Rattle.literal_rows.proofs.listings.Goals as goal

-- `literal_rows::listings` meets its contract.

pub returns : goal.returns
returns c = listings-hold
