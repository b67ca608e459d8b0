-- `literal_rows::disc_rows` meets its contract.
use Rattle.literal_rows.proofs.Rows.{disc-rows-hold}
use Rattle.literal_rows.proofs.disc_rows.Goals as goal

-- `literal_rows::disc_rows` meets its contract.

pub returns : goal.returns
returns c = disc-rows-hold
