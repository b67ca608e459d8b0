-- `literal_rows::long_disc_rows` meets its contract.
use Rattle.literal_rows.proofs.Rows.{long-disc-rows-hold}
use Rattle.literal_rows.proofs.long_disc_rows.Goals as goal

-- `literal_rows::long_disc_rows` meets its contract.

pub returns : goal.returns
returns c = long-disc-rows-hold
