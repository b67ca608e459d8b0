-- `literal_rows::area_rows` meets its contract.
use Rattle.literal_rows.proofs.Rows.{area-rows-hold}
use Rattle.literal_rows.proofs.area_rows.Goals as goal

-- `literal_rows::area_rows` meets its contract.

pub returns : goal.returns
returns c = area-rows-hold
