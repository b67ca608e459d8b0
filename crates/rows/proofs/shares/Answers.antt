-- `rows::shares` meets its contract, which is the table of rounds with shares.
use Rattle.rows.proofs.ShareCases.{shares-hold}
use Rattle.rows.proofs.shares.Goals as goal

-- `rows::shares` meets its contract, which is the table of rounds with shares.

pub returns : goal.returns
returns c = shares-hold
