-- `rows::misreadings` meets its contract, which is the table of misreadings.
use Rattle.rows.proofs.BenchCases.{misreadings-hold}
use Rattle.rows.proofs.misreadings.Goals as goal

-- `rows::misreadings` meets its contract, which is the table of misreadings.

pub returns : goal.returns
returns c = misreadings-hold
