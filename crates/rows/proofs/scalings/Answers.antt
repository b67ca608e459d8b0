-- `rows::scalings` meets its contract, which is the table of scaling.
use Rattle.rows.proofs.BenchCases.{scalings-hold}
use Rattle.rows.proofs.scalings.Goals as goal

-- `rows::scalings` meets its contract, which is the table of scaling.

pub returns : goal.returns
returns c = scalings-hold
