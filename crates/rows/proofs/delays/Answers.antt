-- `rows::delays` meets its contract, which is the table of DELAYUNTIL.
use Rattle.rows.proofs.BenchCases.{delays-hold}
use Rattle.rows.proofs.delays.Goals as goal

-- `rows::delays` meets its contract, which is the table of DELAYUNTIL.

pub returns : goal.returns
returns c = delays-hold
