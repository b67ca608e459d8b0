-- The byte behind the entries.
use Rattle.variable.proofs.Bytes.{count-read}
use Rattle.variable.proofs.table.count_of.Goals as goal

pub returns : goal.returns
returns c = count-read c.args.variables.now
