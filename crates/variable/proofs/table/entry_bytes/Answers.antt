-- The entry's fields in order, the owner low byte first.
use Rattle.variable.proofs.table.entry_bytes.Goals as goal

pub returns : goal.returns
returns c = cc
