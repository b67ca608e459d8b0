-- Each field is read at its place of the record's bytes.
use Rattle.area.proofs.records.process_of.Goals as goal

pub returns : goal.returns
returns c = cc
