-- The fields in order, each word low byte first.
use Rattle.area.proofs.records.register_bytes.Goals as goal

pub returns : goal.returns
returns c = cc
