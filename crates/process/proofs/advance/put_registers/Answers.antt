-- The fields in order, each word low byte first, are laid over the area.
use Rattle.process.proofs.advance.put_registers.Goals as goal

pub returns : goal.returns
returns c = cc
