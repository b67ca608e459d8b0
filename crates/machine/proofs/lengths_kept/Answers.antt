-- `machine::lengths_kept` meets its contract: no call changes the length of a buffer.
use Rattle.machine.specs.Demands.{LengthsKept}
use Rattle.machine.proofs.Demands.Lengths.{boot-lengths, format-lengths, lengths-kept}
use Rattle.machine.proofs.lengths_kept.Goals as goal

-- `machine::lengths_kept` meets its contract: no call changes the length of a buffer.

pub returns : goal.returns
unfolding LengthsKept
returns c = ((λ c b. lengths-kept b c), format-lengths, boot-lengths)
