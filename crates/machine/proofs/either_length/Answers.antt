-- `machine::either_length` meets its contract: by laws.
use Rattle.disc.proofs.Lengths.{as_before}
use Rattle.machine.specs.DiscLengths.{EitherLength}
use Rattle.machine.proofs.Demands.DiscLengths.{both-sizes, empty-disc-takes, open-takes}
use Rattle.machine.proofs.either_length.Goals as goal

-- `machine::either_length` meets its contract: by laws.

pub returns : goal.returns
unfolding EitherLength
returns c = (both-sizes, empty-disc-takes, open-takes, as_before)
