-- `scaling::maps_ends` meets its contract, which is a law of Meaning.
use Rattle.scaling.specs.Meaning.{MapsEnds}
use Rattle.scaling.proofs.Meaning.{ends}
use Rattle.scaling.proofs.maps_ends.Goals as goal

pub returns : goal.returns
unfolding MapsEnds
returns c = ends
