-- `machine::places_refused_only` meets its contract: a place is refused only where there is none.
use Rattle.machine.specs.Demands.{PlacesRefusedOnly}
use Rattle.machine.proofs.Demands.EndFaults.{open-refused, set-no-place}
use Rattle.machine.proofs.places_refused_only.Goals as goal

-- `machine::places_refused_only` meets its contract: a place is refused only where there is none.

pub returns : goal.returns
unfolding PlacesRefusedOnly
returns c = (set-no-place, open-refused)
