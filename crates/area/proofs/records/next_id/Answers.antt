-- The word at its place.
use Rattle.machine.specs.Area.{kernel_of}
use Rattle.area.proofs.records.next_id.Goals as goal

pub returns : goal.returns
unfolding kernel_of
returns c = c.word_at.ensures
