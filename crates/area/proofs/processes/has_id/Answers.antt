-- A live record, and its ID.
use Rattle.area.proofs.processes.has_id.Goals as goal

pub returns : goal.returns
returns c = rw (c.is_live.ensures, c.word_at.ensures)
