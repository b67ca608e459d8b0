-- Start and length of the open file.
use Rattle.area.proofs.processes.is_open_in.Goals as goal

pub returns : goal.returns
returns c =
    rw (c.word_at-start.ensures, c.word_at-len.ensures)
