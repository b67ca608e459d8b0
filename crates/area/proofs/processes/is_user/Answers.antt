-- A live record that runs the file or has it open.
use Rattle.area.proofs.processes.is_user.Goals as goal

pub returns : goal.returns
returns c = rw (c.is_live.ensures, c.is_program.ensures, c.is_open_in.ensures)
