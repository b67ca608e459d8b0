-- `machine::new_file_reads_empty` meets its contract.
use Rattle.machine.proofs.NewFiles.Turns.{new-file-reads-empty}
use Rattle.machine.proofs.new_file_reads_empty.Goals as goal

-- `machine::new_file_reads_empty` meets its contract.

pub returns : goal.returns
returns c = new-file-reads-empty
