-- `machine::done_exactly` meets its contract: what every done call answers and leaves.
use Rattle.machine.specs.Done.{DoneExactly}
use Rattle.machine.proofs.Done.Booting.{boot-done, format-done}
use Rattle.machine.proofs.Done.Files.{erase-done, files-done, free-space-done, retrieve-done, store-done}
use Rattle.machine.proofs.Done.Processes.{command-done, list_done, run-done, share-done}
use Rattle.machine.proofs.done_exactly.Goals as goal

-- `machine::done_exactly` meets its contract: what every done call answers and leaves.

pub returns : goal.returns
unfolding DoneExactly
returns c = (
  store-done,
  retrieve-done,
  erase-done,
  files-done,
  free-space-done,
  run-done,
  list_done,
  command-done,
  share-done,
  boot-done,
  format-done,
)
