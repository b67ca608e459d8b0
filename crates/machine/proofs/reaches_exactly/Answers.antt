-- `machine::reaches_exactly` meets its contract: what the instructions that reach beyond their process do, and which faults they have.
use Rattle.machine.specs.Reaching.{ReachesExactly}
use Rattle.machine.proofs.Reaching.Bounding.{faults-bounded}
use Rattle.machine.proofs.Reaching.FileBytes.{read-exactly, read-string-exactly, write-exactly}
use Rattle.machine.proofs.Reaching.Finding.{reads_of}
use Rattle.machine.proofs.Reaching.Forking.{fork-exactly}
use Rattle.machine.proofs.Reaching.Opening.{close-exactly, open-exactly}
use Rattle.machine.proofs.Reaching.Setting.{set-exactly}
use Rattle.machine.proofs.Reaching.Waiting.{wait-exactly}
use Rattle.machine.proofs.reaches_exactly.Goals as goal

-- `machine::reaches_exactly` meets its contract: what the instructions that reach beyond their process do, and which faults they have.

pub returns : goal.returns
unfolding ReachesExactly
returns c = λ b slot clock. (
  set-exactly b slot clock,
  open-exactly b slot clock,
  close-exactly b slot clock,
  write-exactly b slot clock,
  read-exactly b slot clock 56 2 reads_of.0,
  read-exactly b slot clock 57 1 reads_of.1,
  read-exactly b slot clock 58 4 reads_of.2,
  read-string-exactly b slot clock,
  fork-exactly b slot clock,
  wait-exactly b slot clock,
  faults-bounded b slot clock,
)
