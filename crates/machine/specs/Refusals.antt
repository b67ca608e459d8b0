-- The tests that an operation on both buffers makes first, and those of a turn.
use Rattle.std.specs.Prelude.{ℕ, ◌≡◌, true, ◌&&◌, List, leb, ltb, length}
use Rattle.disc.specs.Directory.{good_disc, is_disc_length}
use Rattle.machine.specs.Answer.{Buffers, good_area}
use Rattle.machine.specs.Area.{is_area_length, kernel_of}
use Rattle.machine.specs.Limits.{slot_count, turn_room}
use Rattle.machine.specs.State.{is_running, process_at}
use Rattle.machine.specs.declared.Kernel.{Kernel}

-- Document 01: "1: a buffer has the wrong length. 2: disc not good. 3: work area not good." None of them holds.
pub record Passes (disc area : List ℕ) : Type 0 where
  pub sizes : is_disc_length (length disc) && is_area_length (length area) ≡ true
  pub disc-good : good_disc disc ≡ true
  pub area-good : good_area disc area ≡ true

-- the state that the work area says
abbrev pub state_of : Buffers → Kernel
state_of b = kernel_of b.area

-- nothing refuses a turn: good buffers, "at least 32 output bytes", and not "16 slot above 9 or not running"
pub record MayTurn (b : Buffers) (slot : ℕ) : Type 0 where
  pub passes : Passes b.disc b.area
  pub room : leb turn_room (length b.out) ≡ true
  pub low : ltb slot slot_count ≡ true
  pub running : is_running (process_at (kernel_of b.area) slot) ≡ true
