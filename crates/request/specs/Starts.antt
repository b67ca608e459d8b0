-- Starting in code: what the answer stands for, and the bounds that come with it.
use Rattle.std.specs.Prelude.{ℕ, ◌<◌, ◌≡◌, false, List}
use Rattle.machine.specs.Area.{kernel_of}
use Rattle.machine.specs.Limits.{id_limit, slot_count}
use Rattle.machine.specs.Start.{starts, refuses}
use Rattle.machine.specs.Start.{Starting as StartOf}
use Rattle.machine.specs.State.{is_live, process_at}
use Rattle.disc.specs.Directory.{entry_at, file_count}
use Rattle.std.specs.Prelude.{Result, Ok, Err}
use Rattle.store.specs.Answer.{refusal_number}
use Rattle.store.specs.declared.Refusal.{Refusal}
use Rattle.request.specs.declared.Launch.{Launch}

-- Document 01, Run: "12 no ended slot, 10, 13 next ID is 32768"
abbrev pub starting_of : List ℕ → Result Launch Refusal → StartOf
starting_of disc (Ok s) = starts s.slot (entry_at disc s.place)
starting_of disc (Err r) = refuses (refusal_number r)

-- an ended slot of the ten, a file of the directory, and an ID left
pub record Startable (disc area : List ℕ) (slot i : ℕ) : Type 0 where
  pub slot-low : slot < slot_count
  pub ended : is_live (process_at (kernel_of area) slot) ≡ false
  pub file-low : i < file_count disc
  pub left : (kernel_of area).next ≡ id_limit → ⊥

abbrev pub Inside : (disc area : List ℕ) → Result Launch Refusal → Type 0
Inside disc area (Ok s) = Startable disc area s.slot s.place
Inside disc area (Err r) = Unit {0}
