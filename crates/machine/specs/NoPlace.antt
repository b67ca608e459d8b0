-- What it is that a place is lacking: a table is full, or no free run is long enough.
use Rattle.std.specs.Prelude.{None, Option, Some}
use Rattle.std.specs.Prelude.{ℕ, ◌≤◌, ◌≡◌, false, List, ◌⊎◌}
use Rattle.place.specs.Place.{fits}
use Rattle.place.specs.declared.Run.{Run}
use Rattle.disc.specs.Layout.{max_files}
use Rattle.store.specs.Room.{Free}
use Rattle.variable.specs.Assign.{entry_limit, high_end, low_end, taken_runs}
use Rattle.variable.specs.declared.Variables.{Variables}
use Rattle.machine.specs.Fields.{IsName, files_on}

-- no start for n bytes among these runs between lo and hi
abbrev pub NoneFits : List Run → ℕ → ℕ → ℕ → Type 0
NoneFits runs lo hi n = (s : ℕ) → fits runs lo hi n s ≡ false

-- Document 01, fault 10: "no variable entry or run"
abbrev pub Lacking : Variables → ℕ → Type 0
Lacking v n = (entry_limit ≤ v.count) ⊎ NoneFits (taken_runs v) low_end high_end n

-- Document 01, fault 13: "OPEN's new file refused by name, size or store's 8 or 9"
pub data NewFileRefused (disc name : List ℕ) (size : Option ℕ) : Type 0 where
  by_name : (IsName name → ⊥) → NewFileRefused disc name size
  by_size : size ≡ None → NewFileRefused disc name size
  by-full : files_on disc ≡ max_files → NewFileRefused disc name size
  by-no-run : (n : ℕ) → size ≡ Some n → ((start : ℕ) → Free disc n start → ⊥) → NewFileRefused disc name size
