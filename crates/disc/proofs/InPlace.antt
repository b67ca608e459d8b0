-- An entry of the directory read in place: its name and its run are those of `entry_at`.
use Prim.Native.Nat.{ℕ, ◌+◌, ◌*◌, ◌≤◌, ◌<◌}
use mathlib.Core.Path.{◌≡◌, refl, sym, ap}
use mathlib.Core.List.{List}
use native.Mathlib.Omega.{arith}
use lib.ListN.{length, drop}
use lib.Seq.{take-take}
use Rattle.buffer.specs.Buffer.{part, word_at}
use Rattle.disc.specs.Directory.{entry_at, run_of}
use Rattle.disc.specs.Layout.{data_start, entry_size, max_files, name_size}
use Rattle.disc.proofs.Entries.{entry-fields}

module _ (disc : List ℕ) (i : ℕ) where
  pub name-in-place : part disc (i * entry_size) name_size ≡ (entry_at disc i).name
  unfolding entry_at
  name-in-place = sym (take-take name_size entry_size (drop (i * entry_size) disc) (omega arith))

  pub run-in-place : data_start ≤ length disc → i < max_files → (start len : ℕ) → start ≡ word_at disc (i * entry_size + name_size)
      → len ≡ word_at disc (i * entry_size + name_size + 2) → record { start = start; len = len } ≡ run_of (entry_at disc i)
  unfolding entry_at
  run-in-place h k start len s l =
      ap run_of (entry-fields disc (i * entry_size) (part disc (i * entry_size) name_size) start len (omega arith) refl s l)
