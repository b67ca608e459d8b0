-- An entry's fields lie at their offsets.
use mathlib.Core.Path.{◌≡◌}
use mathlib.Core.List.{List}
use Prim.Native.Nat.{ℕ}
use native.Mathlib.Omega.{arith}
use Rattle.buffer.specs.Buffer.{part}
use Rattle.buffer.proofs.Parts.{part-first, part-word}
use Rattle.place.specs.Place.{run_from}
use Rattle.disc.specs.Directory.{contents, entry_at, run_of}
use Rattle.disc.specs.Layout.{entry_size, name_size}
use Rattle.disc.specs.Offsets.{entry_start, size_of, start_of}

-- what file i holds
abbrev pub bytes_of : List ℕ → ℕ → List ℕ
bytes_of disc i = contents disc (run_from (start_of disc i) (size_of disc i))

module _ (disc : List ℕ) (i : ℕ) where
  pub entry-name : (entry_at disc i).name ≡ part disc (entry_start i) name_size
  unfolding entry_at
  entry-name = part-first disc (entry_start i) name_size entry_size (omega arith)

  pub entry-start : (entry_at disc i).start ≡ start_of disc i
  unfolding entry_at
  entry-start = part-word disc (entry_start i) entry_size 12 (omega arith)

  pub entry-size : (entry_at disc i).len ≡ size_of disc i
  unfolding entry_at
  entry-size = part-word disc (entry_start i) entry_size 14 (omega arith)

  pub bytes-of : contents disc (run_of (entry_at disc i)) ≡ bytes_of disc i
  bytes-of = λ z. contents disc (run_from (entry-start z) (entry-size z))
