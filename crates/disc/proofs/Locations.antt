-- Where the bytes of a file lie: on the disc, behind the directory, each at a place of its own and no two files at one.
-- Where that is, is read here and in the proofs of the code that reads and writes them, nowhere else.
use Prim.Native.Nat.{ℕ, ◌+◌, ◌≤◌, ◌<◌}
use mathlib.Core.Path.{◌≡◌, refl, subst⁻¹, sym}
use mathlib.Core.Bool.{true}
use mathlib.Core.List.{List}
use mathlib.Core.Logic.{⊎_elim}
use native.Mathlib.Omega.{arith}
use lib.ListN.{length}
use Rattle.buffer.specs.Buffer.{part}
use Rattle.buffer.proofs.Scattered.{Distinct, gathered, gathered-part}
use Rattle.place.specs.declared.Run.{Run}
use Rattle.place.proofs.Place.{apart-is}
use Rattle.disc.specs.Directory.{contents, entry_at, file_count, good_disc, run_of}
use Rattle.disc.specs.Layout.{data_start}
use Rattle.disc.proofs.Goodness.{beside_at, good-entry-at}

-- where the byte at an offset of a file lies
unfoldable pub location : List ℕ → Run → ℕ → ℕ
location disc run i = run.start + i

-- ---- files
-- the directory has a file of that start and length
pub record FileAt (disc : List ℕ) (run : Run) : Type 0 where
  pub place : ℕ
  pub inside : place < file_count disc
  pub run_is : run ≡ run_of (entry_at disc place)

-- a file of a good disc
pub record Held (disc : List ℕ) (run : Run) : Type 0 where
  pub sound : good_disc disc ≡ true
  pub file : FileAt disc run

pub file-held : (disc : List ℕ) → good_disc disc ≡ true → (i : ℕ) → i < file_count disc → Held disc (run_of (entry_at disc i))
file-held disc good i h = record { sound = good; file = record { place = i; inside = h; run_is = refl } }

-- ---- what a run within the disc holds: the bytes at its places, which lie one behind the other
pub contents-gathered : (disc : List ℕ) (run : Run) → run.start + run.len ≤ length disc
    → contents disc run ≡ gathered (location disc run) disc run.len
unfolding contents location
contents-gathered disc run h = sym (gathered-part disc run.start run.len h)

pub contents-part : (disc : List ℕ) (run : Run) → contents disc run ≡ part disc run.start run.len
unfolding contents
contents-part disc run = refl

-- each at a place of its own, behind the directory where the run is
pub run-distinct : (disc : List ℕ) (run : Run) → run.start + run.len ≤ length disc → Distinct (location disc run) disc run.len
unfolding location
run-distinct disc run h = record { inside = λ i k. omega arith; once = λ i j k m e. omega arith }

pub location-low : (disc : List ℕ) (run : Run) (i : ℕ) → data_start ≤ run.start → data_start ≤ location disc run i
unfolding location
location-low disc run i h = omega arith

-- ---- the bytes of one file
-- between the directory and the disc's end
record Between (disc : List ℕ) (run : Run) : Type 0 where
  low : data_start ≤ run.start
  high : run.start + run.len ≤ length disc

between : {disc : List ℕ} {run : Run} → Held disc run → Between disc run
between {disc} h =
    let e = good-entry-at disc h.sound h.file.place h.file.inside in
    subst⁻¹ (Between disc) h.file.run_is (record { low = e.low; high = e.high })

module _ {disc : List ℕ} {run : Run} (h : Held disc run) where
  pub held-distinct : Distinct (location disc run) disc run.len
  held-distinct = run-distinct disc run (between h).high

  pub held-low : data_start ≤ run.start
  held-low = (between h).low

  pub held-inside : run.start + run.len ≤ length disc
  held-inside = (between h).high

-- ---- two files share no byte
pub files-apart : (disc : List ℕ) → good_disc disc ≡ true → (i j : ℕ) → i < file_count disc → j < file_count disc → (i ≡ j → ⊥)
    → (a b : ℕ) → a < (entry_at disc i).len → b < (entry_at disc j).len
    → location disc (run_of (entry_at disc j)) b ≡ location disc (run_of (entry_at disc i)) a → ⊥
unfolding location
files-apart disc good i j h k n a b p q e =
    let d = entry_at disc i in
    let f = entry_at disc j in
    ⊎_elim (λ (w : d.start + d.len ≤ f.start). omega arith) (λ (w : f.start + f.len ≤ d.start). omega arith)
    (apart-is (run_of d) (run_of f) (beside_at disc good i j h k n).clear).sides

-- ---- where a file lies is said by its start alone
pub location-kept : (d e : List ℕ) (run : Run) (i : ℕ) → location d run i ≡ location e run i
unfolding location
location-kept d e run i = refl
