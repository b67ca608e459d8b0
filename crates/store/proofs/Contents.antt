-- Laws of what files hold: their length, what keeps them, what a write makes of them.
use Prim.Native.Nat.{ℕ, ◌+◌, ◌-◌, ◌≤◌, ◌<◌}
use mathlib.Core.Path.{◌≡◌, sym, ap, ◌∙◌}
use mathlib.Core.Bool.{true}
use mathlib.Core.List.{List}
use native.Mathlib.Omega.{arith}
use lib.ListN.{drop, length, get_or, length-take, take}
use lib.Seq.{drop-drop, take_all}
use Rattle.buffer.specs.Buffer.{overwrite, part}
use Rattle.buffer.proofs.Buffer.{overwrite-part}
use Rattle.buffer.proofs.Parts.{part_length}
use Rattle.buffer.proofs.Scattered.{gathered, gathered-same, scattered-elsewhere, scattered-gathered}
use Rattle.place.specs.declared.Run.{Run}
use Rattle.disc.specs.Directory.{contents, entry_at, file_count, good_disc, run_of}
use Rattle.disc.proofs.Locations.{location, contents-gathered, file-held, files-apart, held-distinct, held-inside}
use Rattle.disc.proofs.Locations.{location-kept, run-distinct}
use Rattle.disc.specs.Layout.{data_start}
use Rattle.disc.proofs.Goodness.{good-entry-at}
use Rattle.store.specs.File.{entered, erased, read_at, written_at}
use Rattle.store.proofs.Changes.{Inside, Present, Room, entered-data, erased-data, written-length}
use Rattle.store.proofs.Changes.{written-scattered}
use Rattle.store.proofs.Invariant.{file-inside, present}

-- ---- lengths
pub contents-length : (disc : List ℕ) (run : Run) → run.start + run.len ≤ length disc → length (contents disc run) ≡ run.len
unfolding contents
contents-length disc run h = part_length disc run.start run.len h

pub contents-short : (disc : List ℕ) (run : Run) → length (contents disc run) ≤ run.len
unfolding contents
contents-short disc run = omega (arith, length-take run.len (drop run.start disc))

pub read_length : (disc : List ℕ) (run : Run) (offset n : ℕ) → run.start + run.len ≤ length disc → offset + n ≤ run.len
    → length (read_at disc run offset n) ≡ n
unfolding read_at
read_length disc run offset n inside h = part_length (contents disc run) offset n (omega (arith, contents-length disc run inside))

-- read from end to end
pub read_all : (disc : List ℕ) (run : Run) → read_at disc run 0 run.len ≡ contents disc run
unfolding read_at
read_all disc run = take_all run.len (contents disc run) (contents-short disc run)

-- ---- what leaves the data bytes as they are keeps what a run of them holds
same-contents : (d e : List ℕ) (run : Run) → drop data_start d ≡ drop data_start e → data_start ≤ run.start
    → contents d run ≡ contents e run
unfolding contents
same-contents d e run q h = sym (from d) ∙ ap (λ (l : List ℕ). part l (run.start - data_start) run.len) q ∙ from e
  where
    from : (l : List ℕ) → part (drop data_start l) (run.start - data_start) run.len ≡ part l run.start run.len
    from l =
        let m : data_start + (run.start - data_start) ≡ run.start = omega arith in
        ap (λ (r : List ℕ). take run.len r) (drop-drop (run.start - data_start) data_start l) ∙ ap (λ (k : ℕ). part l k run.len) m

pub erased-contents : {disc : List ℕ} {i : ℕ} → Present disc i → (run : Run) → data_start ≤ run.start
    → contents (erased disc i) run ≡ contents disc run
erased-contents {disc} {i} file run h = same-contents (erased disc i) disc run (erased-data file) h

pub entered-contents : {disc name : List ℕ} (n s : ℕ) → Room disc name → (run : Run) → data_start ≤ run.start
    → contents (entered disc name n s) run ≡ contents disc run
entered-contents {disc} {name} n s room run h = same-contents (entered disc name n s) disc run (entered-data n s room) h

module _ (disc : List ℕ) (good : good_disc disc ≡ true) (j : ℕ) (k : j < file_count disc) where
  -- a file goes: every other keeps what it holds
  pub erased-other-file : (i : ℕ) → i < file_count disc → (i ≡ j → ⊥)
      → contents (erased disc i) (run_of (entry_at disc j)) ≡ contents disc (run_of (entry_at disc j))
  erased-other-file i h d =
      erased-contents (present disc good i h) (run_of (entry_at disc j)) (good-entry-at disc good j k).low

  -- a write in one file leaves what every other file holds
  pub written-other-file : (i offset : ℕ) (bytes : List ℕ) → i < file_count disc → (i ≡ j → ⊥)
      → offset + length bytes ≤ (entry_at disc i).len
      → contents (written_at disc (run_of (entry_at disc i)) offset bytes) (run_of (entry_at disc j))
      ≡ contents disc (run_of (entry_at disc j))
  written-other-file i offset bytes h d fits =
      let own = run_of (entry_at disc i) in
      let other = run_of (entry_at disc j) in
      let after = written_at disc own offset bytes in
      let inside = held-inside (file-held disc good j k) in
      let within : Inside disc own offset (length bytes) = file-inside disc good i h offset (length bytes) fits in
      contents-gathered after other (omega (arith, written-length bytes within, inside))
      ∙ gathered-same (location after other) (location disc other) after after other.len
      (λ a m. ap (λ (p : ℕ). get_or after p 0) (location-kept after disc other a))
      ∙ ap (λ (l : List ℕ). gathered (location disc other) l other.len) (written-scattered bytes within)
      ∙ scattered-elsewhere (location disc own) own.len offset disc bytes (held-distinct (file-held disc good i h)) fits
      (location disc other) other.len (λ a b p q. files-apart disc good i j h k d a b p q)
      ∙ sym (contents-gathered disc other inside)

-- ---- a write, and a read, inside a file
module _ {disc : List ℕ} {run : Run} {offset : ℕ} (bytes : List ℕ) (inside : Inside disc run offset (length bytes)) where
  pub written-contents : contents (written_at disc run offset bytes) run ≡ overwrite (contents disc run) offset bytes
  written-contents =
      let after = written_at disc run offset bytes in
      contents-gathered after run (omega (arith, written-length bytes inside, inside.high))
      ∙ gathered-same (location after run) (location disc run) after after run.len
      (λ a m. ap (λ (p : ℕ). get_or after p 0) (location-kept after disc run a))
      ∙ ap (λ (l : List ℕ). gathered (location disc run) l run.len) (written-scattered bytes inside)
      ∙ scattered-gathered (location disc run) run.len offset disc bytes (run-distinct disc run inside.high) inside.fits
      ∙ ap (λ (l : List ℕ). overwrite l offset bytes) (sym (contents-gathered disc run inside.high))

  -- what was written is read
  pub written_read : read_at (written_at disc run offset bytes) run offset (length bytes) ≡ bytes
  unfolding read_at
  written_read =
      ap (λ (l : List ℕ). part l offset (length bytes)) written-contents
      ∙ overwrite-part (contents disc run) bytes offset (omega (arith, contents-length disc run inside.high, inside.fits))
