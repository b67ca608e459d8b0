-- A WRITE changes bytes inside the open file and the record of its process: the directory stays, and so does every file but that one.
use Prim.Native.Nat.{ℕ, ◌+◌, ◌≤◌}
use mathlib.Core.Path.{◌≡◌, sym, ap, ◌∙◌, subst, subst⁻¹}
use mathlib.Core.Bool.{true}
use mathlib.Core.List.{List}
use lib.ListN.{length}
use Rattle.place.specs.declared.Run.{Run}
use Rattle.disc.specs.Directory.{contents, entry_at, is_disc_length, run_of}
use Rattle.disc.proofs.Locations.{FileAt}
use Rattle.disc.specs.declared.Entry.{Entry}
use Rattle.disc.proofs.Goodness.{good-disc-is}
use Rattle.store.proofs.Changes.{Inside, written-files, written-length}
use Rattle.store.specs.File.{written_at}
use Rattle.store.proofs.Contents.{written-other-file}
use Rattle.store.proofs.Invariant.{file-inside, written-good}
use Rattle.machine.specs.Beyond.{file_run}
use Rattle.machine.specs.GoodArea.{good_kernel}
use Rattle.machine.specs.State.{process_at, with_process}
use Rattle.machine.specs.declared.Kernel.{Kernel}
use Rattle.machine.specs.declared.Process.{Process}
use Rattle.machine.proofs.Changes.Change.{GoesOn, GoodState, Writes}
use Rattle.machine.proofs.Changes.Directories.{open_at}

module _ {w : ℕ} {k : Kernel} {disc : List ℕ} {j : Kernel} {after : List ℕ} (g : GoodState k disc) (x : Writes w k disc j after) where
  abbrev run : Run
  run = file_run (process_at k w).file

  abbrev offset : ℕ
  offset = (process_at k w).file.offset

  file : FileAt disc run
  file = open_at x.file

  pub write-inside : Inside disc run offset (length x.bytes)
  write-inside =
      subst⁻¹ (λ (r : Run). Inside disc r offset (length x.bytes)) file.run_is
      (file-inside disc g.sound file.place file.inside offset (length x.bytes)
      (subst (λ (r : Run). offset + length x.bytes ≤ r.len) file.run_is x.inside))

  -- every file keeps its bytes but the one that is written
  pub writes-contents : {read : Run} → FileAt disc read → (run.start ≡ read.start → run.len ≡ read.len → ⊥)
      → contents after read ≡ contents disc read
  writes-contents {read} other differ =
      subst⁻¹ (λ (d : List ℕ). contents d read ≡ contents disc read) x.disc-after
      (subst⁻¹ (λ (r : Run). contents (written_at disc r offset x.bytes) read ≡ contents disc read) file.run_is
      (subst⁻¹ (λ (r : Run). contents (written_at disc (run_of (entry_at disc file.place)) offset x.bytes) r ≡ contents disc r) other.run_is
      (written-other-file disc g.sound other.place other.inside file.place offset x.bytes file.inside apart
      (subst (λ (r : Run). offset + length x.bytes ≤ r.len) file.run_is x.inside))))
    where
      apart : file.place ≡ other.place → ⊥
      apart e =
          let same : run ≡ read = file.run_is ∙ ap (λ (i : ℕ). run_of (entry_at disc i)) e ∙ sym other.run_is in
          differ (ap (λ (r : Run). r.start) same) (ap (λ (r : Run). r.len) same)

-- the law of one record replaced gives it
pub writes-good : ((k : Kernel) (disc : List ℕ) (w : ℕ) (q : Process) → GoodState k disc → GoesOn disc (process_at k w) q
    → GoodState (with_process k w q) disc)
    → (w : ℕ) (k : Kernel) (disc : List ℕ) (j : Kernel) (after : List ℕ) → GoodState k disc → Writes w k disc j after → GoodState j after
writes-good moved w k disc j after g x =
    subst⁻¹ (λ (l : Kernel). GoodState l after) x.kernel
    (subst⁻¹ (λ (d : List ℕ). GoodState (with_process k w x.process) d) x.disc-after
    (record {
      sized = m.sized;
      long = ap is_disc_length (written-length x.bytes (write-inside g x)) ∙ g.long;
      sound = written-good x.bytes (write-inside g x) g.sound;
      area = subst⁻¹ (λ (es : List Entry). good_kernel es (with_process k w x.process) ≡ true)
          (written-files x.bytes (write-inside g x) (good-disc-is disc g.sound).few) m.area;
    }))
  where
    m : GoodState (with_process k w x.process) disc
    m = moved k disc w x.process g x.goes
