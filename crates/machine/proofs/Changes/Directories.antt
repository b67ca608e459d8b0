-- The files that live processes use, as directory entries; where each has an entry after a change of the disc, the area stays good.
use Prim.Native.Nat.{ℕ, ◌<◌}
use mathlib.Core.Path.{◌≡◌, sym, ap, ◌∙◌, subst}
use mathlib.Core.Bool.{Bool, true}
use mathlib.Core.List.{List}
use mathlib.Core.Logic.{inl, inr, ⊎_elim}
use lib.ListN.{length}
use Rattle.buffer.specs.Lists.{any}
use Rattle.buffer.proofs.Bools.{and_both}
use Rattle.buffer.proofs.Lists.{all-each, tab-at, tab-length}
use Rattle.place.specs.declared.Run.{Run}
use Rattle.disc.specs.Directory.{entry_at, file_count, files, good_disc, is_disc_length}
use Rattle.disc.proofs.Locations.{FileAt}
use Rattle.disc.specs.declared.Entry.{Entry}
use Rattle.machine.specs.Beyond.{file_run}
use Rattle.machine.specs.GoodArea.{good_process, is_open_in, is_program}
use Rattle.machine.specs.Operations.{uses}
use Rattle.machine.specs.State.{is_live, no_process, process_at}
use Rattle.machine.specs.declared.Kernel.{Kernel}
use Rattle.machine.specs.declared.OpenFile.{OpenFile}
use Rattle.machine.proofs.Changes.Change.{GoodState}
use Rattle.buffer.proofs.Disjunctions.{any-is, or-first, or-second}
use Rattle.buffer.proofs.Kept.{any_at}
use Rattle.machine.proofs.Goodness.GoodLaws.{GoodKernel, good-kernel-is, good-process-at, is-good-kernel}
use Rattle.machine.proofs.Goodness.GoodRecords.{GoodFile, GoodLive, Opened, ended-good, good-live-of, good-process-is, live-good}
use Rattle.machine.proofs.Goodness.GoodRecords.{open-in-is, program-is}
use Rattle.machine.proofs.Changes.Slots.{live_inside}

-- ---- a file of which a test holds
module _ (test : Entry → Bool) (disc : List ℕ) where
  pub record Listed : Type 0 where
    pub place : ℕ
    pub inside : place < file_count disc
    pub holds : test (entry_at disc place) ≡ true

  pub listed-is : any test (files disc) ≡ true → Listed
  listed-is t =
      let f = any-is test (entry_at disc 0) (files disc) t in
      let h : f.place < file_count disc = subst (λ (n : ℕ). f.place < n) (tab-length (entry_at disc) (file_count disc)) f.inside in
      record {
        place = f.place;
        inside = h;
        holds = subst (λ (e : Entry). test e ≡ true) (tab-at (entry_at disc) (file_count disc) f.place (entry_at disc 0) h) f.holds;
      }

  pub is-listed : (i : ℕ) → i < file_count disc → test (entry_at disc i) ≡ true → any test (files disc) ≡ true
  is-listed i h t =
      any_at test (files disc) i (entry_at disc 0) (subst (λ (n : ℕ). i < n) (sym (tab-length (entry_at disc) (file_count disc))) h)
      (subst (λ (e : Entry). test e ≡ true) (sym (tab-at (entry_at disc) (file_count disc) i (entry_at disc 0) h)) t)

-- ---- the program and the open file of a process as files of the disc
pub live-record : {k : Kernel} {disc : List ℕ} → GoodState k disc → (s : ℕ) → is_live (process_at k s) ≡ true
    → GoodLive (files disc) k.next (process_at k s)
live-record {k} {disc} g s h =
    good-live-of (files disc) k.next (process_at k s) (good-process-at (files disc) k g.area s (live_inside k s h)) h

pub program-at : {k : Kernel} {disc : List ℕ} → GoodState k disc → (s : ℕ) → is_live (process_at k s) ≡ true
    → FileAt disc (process_at k s).code
program-at {k} {disc} g s h =
    let f = listed-is (is_program (process_at k s)) disc (live-record g s h).program in
    let p = program-is (process_at k s) (entry_at disc f.place) f.holds in
    record { place = f.place; inside = f.inside; run_is = λ i. record { start = p.start i; len = p.len i } }

pub open_at : {disc : List ℕ} {f : OpenFile} → Opened (files disc) f → FileAt disc (file_run f)
open_at {disc} {f} o =
    let l = listed-is (is_open_in f) disc o.listed in
    let p = open-in-is f (entry_at disc l.place) l.holds in
    record { place = l.place; inside = l.inside; run_is = λ i. record { start = p.start i; len = p.len i } }

-- ---- a file that a live process runs or has open
pub record UsedAt (k : Kernel) (disc : List ℕ) (run : Run) : Type 0 where
  pub file : FileAt disc run
  pub user : ℕ
  pub used : uses (entry_at disc file.place) (process_at k user) ≡ true

pub program-used : {k : Kernel} {disc : List ℕ} → GoodState k disc → (s : ℕ) → is_live (process_at k s) ≡ true
    → UsedAt k disc (process_at k s).code
program-used {k} {disc} g s h =
    let f = listed-is (is_program (process_at k s)) disc (live-record g s h).program in
    let p = program-is (process_at k s) (entry_at disc f.place) f.holds in
    record {
      file = record { place = f.place; inside = f.inside; run_is = λ i. record { start = p.start i; len = p.len i } };
      user = s;
      used = and_both h (or-first (is_open_in (process_at k s).file (entry_at disc f.place)) f.holds);
    }

pub open-used : {k : Kernel} {disc : List ℕ} (s : ℕ) → is_live (process_at k s) ≡ true → Opened (files disc) (process_at k s).file
    → UsedAt k disc (file_run (process_at k s).file)
open-used {k} {disc} s h o =
    let l = listed-is (is_open_in (process_at k s).file) disc o.listed in
    let p = open-in-is (process_at k s).file (entry_at disc l.place) l.holds in
    record {
      file = record { place = l.place; inside = l.inside; run_is = λ i. record { start = p.start i; len = p.len i } };
      user = s;
      used = and_both h (or-second (is_program (process_at k s) (entry_at disc l.place)) l.holds);
    }

-- ---- the same entry on another disc
pub record Again (disc after : List ℕ) (i : ℕ) : Type 0 where
  pub place : ℕ
  pub inside : place < file_count after
  pub same : entry_at after place ≡ entry_at disc i

pub still-listed : (test : Entry → Bool) (disc after : List ℕ)
    → ((i : ℕ) → i < file_count disc → test (entry_at disc i) ≡ true → Again disc after i) → any test (files disc) ≡ true
    → any test (files after) ≡ true
still-listed test disc after again t =
    let l = listed-is test disc t in
    let a = again l.place l.inside l.holds in
    is-listed test after a.place a.inside (subst (λ (e : Entry). test e ≡ true) (sym a.same) l.holds)

module _ {k : Kernel} {disc : List ℕ} (after : List ℕ) (g : GoodState k disc) where
  pub files-good : length after ≡ length disc → good_disc after ≡ true
      → ((s i : ℕ) → i < file_count disc → uses (entry_at disc i) (process_at k s) ≡ true → Again disc after i) → GoodState k after
  files-good long sound again =
      record {
        sized = g.sized;
        long = ap is_disc_length long
            ∙ g.long;
        sound = sound;
        area =
            is-good-kernel (files after) k
            (record {
              variables = area.variables;
              header = area.header;
              each = all-each (good_process (files after) k.next) k.processes no_process each;
              distinct = area.distinct;
            });
      }
    where
      area : GoodKernel (files disc) k
      area = good-kernel-is (files disc) k g.area

      file-good : (s : ℕ) → is_live (process_at k s) ≡ true → GoodFile (files disc) (process_at k s).file
          → GoodFile (files after) (process_at k s).file
      file-good s h (inl c) = inl c
      file-good s h (inr o) =
          inr (record {
            some = o.some;
            offset = o.offset;
            listed =
                still-listed (is_open_in (process_at k s).file) disc after
                (λ i m t. again s i m (and_both h (or-second (is_program (process_at k s) (entry_at disc i)) t))) o.listed;
          })

      live : (s : ℕ) → is_live (process_at k s) ≡ true → GoodLive (files disc) k.next (process_at k s)
          → GoodLive (files after) k.next (process_at k s)
      live s h l =
          record {
            low = l.low;
            given = l.given;
            registers = l.registers;
            program = still-listed (is_program (process_at k s)) disc after
                (λ i m t. again s i m (and_both h (or-first (is_open_in (process_at k s).file (entry_at disc i)) t))) l.program;
            file = file-good s h l.file;
          }

      each : (s : ℕ) → s < length k.processes → good_process (files after) k.next (process_at k s) ≡ true
      each s m =
          ⊎_elim (λ (z : (process_at k s).state ≡ 0). ended-good (files after) k.next (process_at k s) z)
          (λ l. live-good (files after) k.next (process_at k s) l.0 (live s l.0 l.1))
          (good-process-is (files disc) k.next (process_at k s) (good-process-at (files disc) k g.area s m))
