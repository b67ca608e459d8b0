-- OPEN, WRITE and the READs: every answer of the disc is a change.
use Rattle.std.specs.Prelude.{Ok, Err, Result}
use Rattle.std.specs.Prelude.{None, Option, Some}
use Prim.Native.Nat.{ℕ, ◌+◌, ◌≤◌, ◌<◌}
use mathlib.Core.Path.{◌≡◌, refl, sym, ap, subst⁻¹, ◌∙◌}
use mathlib.Core.Bool.{Bool, true, false, cond}
use mathlib.Core.List.{List, [], ◌∷◌, ◌++◌}
use mathlib.Core.Logic.{inl, inr}
use native.Mathlib.Omega.{arith}
use lib.Dec.{eqb, leb}
use lib.ListN.{length, drop, get_or, length-replicate}
use borrow.Author.Tests.{eqb-false, leb-true}
use Rattle.buffer.specs.Buffer.{zeros}
use Rattle.buffer.proofs.Lists.{tab-at, tab-length}
use Rattle.number.specs.declared.Number.{Number}
use Rattle.place.specs.Place.{run_from}
use Rattle.disc.specs.Directory.{contents, entry_at, file_count, files, lookup}
use Rattle.disc.specs.Name.{trimmed}
use Rattle.disc.specs.declared.Entry.{Entry}
use Rattle.disc.proofs.Goodness.{good-entry-at}
use Rattle.disc.proofs.Lookups.{lookup-at}
use Rattle.store.specs.File.{admission, read_at, stored, written_at}
use Rattle.store.specs.declared.Refusal.{Refusal}
use Rattle.store.proofs.Admissions.{Admitted, admitted, zeros-admitted}
use Rattle.store.proofs.Effects.{stored-count, stored-new}
use Rattle.machine.specs.Beyond.{advanced, Answered, breaks, continues, created, created_at, file_run, inside, new_file_size, opened}
use Rattle.machine.specs.Beyond.{opened_at}
use Rattle.machine.specs.Beyond.{own_file, pushed, received, unless_breaks, with_open_file, written}
use Rattle.machine.specs.GoodArea.{is_open_in}
use Rattle.machine.specs.Limits.{stack_size}
use Rattle.machine.specs.Stack.{push, push_string}
use Rattle.machine.specs.State.{Local, is_live, is_running, process_at, with_file, with_local}
use Rattle.machine.specs.Turn.{answering, program_of}
use Rattle.machine.specs.declared.Kernel.{Kernel}
use Rattle.machine.specs.declared.OpenFile.{OpenFile}
use Rattle.machine.specs.declared.Process.{Process}
use Rattle.machine.proofs.Operations.Carrying.{ends-here, goes_on}
use Rattle.machine.proofs.Changes.Change.{GoodState, nothing, stores, moves, Change, acts, writes}
use Rattle.buffer.proofs.Kept.{any_at}
use Rattle.machine.proofs.Goodness.GoodRecords.{GoodFile, Opened, is-open-in}
use Rattle.machine.proofs.Changes.Directories.{live-record}
use Rattle.machine.proofs.Changes.LiveRecords.{running-live}
use Rattle.machine.proofs.Instructions.Sound.{Within}

-- ---- what a process makes of an answer, as a change
abbrev pub AnswerChanges : List ℕ → Kernel → ℕ → List ℕ → Answered → Type 0
AnswerChanges name k slot disc a = Change name slot k disc (answering k slot disc a).kernel (answering k slot disc a).disc

-- ---- what the READs push
module _ (k : Kernel) (slot : ℕ) (disc : List ℕ) where
  abbrev pub number_read : ℕ → Local → List ℕ
  number_read kind l = push l.stack kind (read_at disc (file_run (own_file k slot disc)) (own_file k slot disc).offset kind)

  abbrev pub text_ahead : List ℕ
  text_ahead = trimmed (drop (own_file k slot disc).offset (contents disc (file_run (own_file k slot disc))))

  abbrev pub text_read : Local → List ℕ
  text_read l = push_string l.stack (text_ahead ++ (0 ∷ []))

-- ---- files as a process has them open
-- one of the directory, from its start
entry-opened : (disc : List ℕ) (i n s : ℕ) → i < file_count disc → (entry_at disc i).start ≡ s → (entry_at disc i).len ≡ n → 1 ≤ n
    → Opened (files disc) (opened (run_from s n))
entry-opened disc i n s h e m some =
    record {
      some = λ z. omega arith;
      offset = omega arith;
      listed = any_at (is_open_in f) (files disc) i (entry_at disc 0) (omega (arith, tab-length (entry_at disc) (file_count disc))) here;
    }
  where
    f : OpenFile
    f = opened (run_from s n)

    here : is_open_in f (get_or (files disc) i (entry_at disc 0)) ≡ true
    here = subst⁻¹ (λ (d : Entry). is_open_in f d ≡ true) (tab-at (entry_at disc) (file_count disc) i (entry_at disc 0) h)
        (is-open-in f (entry_at disc i) (record { start = sym e; len = sym m }))

-- a file that is open has its run in the directory
pub opened_of : (es : List Entry) (f : OpenFile) → GoodFile es f → eqb f.len 0 ≡ false → Opened es f
opened_of es f (inl c) e = absurd (eqb-false f.len 0 e c.len)
opened_of es f (inr o) e = o

-- further on in it
advanced-opened : (es : List Entry) (f : OpenFile) (n : ℕ) → Opened es f → f.offset + n ≤ f.len → Opened es (advanced f n)
advanced-opened es f n o h = record { some = o.some; offset = h; listed = o.listed }

module _ {k : Kernel} {disc : List ℕ} (good : GoodState k disc) (slot : ℕ) (running : is_running (process_at k slot) ≡ true)
    (name : List ℕ) where
  abbrev p : Process
  p = process_at k slot

  abbrev Fits : Local → Type 0
  Fits = Within (length (program_of disc p))

  abbrev Changes : Answered → Type 0
  Changes = AnswerChanges name k slot disc

  live : is_live p ≡ true
  live = running-live p running

  faulted : (fault : ℕ) → Changes (breaks fault)
  faulted fault = ends-here good slot live name fault

  continued : (l : Local) (f : OpenFile) → Fits l → Opened (files disc) f → Changes (continues k slot disc l f disc)
  continued l f fits o =
      acts k (nothing refl refl) refl (moves (with_file (with_local p l) f) (goes_on good slot live disc l f fits (inr o)) refl)

  -- ---- OPEN: a file of the directory, or a new one that enters it; "OPEN's new file refused" is fault 13
  pub open-change : (title : List ℕ) (size : Number) (l : Local) → Fits l → Changes (opened_at k slot disc (lookup disc title) title size l)
  open-change title size l fits = found (lookup disc title) refl
    where
      create : (n s : ℕ) → Admitted disc title n s → Changes (created_at k slot disc (Ok s) title n l)
      create n s a =
          let after : List ℕ = stored disc title (zeros n) s in
          let z = zeros-admitted a in
          let new = stored-new (zeros n) good.sound z in
          acts k (stores title (zeros n) s z refl refl) refl
          (moves (with_file (with_local p l) (opened (run_from s n)))
          (goes_on good slot live after l (opened (run_from s n)) fits
          (inr (entry-opened after (file_count disc) n s (omega (arith, stored-count (zeros n) good.sound z))
          (ap (λ (e : Entry). e.start) new) (ap (λ (e : Entry). e.len) new ∙ length-replicate n 0) a.some)))
          refl)

      judged : (n : ℕ) (a : Result ℕ Refusal) → admission disc title n ≡ a → Changes (created_at k slot disc a title n l)
      judged n (Ok s) e = create n s (admitted disc title n s e)
      judged n (Err r) e = faulted 13

      sized : (s : Option ℕ) → Changes (created k slot disc s title l)
      sized (Some n) = judged n (admission disc title n) refl
      sized None = faulted 13

      found : (f : Option ℕ) → lookup disc title ≡ f → Changes (opened_at k slot disc f title size l)
      found (Some i) e =
          let h = (lookup-at disc title i e).inside in
          continued l (opened (run_from (entry_at disc i).start (entry_at disc i).len)) fits
          (entry-opened disc i (entry_at disc i).len (entry_at disc i).start h refl refl (good-entry-at disc good.sound i h).some)
      found None e = sized (new_file_size disc size)

  -- ---- WRITE and the READs: "11 no open file; 12 past the file's end"
  in-file : (n : ℕ) (rest : Answered) → (Opened (files disc) p.file → p.file.offset + n ≤ p.file.len → Changes rest)
      → Changes (with_open_file k slot disc (inside k slot disc n rest))
  in-file n rest then = go (eqb p.file.len 0) refl (leb (p.file.offset + n) p.file.len) refl
    where
      go : (closed : Bool) → eqb p.file.len 0 ≡ closed → (b : Bool) → leb (p.file.offset + n) p.file.len ≡ b
          → Changes (cond closed (breaks 11) (unless_breaks b 12 rest))
      go true e b q = faulted 11
      go false e false q = faulted 12
      go false e true q = then (opened_of (files disc) p.file (live-record good slot live).file e) (leb-true _ _ q)

  written-change : (bytes : List ℕ) (l : Local) → get_or (program_of disc p) p.pc 0 ≡ 55 → Fits l
      → Opened (files disc) p.file → p.file.offset + length bytes ≤ p.file.len
      → Changes (continues k slot disc l (advanced p.file (length bytes)) (written_at disc (file_run p.file) p.file.offset bytes))
  written-change bytes l byte fits o h =
      writes
      (record {
        process = with_file (with_local p l) (advanced p.file (length bytes));
        bytes = bytes;
        running = running;
        instruction = byte;
        file = o;
        inside = h;
        goes = goes_on good slot live disc l (advanced p.file (length bytes)) fits
            (inr (advanced-opened (files disc) p.file (length bytes) o h));
        kernel = refl;
        disc-after = refl;
      })

  pub write-change : (bytes : List ℕ) (l : Local) → get_or (program_of disc p) p.pc 0 ≡ 55 → Fits l → Changes (written k slot disc bytes l)
  write-change bytes l byte fits = in-file (length bytes) _ (written-change bytes l byte fits)

  -- fault 4 comes after 11 and 12
  pub read-change : (stack : List ℕ) (n : ℕ) (l : Local) → Fits l
      → Changes (with_open_file k slot disc (inside k slot disc n (received k slot disc stack n l)))
  read-change stack n l fits = in-file n (received k slot disc stack n l) (λ o h. go o h (leb (length stack) stack_size) refl)
    where
      go : Opened (files disc) p.file → p.file.offset + n ≤ p.file.len → (b : Bool) → leb (length stack) stack_size ≡ b
          → Changes (unless_breaks b 4 (continues k slot disc (pushed l stack) (advanced p.file n) disc))
      go o h false e = faulted 4
      go o h true e = continued (pushed l stack) (advanced p.file n)
          (record { stack = leb-true _ _ e; pc = fits.pc; loop = fits.loop }) (advanced-opened (files disc) p.file n o h)
