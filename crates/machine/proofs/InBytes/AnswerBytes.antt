-- Disc and process table, of bytes both, answer with bytes to an instruction that reaches beyond its process.
use Rattle.std.specs.Prelude.{Ok, Err, Result}
use Rattle.std.specs.Prelude.{None, Option, Some}
use Prim.Native.Nat.{ℕ, ◌+◌, ◌/◌, ◌%◌, ◌≤◌}
use mathlib.Core.Path.{◌≡◌, refl, subst⁻¹}
use mathlib.Core.Bool.{Bool, true, false, cond}
use mathlib.Core.List.{List, [], ◌∷◌, ◌++◌}
use mathlib.Core.Logic.{⊎_elim}
use native.Mathlib.Omega.{arith}
use lib.Dec.{eqb, leb}
use lib.ListN.{drop, length, length-append}
use borrow.Author.Tests.{leb-true}
use Rattle.buffer.specs.Buffer.{zeros}
use Rattle.buffer.specs.Lists.{any}
use Rattle.number.specs.declared.Number.{Number}
use Rattle.place.specs.Place.{run_from}
use Rattle.disc.specs.Directory.{contents, entry_at, files, lookup}
use Rattle.disc.specs.declared.Entry.{Entry}
use Rattle.store.specs.File.{admission, read_at, stored, written_at}
use Rattle.store.specs.declared.Refusal.{Refusal}
use Rattle.store.proofs.Admissions.{Admitted, admitted, zeros-admitted}
use Rattle.machine.specs.Beyond.{advanced, Answered, carries_on, breaks, answered, continues, created, created_at, file_run, forked}
use Rattle.machine.specs.Beyond.{inside, is_awaited, new_file_size, opened, opened_at, pushed, push_id, received, unless_breaks}
use Rattle.machine.specs.Beyond.{with_open_file}
use Rattle.machine.specs.Effect.{Request, opens, closes, writes, reads, reads_string, forks, awaits}
use Rattle.machine.specs.Limits.{stack_size}
use Rattle.machine.specs.Start.{Starting, starts, refuses, started, starting}
use Rattle.machine.specs.State.{Local, is_running, local_of, process_at, with_file, with_local, with_process}
use Rattle.machine.specs.Turn.{program_of}
use Rattle.machine.specs.declared.Kernel.{Kernel}
use Rattle.machine.specs.declared.OpenFile.{OpenFile}
use Rattle.machine.specs.declared.Process.{Process}
use Rattle.machine.proofs.Changes.Change.{GoodState}
use Rattle.machine.proofs.Changes.LiveRecords.{program-length, running-live, within-local}
use Rattle.machine.proofs.Goodness.GoodLaws.{good-kernel-is}
use Rattle.store.proofs.ByteDiscs.{ByteEntry, contents-bytes, entry-at, new-entry, read-bytes, stored_bytes, written-bytes}
use Rattle.buffer.proofs.ByteLists.{Bytes, IsByte, append-bytes, drop-bytes, one_byte, zeros-bytes}
use Rattle.machine.proofs.Bytes.ByteTexts.{trimmed-bytes}
use Rattle.machine.proofs.InBytes.ByteStates.{ByteFile, ByteKernel, ByteProcess, process-at}
use Rattle.machine.proofs.InBytes.ByteSteps.{ByteLocal, started-bytes, with-file, with-local, with-process}
use Rattle.buffer.proofs.Each.{Each}
use Rattle.machine.proofs.InBytes.EffectBytes.{AsksBytes}
use Rattle.machine.proofs.InBytes.Stacks.{push-bytes, push-string-bytes}
use Rattle.machine.proofs.Instructions.Sound.{Asked, Within}
use Rattle.machine.proofs.Kept.Begins.{starting-begins}
use Rattle.machine.proofs.Operations.FileAnswers.{number_read, text_ahead, text_read}

abbrev pub ByteAnswered : Answered → Type 0
ByteAnswered (carries_on k after) = ByteKernel k × Bytes after
ByteAnswered (breaks fault) = IsByte fault

-- a start gives out no ID above what two bytes hold
pub starting-bytes : (k : Kernel) (disc : List ℕ) → GoodState k disc → ByteKernel k → Bytes disc → (name : List ℕ) (slot : ℕ) (e : Entry)
    → starting k disc name ≡ starts slot e → ByteKernel (started k slot e)
starting-bytes k disc good h d name slot e s =
    let b = starting-begins name k disc slot e s in
    started-bytes k h slot e (subst⁻¹ (λ (x : Entry). ByteEntry x) b.entry (entry-at disc d b.file))
    (omega (arith, (good-kernel-is (files disc) k good.area).header.high))

module _ {k : Kernel} {disc : List ℕ} (good : GoodState k disc) (h : ByteKernel k) (d : Bytes disc) (slot : ℕ)
    (running : is_running (process_at k slot) ≡ true) where
  abbrev p : Process
  p = process_at k slot

  hp : ByteProcess p
  hp = process-at k h slot

  -- PC and loop within the program are within two bytes
  pub local-bytes : (l : Local) → Within (length (program_of disc p)) l → Bytes l.stack → ByteLocal l
  local-bytes l w b =
      let n = program-length good slot (running-live p running) in
      record {
        stack = b;
        size = w.stack;
        pc = omega (arith, w.pc, n, hp.code.len);
        loopstart = ⊎_elim (λ e. omega (arith, e)) (λ e. omega (arith, e, n, hp.code.len)) w.loop;
      }

  moved : (l : Local) → ByteLocal l → ByteAnswered (carries_on (with_process k slot (with_local p l)) disc)
  moved l b = (with-process k h slot (with_local p l) (with-local p hp l b), d)

  continued : (l : Local) (f : OpenFile) (after : List ℕ) → ByteLocal l → ByteFile f → Bytes after
      → ByteAnswered (continues k slot disc l f after)
  continued l f after b c a =
      (with-process k h slot (with_file (with_local p l) f) (with-file (with_local p l) (with-local p hp l b) f c), a)

  -- ---- OPEN
  open-bytes : (name : List ℕ) (size : Number) (l : Local) → ByteLocal l
      → ByteAnswered (opened_at k slot disc (lookup disc name) name size l)
  open-bytes name size l b = found (lookup disc name)
    where
      create : (n s : ℕ) → Admitted disc name n s → ByteAnswered (created_at k slot disc (Ok s) name n l)
      create n s a =
          let e = new-entry disc d name n s good.long a in
          continued l (opened (run_from s n)) (stored disc name (zeros n) s) b
          (record { start = e.start; len = e.len; offset = omega arith })
          (stored_bytes disc d name (zeros n) s good.long (zeros-admitted a) (zeros-bytes n))

      judged : (n : ℕ) (a : Result ℕ Refusal) → admission disc name n ≡ a → ByteAnswered (created_at k slot disc a name n l)
      judged n (Ok s) e = create n s (admitted disc name n s e)
      judged n (Err r) e = omega arith

      sized : (s : Option ℕ) → ByteAnswered (created k slot disc s name l)
      sized (Some n) = judged n (admission disc name n) refl
      sized None = omega arith

      found : (f : Option ℕ) → ByteAnswered (opened_at k slot disc f name size l)
      found (Some i) =
          let e = entry-at disc d i in
          continued l (opened (run_from (entry_at disc i).start (entry_at disc i).len)) disc b
          (record { start = e.start; len = e.len; offset = omega arith }) d
      found None = sized (new_file_size disc size)

  -- ---- WRITE and the READs
  in-file : (n : ℕ) (rest : Answered) → (ByteFile (advanced p.file n) → ByteAnswered rest)
      → ByteAnswered (with_open_file k slot disc (inside k slot disc n rest))
  in-file n rest then = go (eqb p.file.len 0) (leb (p.file.offset + n) p.file.len) refl
    where
      go : (closed b : Bool) → leb (p.file.offset + n) p.file.len ≡ b
          → ByteAnswered (cond closed (breaks 11) (unless_breaks b 12 rest))
      go true b e = omega arith
      go false false e = omega arith
      go false true e =
          let m : p.file.offset + n ≤ p.file.len = leb-true _ _ e in
          then (record { start = hp.file.start; len = hp.file.len; offset = omega (arith, hp.file.len, m) })

  read-bytes-on : (stack : List ℕ) (n : ℕ) (l : Local) → ByteLocal l → (length stack ≤ stack_size → Bytes stack)
      → ByteAnswered (with_open_file k slot disc (inside k slot disc n (received k slot disc stack n l)))
  read-bytes-on stack n l b s = in-file n (received k slot disc stack n l) λ f. go f (leb (length stack) stack_size) refl
    where
      go : ByteFile (advanced p.file n) → (fits : Bool) → leb (length stack) stack_size ≡ fits
          → ByteAnswered (unless_breaks fits 4 (continues k slot disc (pushed l stack) (advanced p.file n) disc))
      go f false e = omega arith
      go f true e =
          let fits : length stack ≤ stack_size = leb-true _ _ e in
          continued (pushed l stack) (advanced p.file n) disc
          (record { stack = s fits; size = fits; pc = b.pc; loopstart = b.loopstart }) f d

  -- ---- FORK
  push-id : (l : Local) (id : ℕ) → id ≤ k.next → length l.stack + 3 ≤ stack_size → ByteLocal l → ByteLocal (push_id l id)
  unfolding Each
  push-id l id low room b = record {
    stack = push-bytes l.stack 2 (id / 256 ∷ id % 256 ∷ []) b.stack (omega arith) (omega (arith, h.next), (omega arith, tt));
    size = simp length-append (omega arith);
    pc = b.pc;
    loopstart = b.loopstart;
  }

  fork-bytes : (name : List ℕ) (l : Local) → length l.stack + 3 ≤ stack_size → ByteLocal l
      → ByteAnswered (forked k slot disc (starting k disc name) l)
  fork-bytes name l room b = go (starting k disc name) refl
    where
      go : (s : Starting) → starting k disc name ≡ s → ByteAnswered (forked k slot disc s l)
      go (refuses r) e = moved (push_id l 0) (push-id l 0 (omega arith) room b)
      go (starts child entry) e = (
        with-process (started k child entry) (starting-bytes k disc good h d name child entry e) slot (with_local p (push_id l k.next))
            (with-local p hp (push_id l k.next) (push-id l k.next (omega arith) room b)),
        d,
      )

  -- ---- WAITUNTILDONE
  await-bytes : (waits : Bool) (stay go : Local) → ByteLocal stay → ByteLocal go
      → ByteAnswered (carries_on (with_process k slot (with_local p (cond waits stay go))) disc)
  await-bytes true stay go b c = moved stay b
  await-bytes false stay go b c = moved go c

  pub answer-bytes : (r : Request) → Asked (program_of disc p) (local_of p) r → AsksBytes r → ByteAnswered (answered k slot disc r)
  unfolding answered Asked
  answer-bytes (opens name size l) a b = open-bytes name size l (local-bytes l a.1 b)
  answer-bytes (closes l) a b = moved l (local-bytes l a.1 b)
  answer-bytes (writes bytes l) a b =
      in-file (length bytes) _ λ f.
      continued l (advanced p.file (length bytes)) (written_at disc (file_run p.file) p.file.offset bytes)
      (local-bytes l a.1 b.1) f (written-bytes disc d (file_run p.file) p.file.offset bytes b.0)
  answer-bytes (reads kind l) a b =
      read-bytes-on (number_read k slot disc kind l) kind l (local-bytes l a.1 b.1) λ fits.
      push-bytes l.stack kind (read_at disc (file_run p.file) p.file.offset kind) b.1 b.0
      (read-bytes disc d (file_run p.file) p.file.offset kind)
  answer-bytes (reads_string l) a b =
      let ahead : Bytes (text_ahead k slot disc) =
      trimmed-bytes (drop p.file.offset (contents disc (file_run p.file)))
      (drop-bytes p.file.offset (contents disc (file_run p.file)) (contents-bytes disc d (file_run p.file))) in
      read-bytes-on (text_read k slot disc l) (length (text_ahead k slot disc) + 1) l (local-bytes l a.1 b)
      (push-string-bytes l.stack (text_ahead k slot disc ++ (0 ∷ [])) b
      (append-bytes (text_ahead k slot disc) (0 ∷ []) ahead (one_byte 0 (omega arith))))
  answer-bytes (forks name l) a b = fork-bytes name l a.2 (local-bytes l a.3 b)
  answer-bytes (awaits id stay go) a b =
      await-bytes (any (is_awaited k slot disc id) k.processes) stay go
      (local-bytes stay (subst⁻¹ (λ (l : Local). Within (length (program_of disc p)) l) a.1
      (within-local good slot (running-live p running))) b.0)
      (local-bytes go a.2 b.1)
