-- Every call, format and boot leave buffers of bytes of buffers of bytes.
use Rattle.std.specs.Prelude.{Ok, Err}
use Rattle.std.specs.Prelude.{None, Option, Some}
use Prim.Native.Nat.{ℕ}
use mathlib.Core.Path.{◌≡◌, refl}
use mathlib.Core.Bool.{Bool, true, false, ◌&&◌, cond, not}
use mathlib.Core.List.{List, [], ◌∷◌, ◌++◌}
use native.Mathlib.Omega.{arith}
use lib.Dec.{eqb, leb, ltb}
use lib.ListN.{length, replicate}
use Rattle.buffer.specs.Buffer.{overwrite}
use Rattle.buffer.specs.Lists.{flat, keep}
use borrow.Author.Tests.{leb-true}
use Rattle.buffer.proofs.Bools.{and_right}
use Rattle.decimal.specs.Decimal.{decimal}
use Rattle.disc.specs.Directory.{contents, entry_at, file_count, files as entries, is_disc_length, lookup, run_of}
use Rattle.disc.specs.Name.{trimmed}
use Rattle.disc.specs.declared.Entry.{Entry}
use Rattle.store.specs.Answer.{Reported, file_line, files_answer, reported, retrieve_answer, retrieve_at}
use Rattle.store.specs.File.{unless}
use Rattle.store.specs.declared.Refusal.TheVariants.{ShortOutput}
use Rattle.store.proofs.Calls.{store-cases}
use Rattle.store.proofs.Checks.{by-checks}
use Rattle.machine.specs.Answer.{Answer, Buffers, Other, store, retrieve, erase, files, free_space, list, Call, turn, round}
use Rattle.machine.specs.Answer.{command, share, run, other, answer, boot_answer, booted, command_answer, done, erase_at, format_answer}
use Rattle.machine.specs.Answer.{on_disc, on_good, other_answer, refused, run_at}
use Rattle.machine.specs.Area.{AreBytes, is_area_length, kernel_of}
use Rattle.machine.specs.Demands.{StaysBytes, given, given_other}
use Rattle.machine.specs.Limits.{area_length, max_share, next_at, round_room, slot_count, turn_room}
use Rattle.machine.specs.Operations.{Command, suspend, resume, kill, Commanded, becomes, refused as declined, changed, command_at}
use Rattle.machine.specs.Operations.{commanded, in_use, list_text, process_line, round_of, share_at, shared}
use Rattle.machine.specs.Refusals.{Passes}
use Rattle.machine.specs.Start.{Starting, starts, refuses, started, starting}
use Rattle.machine.specs.State.{is_live, is_running, paused, process_at, running, slot_of, with_process, with_share, with_state}
use Rattle.machine.specs.Turn.{turned}
use Rattle.machine.specs.declared.Kernel.{Kernel}
use Rattle.machine.specs.declared.Process.{Process}
use Rattle.machine.proofs.Changes.Change.{GoodState}
use Rattle.machine.proofs.Demands.GoodCalls.{passes-good}
use Rattle.machine.proofs.InBytes.AnswerBytes.{starting-bytes}
use Rattle.store.proofs.ByteDiscs.{ByteEntry, contents-bytes, entry-at, erased-bytes, stored_bytes}
use Rattle.buffer.proofs.ByteLists.{Bytes, IsByte, append-bytes, are-bytes, bytes-of, one_byte}
use Rattle.machine.proofs.Bytes.ByteTexts.{decimal-bytes}
use Rattle.buffer.proofs.ByteLists.{overwrite-bytes, zeros-bytes}
use Rattle.machine.proofs.Bytes.ByteTexts.{trimmed-bytes}
use Rattle.machine.proofs.InBytes.ByteStates.{ByteKernel, ByteProcess, kernel-bytes, kernel-of, process-at}
use Rattle.machine.proofs.InBytes.ByteSteps.{ended-bytes, with-process, with-share, with-state}
use Rattle.buffer.proofs.Each.{Each, each-flat, each_keep, each_set, each-tab}
use Rattle.machine.proofs.InBytes.TurnBytes.{round-bytes, turned-bytes}
use Rattle.machine.proofs.Operations.Tests.{on-tests, tried}

-- ---- lines of listings
process-line : (p : Process) → ByteProcess p → Bytes (process_line p)
unfolding Each process_line
process-line p h =
    let front : List ℕ = decimal p.id ++ (32 ∷ p.state ∷ 32 ∷ []) in
    append-bytes (front ++ trimmed p.name) (10 ∷ [])
    (append-bytes front (trimmed p.name)
    (append-bytes (decimal p.id) (32 ∷ p.state ∷ 32 ∷ []) (decimal-bytes p.id) (omega arith, (h.state, (omega arith, tt))))
    (trimmed-bytes p.name h.name))
    (one_byte 10 (omega arith))

file-line : (e : Entry) → ByteEntry e → Bytes (file_line e)
unfolding file_line
file-line e h =
    append-bytes (trimmed e.name ++ (32 ∷ []) ++ decimal e.len) (10 ∷ [])
    (append-bytes (trimmed e.name ++ (32 ∷ [])) (decimal e.len)
    (append-bytes (trimmed e.name) (32 ∷ []) (trimmed-bytes e.name h.name) (one_byte 32 (omega arith)))
    (decimal-bytes e.len))
    (one_byte 10 (omega arith))

-- ---- suspend, resume, kill and share
abbrev ByteCommanded : Commanded → Type 0
ByteCommanded (declined n) = Unit {0}
ByteCommanded (becomes k) = ByteKernel k

module _ (k : Kernel) (h : ByteKernel k) where
  changed-bytes : (slot state : ℕ) → IsByte state → ByteCommanded (changed k slot state)
  changed-bytes slot state b = go (eqb (process_at k slot).state state)
    where
      go : (already : Bool)
          → ByteCommanded (cond already (declined 15) (becomes (with_process k slot (with_state (process_at k slot) state))))
      go true = tt
      go false = with-process k h slot _ (with-state (process_at k slot) (process-at k h slot) state b)

  commanded-bytes : (c : Command) (id : ℕ) → ByteCommanded (commanded c id k)
  unfolding commanded
  commanded-bytes c id = go (slot_of k id) c
    where
      go : (f : Option ℕ) (c : Command) → ByteCommanded (command_at f c k)
      go None c = tt
      go (Some slot) suspend = changed-bytes slot paused (omega arith)
      go (Some slot) resume = changed-bytes slot running (omega arith)
      go (Some slot) kill = ended-bytes k h slot 0 (omega arith)

  shared-bytes : (id turns : ℕ) → ByteCommanded (shared id turns k)
  unfolding shared
  shared-bytes id turns = go (slot_of k id)
    where
      at : (slot : ℕ) (f : Bool) → leb 1 turns && leb turns max_share ≡ f
          → ByteCommanded (unless f (declined 22) (becomes (with_process k slot (with_share (process_at k slot) turns))))
      at slot true e =
          let few = leb-true turns max_share (and_right (leb 1 turns) _ e) in
          with-process k h slot _ (with-share (process_at k slot) (process-at k h slot) turns (omega (arith, few)))
      at slot false e = tt

      go : (f : Option ℕ) → ByteCommanded (share_at f turns k)
      go None = tt
      go (Some slot) = at slot (leb 1 turns && leb turns max_share) refl

module _ (b : Buffers) (hd : Bytes b.disc) (ha : Bytes b.area) (ho : Bytes b.out) where
  abbrev Left : Answer → Type 0
  Left a = Bytes a.disc × Bytes a.area × Bytes a.out

  k : Kernel
  k = kernel_of b.area

  hk : ByteKernel k
  unfolding k
  hk = kernel-of b.area ha

  same : (n : ℕ) → Left (refused n b)
  same n = (hd, ha, ho)

  wrote : (text : List ℕ) → Bytes text → Bytes (overwrite b.out 0 text)
  wrote text t = overwrite-bytes b.out 0 text ho t

  both : (rest : Answer) → (Passes b.disc b.area → Left rest) → Left (on_good b rest)
  both rest h = on-tests Left b rest (same 1) (same 2) (same 3) h

  good : Passes b.disc b.area → GoodState k b.disc
  unfolding k
  good p = passes-good b.disc b.area p

  -- ---- operations on both buffers
  done-bytes : (n : ℕ) (j : Kernel) (disc text : List ℕ) → ByteKernel j → Bytes disc → Bytes text → Left (done n j disc text b)
  done-bytes n j disc text h d t = (d, kernel-bytes j h, wrote text t)

  erase-bytes : (f : Option ℕ) → Left (erase_at f k b)
  erase-bytes None = same 10
  erase-bytes (Some i) =
      tried Left b (not (in_use k (entry_at b.disc i))) 11 _ (same 11) λ free. (erased-bytes b.disc hd i, ha, ho)

  run-bytes : Passes b.disc b.area → (name : List ℕ) (s : Starting) → starting k b.disc name ≡ s → Left (run_at s k b)
  unfolding Each
  run-bytes p name (refuses n) e = same n
  run-bytes p name (starts slot f) e =
      done-bytes k.next (started k slot f) b.disc [] (starting-bytes k b.disc (good p) hk hd name slot f e) hd tt

  command-bytes : (r : Commanded) → ByteCommanded r → Left (command_answer r b)
  unfolding Each
  command-bytes (declined n) h = same n
  command-bytes (becomes j) h = done-bytes 0 j b.disc [] h hd tt

  list-bytes : Bytes (list_text k)
  unfolding list_text
  list-bytes =
      each-flat ByteProcess IsByte process_line process-line (keep is_live k.processes)
      (each_keep ByteProcess is_live k.processes hk.processes)

  -- ---- operations on the disc alone
  reported-bytes : (fit : Bool) (n : ℕ) (text : List ℕ) → Bytes text
      → Bytes (unless fit (reported (Err ShortOutput) b.out) (reported (Ok n) (overwrite b.out 0 text))).out
  reported-bytes true n text t = wrote text t
  reported-bytes false n text t = ho

  retrieve-bytes : (name : List ℕ) → Bytes (retrieve_answer b.disc name b.out).out
  unfolding retrieve_answer
  retrieve-bytes name =
      by-checks b.disc (λ (r : Reported). Bytes r.out) _ _ (λ e. ho) (λ e. ho) (λ l g. found (lookup b.disc name))
    where
      found : (f : Option ℕ) → Bytes (retrieve_at f b.disc b.out).out
      found None = ho
      found (Some i) =
          reported-bytes (leb (entry_at b.disc i).len (length b.out)) (entry_at b.disc i).len
          (contents b.disc (run_of (entry_at b.disc i))) (contents-bytes b.disc hd (run_of (entry_at b.disc i)))

  files-bytes : Bytes (files_answer b.disc b.out).out
  unfolding files_answer
  files-bytes =
      let text : List ℕ = flat file_line (entries b.disc) in
      by-checks b.disc (λ (r : Reported). Bytes r.out) _ _ (λ e. ho) (λ e. ho) λ l g.
      reported-bytes (leb (length text) (length b.out)) (length text) text
      (each-flat ByteEntry IsByte file_line file-line (entries b.disc)
      (each-tab ByteEntry (entry_at b.disc) (file_count b.disc) (entry-at b.disc hd)))

  -- ---- every call
  other-bytes : (o : Other) → Bytes (given_other o) → Left (answer (other o) b)
  unfolding answer other_answer k
  other-bytes (store name bytes) g =
      store-cases b.disc name bytes (λ u. Left (on_disc u b)) (λ r d. (hd, ha, ho)) λ s l e a. (
        stored_bytes b.disc hd name bytes s l a g,
        ha,
        ho,
      )
  other-bytes (retrieve name) g = (hd, ha, retrieve-bytes name)
  other-bytes (erase name) g = both _ λ p. erase-bytes (lookup b.disc name)
  other-bytes files g = (hd, ha, files-bytes)
  other-bytes free_space g = (hd, ha, ho)
  other-bytes list g =
      both _ λ p. tried Left b (leb (length (list_text k)) (length b.out)) 4 _ (same 4) λ fit.
      (hd, ha, wrote (list_text k) list-bytes)

  call-bytes : (c : Call) → Bytes (given c) → Left (answer c b)
  unfolding answer k
  call-bytes (turn slot clock) g =
      both _ λ p.
      tried Left b (leb turn_room (length b.out)) 4 _ (same 4) λ fit.
      tried Left b (ltb slot slot_count && is_running (process_at k slot)) 16 _ (same 16) λ may.
      let t = turned-bytes k slot b.disc (good p) hk hd (and_right (ltb slot slot_count) _ may) clock in
      done-bytes 0 (turned k slot clock b.disc).kernel (turned k slot clock b.disc).disc (turned k slot clock b.disc).out
      t.kernel t.disc t.out
  call-bytes (round clock) g =
      both _ λ p.
      tried Left b (leb round_room (length b.out)) 4 _ (same 4) λ fit.
      let t = round-bytes k clock b.disc (good p) hk hd in
      done-bytes 0 (round_of k clock b.disc).kernel (round_of k clock b.disc).disc (round_of k clock b.disc).out
      t.kernel t.disc t.out
  call-bytes (command c id) g = both _ λ p. command-bytes (commanded c id k) (commanded-bytes k hk c id)
  call-bytes (share id turns) g = both _ λ p. command-bytes (shared id turns k) (shared-bytes k hk id turns)
  call-bytes (run name) g = both _ λ p. run-bytes p name (starting k b.disc name) refl
  call-bytes (other o) g = other-bytes o g

  -- ---- format and boot
  booted-bytes : Bytes booted
  booted-bytes = each_set IsByte (replicate area_length 0) next_at _ (zeros-bytes area_length) (omega arith)

  boot-answer : Left (boot_answer b)
  unfolding boot_answer
  boot-answer = tried Left b (is_area_length (length b.area)) 1 _ (same 1) λ e. (hd, booted-bytes, ho)

  format-answer : Left (format_answer b)
  unfolding format_answer
  format-answer =
      tried Left b (is_disc_length (length b.disc) && is_area_length (length b.area)) 1 _ (same 1) λ e.
      (zeros-bytes (length b.disc), booted-bytes, ho)

-- ---- the same of elements below 256
stays : (b : Buffers) (a : Answer)
    → (Bytes b.disc → Bytes b.area → Bytes b.out → Bytes a.disc × Bytes a.area × Bytes a.out) → StaysBytes a b
stays b a f h =
    let l = f (bytes-of b.disc h.0) (bytes-of b.area h.1) (bytes-of b.out h.2) in
    (are-bytes a.disc l.0, are-bytes a.area l.1, are-bytes a.out l.2)

pub bytes-kept : (c : Call) (b : Buffers) → AreBytes (given c) → StaysBytes (answer c b) b
bytes-kept c b g = stays b (answer c b) λ d a o. call-bytes b d a o c (bytes-of (given c) g)

pub format-bytes : (b : Buffers) → StaysBytes (format_answer b) b
format-bytes b = stays b (format_answer b) (format-answer b)

pub boot-bytes : (b : Buffers) → StaysBytes (boot_answer b) b
boot-bytes b = stays b (boot_answer b) (boot-answer b)
