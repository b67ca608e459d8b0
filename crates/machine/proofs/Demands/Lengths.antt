-- No call changes the length of disc, area or output: no kind of change changes the disc's, the area is the bytes of a state before and
-- after, and no text written is longer than the output lent.
use Rattle.std.specs.Prelude.{Ok, Err}
use Rattle.std.specs.Prelude.{None, Option, Some}
use Prim.Native.Nat.{ℕ, zero, suc, ◌*◌, ◌≤◌}
use mathlib.Core.Path.{◌≡◌, refl, sym, subst, subst⁻¹, ◌∙◌}
use mathlib.Core.Bool.{Bool, true, false, ◌&&◌, not, cond}
use mathlib.Core.List.{List, [], ◌∷◌}
use native.Mathlib.Omega.{arith}
use lib.Dec.{leb, ltb}
use lib.ListN.{length, replicate, length-append, length-replicate}
use borrow.Author.Tests.{eqb-true, leb-true, ne_eqb}
use Rattle.buffer.specs.Buffer.{overwrite}
use Rattle.buffer.specs.Lists.{flat}
use Rattle.buffer.proofs.Bools.{and_right}
use Rattle.buffer.proofs.Buffer.{overwrite-length}
use Rattle.disc.specs.Directory.{contents, entry_at, files as entries, good_disc, is_disc_length, lookup, run_of}
use Rattle.disc.proofs.Lookups.{lookup-at}
use Rattle.store.specs.Answer.{Reported, file_line, files_answer, reported, retrieve_answer, retrieve_at}
use Rattle.store.specs.File.{unless}
use Rattle.store.specs.declared.Refusal.TheVariants.{ShortOutput}
use Rattle.store.proofs.Calls.{store-cases}
use Rattle.store.proofs.Changes.{erased-length}
use Rattle.store.proofs.Checks.{by-checks}
use Rattle.store.proofs.Contents.{contents-short}
use Rattle.store.proofs.Effects.{stored-length}
use Rattle.store.proofs.Invariant.{present}
use Rattle.machine.specs.Answer.{Answer, Buffers, Other, store, retrieve, erase, files, free_space, list, Call, turn, round}
use Rattle.machine.specs.Answer.{command, share, run, other, answer, boot_answer, command_answer, done, erase_at, format_answer, on_disc}
use Rattle.machine.specs.Answer.{on_good, other_answer, refused, run_at}
use Rattle.machine.specs.Area.{is_area_length, kernel_of}
use Rattle.machine.specs.Demands.{SameLengths}
use Rattle.machine.specs.Limits.{max_share, round_room, share_room, slot_count, turn_room}
use Rattle.machine.specs.Operations.{Commanded, becomes, refused as declined, commanded, in_order, in_use, list_text, round_of}
use Rattle.machine.specs.Operations.{share_of_turns, shared, slots, turn_if_running, turns_due, turns_in_row}
use Rattle.machine.specs.Refusals.{Passes}
use Rattle.machine.specs.Start.{Starting, starts, refuses, starting}
use Rattle.machine.specs.State.{is_running, process_at}
use Rattle.machine.specs.Trace.{at_least_one}
use Rattle.machine.specs.Turn.{Turned, turned}
use Rattle.machine.specs.declared.Kernel.{Kernel}
use Rattle.machine.specs.declared.Process.{Process}
use Rattle.machine.proofs.Bytes.Area.{kernel-bytes-length}
use Rattle.machine.proofs.Changes.Change.{GoodState, begins}
use Rattle.machine.proofs.Changes.Directories.{live-record}
use Rattle.machine.proofs.Changes.LiveRecords.{running-live, within-local}
use Rattle.machine.proofs.Demands.GoodCalls.{KeepsGood, area-length, passes-good, round-good, share-of-turns-good, turn-good}
use Rattle.machine.proofs.Demands.GoodCalls.{turn-if-running-good, turn-is-change}
use Rattle.machine.proofs.Instructions.Executing.{exec-sound}
use Rattle.machine.proofs.Kept.LengthKept.{change-length}
use Rattle.machine.proofs.Kept.OutsideKept.{outside-good}
use Rattle.machine.proofs.Operations.Commanding.{command-good, share-good}
use Rattle.machine.proofs.Operations.Tests.{on-tests, tried}
use Rattle.machine.proofs.Operations.Turning.{turn-prints}

-- ---- what turns print
turn-short : (k : Kernel) (slot clock : ℕ) (disc : List ℕ) → GoodState k disc → is_running (process_at k slot) ≡ true
    → length (turned k slot clock disc).out ≤ turn_room
turn-short k slot clock disc g h =
    turn-prints k slot clock disc g h (exec-sound _ clock _ _ (within-local g slot (running-live (process_at k slot) h)))

pub turn-if-running-short : (k : Kernel) (slot clock : ℕ) (disc : List ℕ) → GoodState k disc
    → length (turn_if_running k slot clock disc).out ≤ turn_room
unfolding turn_if_running
turn-if-running-short k slot clock disc g = go (is_running (process_at k slot)) refl
  where
    go : (running : Bool) → is_running (process_at k slot) ≡ running
        → length (cond running (turned k slot clock disc) (record { kernel = k; disc = disc; out = [] })).out ≤ turn_room
    go true e = turn-short k slot clock disc g e
    go false e = omega arith

-- for each slot at most n bytes, so for all of them at most n times as many as there are
abbrev pub PrintsAtMost : ℕ → (Kernel → ℕ → ℕ → List ℕ → Turned) → Type 0
PrintsAtMost n each = (k : Kernel) (slot clock : ℕ) (disc : List ℕ) → GoodState k disc → length (each k slot clock disc).out ≤ n

in-order-short : (each : Kernel → ℕ → ℕ → List ℕ → Turned) (n : ℕ) → KeepsGood each → PrintsAtMost n each → (l : List ℕ) (k : Kernel)
    (clock : ℕ) (disc : List ℕ)
    → GoodState k disc
    → length (in_order each l k clock disc).out ≤ length l * n
unfolding in_order
in-order-short each n keeps short [] k clock disc g = omega arith
in-order-short each n keeps short (slot ∷ l) k clock disc g =
    let t : Turned = each k slot clock disc in
    let first : length t.out ≤ n = short k slot clock disc g in
    let rest : length (in_order each l t.kernel clock t.disc).out ≤ length l * n =
    in-order-short each n keeps short l t.kernel clock t.disc (keeps k slot clock disc g) in
    omega (arith, length-append t.out (in_order each l t.kernel clock t.disc).out)

-- a slot that does not run prints nothing, and changes nothing
pub turns-idle : (n : ℕ) (k : Kernel) (slot clock : ℕ) (disc : List ℕ) → is_running (process_at k slot) ≡ false
    → turns_in_row n k slot clock disc ≡ record { kernel = k; disc = disc; out = [] }
unfolding in_order turn_if_running
turns-idle zero k slot clock disc h = refl
turns-idle (suc n) k slot clock disc h = rw h (turns-idle n k slot clock disc h)

-- "with zero as one"
pub due : (p : Process) → at_least_one p.share ≡ turns_due p
due p = go p.share refl
  where
    go : (n : ℕ) → p.share ≡ n → at_least_one n ≡ turns_due p
    go zero e = rw e refl
    go (suc n) e = rw (e, ne_eqb (suc n) 0 (λ (z : suc n ≡ 0). omega arith)) refl

-- of a slot that runs, at most eight turns are due
pub few-turns : (k : Kernel) (slot : ℕ) (disc : List ℕ) → GoodState k disc → is_running (process_at k slot) ≡ true
    → turns_due (process_at k slot) ≤ max_share
few-turns k slot disc g h =
    let p = process_at k slot in
    subst (λ (n : ℕ). n ≤ max_share) (due p) (at_most p.share (live-record g slot (running-live p h)).registers.share)
  where
    at_most : (n : ℕ) → n ≤ max_share → at_least_one n ≤ max_share
    at_most zero few = omega arith
    at_most (suc n) few = few

pub share-short : PrintsAtMost share_room share_of_turns
unfolding share_of_turns
share-short k slot clock disc g = go (is_running (process_at k slot)) refl
  where
    n : ℕ
    n = turns_due (process_at k slot)

    go : (f : Bool) → is_running (process_at k slot) ≡ f → length (turns_in_row n k slot clock disc).out ≤ share_room
    go false h = subst⁻¹ (λ (t : Turned). length t.out ≤ share_room) (turns-idle n k slot clock disc h) (omega arith)
    go true h =
        let each : length (turns_in_row n k slot clock disc).out ≤ length (replicate n slot) * turn_room =
        in-order-short turn_if_running turn_room turn-if-running-good turn-if-running-short (replicate n slot) k clock disc g in
        omega (arith, few-turns k slot disc g h, length-replicate n slot)

-- Document 02, Q-9: *Round* "needs 2,560 output bytes", eight turns of at most 32 for each of ten slots
pub round-short : (k : Kernel) (clock : ℕ) (disc : List ℕ) → GoodState k disc → length (round_of k clock disc).out ≤ round_room
round-short k clock disc g =
    let all : length (round_of k clock disc).out ≤ slot_count * share_room =
    in-order-short share_of_turns share_room share-of-turns-good share-short slots k clock disc g in
    omega arith

-- ---- what turns leave of the disc's length
pub turn-if-running-length : (k : Kernel) (slot clock : ℕ) (disc : List ℕ) → GoodState k disc
    → length (turn_if_running k slot clock disc).disc ≡ length disc
unfolding turn_if_running
turn-if-running-length k slot clock disc g = go (is_running (process_at k slot)) refl
  where
    go : (running : Bool) → is_running (process_at k slot) ≡ running
        → length (cond running (turned k slot clock disc) (record { kernel = k; disc = disc; out = [] })).disc ≡ length disc
    go true e = change-length g (turn-is-change k slot clock disc g e)
    go false e = refl

abbrev pub KeepsLength : (Kernel → ℕ → ℕ → List ℕ → Turned) → Type 0
KeepsLength each = (k : Kernel) (slot clock : ℕ) (disc : List ℕ) → GoodState k disc → length (each k slot clock disc).disc ≡ length disc

in-order-length : (each : Kernel → ℕ → ℕ → List ℕ → Turned) → KeepsGood each → KeepsLength each → (l : List ℕ) (k : Kernel) (clock : ℕ)
    (disc : List ℕ)
    → GoodState k disc
    → length (in_order each l k clock disc).disc ≡ length disc
unfolding in_order
in-order-length each keeps same [] k clock disc g = refl
in-order-length each keeps same (slot ∷ l) k clock disc g =
    let t : Turned = each k slot clock disc in
    in-order-length each keeps same l t.kernel clock t.disc (keeps k slot clock disc g) ∙ same k slot clock disc g

pub share-length : KeepsLength share_of_turns
unfolding share_of_turns
share-length k slot clock disc g =
    in-order-length turn_if_running turn-if-running-good turn-if-running-length
    (replicate (turns_due (process_at k slot)) slot) k clock disc g

round-length : (k : Kernel) (clock : ℕ) (disc : List ℕ) → GoodState k disc → length (round_of k clock disc).disc ≡ length disc
round-length = in-order-length share_of_turns share-of-turns-good share-length slots

module _ (b : Buffers) where
  abbrev Same : Answer → Type 0
  Same a = SameLengths a b

  abbrev SameOut : List ℕ → Type 0
  SameOut out = length out ≡ length b.out

  k : Kernel
  k = kernel_of b.area

  same : (n : ℕ) → Same (refused n b)
  same n = (refl, refl, refl)

  wrote : (text : List ℕ) → length text ≤ length b.out → SameOut (overwrite b.out 0 text)
  wrote text h = overwrite-length b.out text 0 (omega arith)

  -- ---- operations on both buffers
  module _ (p : Passes b.disc b.area) where
    good : GoodState k b.disc
    unfolding k
    good = passes-good b.disc b.area p

    -- the bytes of a good state are as many as those of the area that passed
    done-same : (j : Kernel) (disc text : List ℕ) → GoodState j disc → length disc ≡ length b.disc
        → length text ≤ length b.out → Same (done 0 j disc text b)
    done-same j disc text g e h = (e, kernel-bytes-length j g.sized ∙ sym (eqb-true _ _ (area-length p)), wrote text h)

    erase_same : (name : List ℕ) (f : Option ℕ) → lookup b.disc name ≡ f → Same (erase_at f k b)
    erase_same name None e = same 10
    erase_same name (Some i) e =
        tried Same b (not (in_use k (entry_at b.disc i))) 11 _ (same 11) λ free.
        (erased-length (present b.disc p.disc-good i (lookup-at b.disc name i e).inside), refl, refl)

    run-same : (name : List ℕ) (s : Starting) → starting k b.disc name ≡ s → Same (run_at s k b)
    run-same name (refuses n) e = same n
    run-same name (starts slot f) e =
        done-same _ b.disc [] (outside-good name k b.disc _ _ good (begins slot f e refl refl)) refl (omega arith)

    commanded-same : (r : Commanded) → ((j : Kernel) → r ≡ becomes j → GoodState j b.disc) → Same (command_answer r b)
    commanded-same (declined n) leaves = same n
    commanded-same (becomes j) leaves = done-same j b.disc [] (leaves j refl) refl (omega arith)

  both : (rest : Answer) → (Passes b.disc b.area → Same rest) → Same (on_good b rest)
  both rest h = on-tests Same b rest (same 1) (same 2) (same 3) h

  -- ---- operations on the disc alone
  reported-out : (fit : Bool) (n : ℕ) (text : List ℕ) → (fit ≡ true → length text ≤ length b.out)
      → SameOut (unless fit (reported (Err ShortOutput) b.out) (reported (Ok n) (overwrite b.out 0 text))).out
  reported-out true n text h = wrote text (h refl)
  reported-out false n text h = refl

  retrieve-out : (name : List ℕ) → SameOut (retrieve_answer b.disc name b.out).out
  unfolding retrieve_answer
  retrieve-out name = by-checks b.disc (λ (r : Reported). SameOut r.out) _ _ (λ e. refl) (λ e. refl)
      (λ l g. found g (lookup b.disc name) refl)
    where
      found : good_disc b.disc ≡ true → (f : Option ℕ) → lookup b.disc name ≡ f → SameOut (retrieve_at f b.disc b.out).out
      found g None e = refl
      found g (Some i) e =
          reported-out (leb (entry_at b.disc i).len (length b.out)) (entry_at b.disc i).len
          (contents b.disc (run_of (entry_at b.disc i))) λ fit.
          omega (
            arith,
            contents-short b.disc (run_of (entry_at b.disc i)),
            leb-true (entry_at b.disc i).len (length b.out) fit,
          )

  files-out : SameOut (files_answer b.disc b.out).out
  unfolding files_answer
  files-out =
      let text : List ℕ = flat file_line (entries b.disc) in
      by-checks b.disc (λ (r : Reported). SameOut r.out) _ _ (λ e. refl) (λ e. refl)
      (λ l g. reported-out (leb (length text) (length b.out)) (length text) text λ fit. leb-true _ _ fit)

  -- ---- every call
  other-lengths : (o : Other) → Same (answer (other o) b)
  unfolding answer other_answer k
  other-lengths (store name bytes) =
      store-cases b.disc name bytes (λ u. Same (on_disc u b)) (λ r d. (refl, refl, refl))
      (λ s l g a. (stored-length bytes g a, refl, refl))
  other-lengths (retrieve name) = (refl, refl, retrieve-out name)
  other-lengths (erase name) = both _ λ p. erase_same p name (lookup b.disc name) refl
  other-lengths files = (refl, refl, files-out)
  other-lengths free_space = (refl, refl, refl)
  other-lengths list =
      both _ λ p. tried Same b (leb (length (list_text k)) (length b.out)) 4 _ (same 4) λ fit.
      (refl, refl, wrote (list_text k) (leb-true _ _ fit))

  pub lengths-kept : (c : Call) → Same (answer c b)
  unfolding answer k
  lengths-kept (turn slot clock) =
      both _ λ p.
      tried Same b (leb turn_room (length b.out)) 4 _ (same 4) λ fit.
      tried Same b (ltb slot slot_count && is_running (process_at k slot)) 16 _ (same 16) λ may.
      let runs : is_running (process_at k slot) ≡ true = and_right (ltb slot slot_count) _ may in
      let short = turn-short k slot clock b.disc (good p) runs in
      done-same p _ _ (turned k slot clock b.disc).out (turn-good k slot clock b.disc (good p) runs)
      (change-length (good p) (turn-is-change k slot clock b.disc (good p) runs))
      (omega (arith, leb-true turn_room (length b.out) fit))
  lengths-kept (round clock) =
      both _ λ p.
      tried Same b (leb round_room (length b.out)) 4 _ (same 4) λ fit.
      done-same p _ _ (round_of k clock b.disc).out (round-good k clock b.disc (good p)) (round-length k clock b.disc (good p))
      (omega (arith, round-short k clock b.disc (good p), leb-true round_room (length b.out) fit))
  lengths-kept (command c id) = both _ λ p. commanded-same p (commanded c id k) (command-good (good p) c id)
  lengths-kept (share id turns) = both _ λ p. commanded-same p (shared id turns k) (share-good (good p) id turns)
  lengths-kept (run name) = both _ λ p. run-same p name (starting k b.disc name) refl
  lengths-kept (other o) = other-lengths o

  -- ---- format and boot
  pub boot-lengths : Same (boot_answer b)
  unfolding boot_answer
  boot-lengths = tried Same b (is_area_length (length b.area)) 1 _ (same 1) λ e. (refl, sym (eqb-true _ _ e), refl)

  pub format-lengths : Same (format_answer b)
  unfolding format_answer
  format-lengths =
      tried Same b (is_disc_length (length b.disc) && is_area_length (length b.area)) 1 _ (same 1) λ e.
      (length-replicate _ _, sym (eqb-true _ _ (and_right (is_disc_length (length b.disc)) _ e)), refl)
