-- The tests of every call decide it: the first that fails refuses it, and where none does it is done.
use Rattle.std.specs.Prelude.{Ok, Err, Result}
use Rattle.std.specs.Prelude.{None, Option, Some}
use Prim.Native.Nat.{ℕ, ◌+◌, ◌-◌, ◌≤◌, ◌<◌}
use mathlib.Core.Path.{◌≡◌, refl, sym, ap, ◌∙◌, subst, subst⁻¹}
use mathlib.Core.Bool.{Bool, true, false, ◌&&◌, not, cond}
use mathlib.Core.List.{List}
use mathlib.Core.Logic.{inl, inr}
use native.Mathlib.Omega.{arith}
use lib.Dec.{eqb, leb, ltb}
use lib.IntN.{pos}
use lib.ListN.{length}
use borrow.Author.Tests.{eq-eqb, eqb-false, eqb-true, le-leb, leb-true, lt-ltb, ltb-true, not-true}
use Rattle.buffer.specs.Lists.{flat}
use Rattle.buffer.proofs.Bools.{and_both, and_left, and_right, not-is-true, not-true-is-false, true-not-false}
use Rattle.disc.specs.Directory.{DiscLength, entry_at, file_count, files as entries, good_disc, is_disc_length, lookup}
use Rattle.disc.specs.Layout.{data_start, max_files}
use Rattle.disc.proofs.Lengths.{disc-bounds, disc-length-is, is-disc-length}
use Rattle.disc.specs.Offsets.{size_of}
use Rattle.disc.proofs.Offsets.{entry-size}
use Rattle.store.specs.Answer.{checked, file_line, files_answer, free_space_answer, if_usable, reported, retrieve_answer, retrieve_at}
use Rattle.store.specs.Answer.{store_answer}
use Rattle.store.specs.Answer.{store_at}
use Rattle.store.specs.File.{admission, deny_if_found, place_of, start_or, unless}
use Rattle.store.specs.declared.Refusal.{Refusal}
use Rattle.store.specs.declared.Refusal.TheVariants.{WrongLength, BadDisc, ShortOutput, BadName, BadSize, DirectoryFull}
use Rattle.store.specs.Room.{Free}
use Rattle.store.proofs.Rooms.{no-place-none-free, placed-free}
use Rattle.machine.specs.Answer.{Answer, Buffers, Other, store, retrieve, erase, files, free_space, list, Call, turn, round}
use Rattle.machine.specs.Answer.{command, share, run, other}
use Rattle.machine.specs.Answer.{answer, boot_answer, command_answer, erase_at, format_answer, good_area, on_disc, on_good, on_output}
use Rattle.machine.specs.Answer.{other_answer, refused, run_at}
use Rattle.machine.specs.Area.{is_area_length, kernel_of}
use Rattle.machine.specs.Fields.{Ended, HasId, Named, NoFile, Uses, next_id, state_byte}
use Rattle.machine.specs.Limits.{area_length, id_limit, max_share, round_room, slot_count, turn_room}
use Rattle.machine.specs.Operations.{Command, becomes, refused as declined, suspend, resume, kill, changed, command_at, commanded}
use Rattle.machine.specs.Operations.{in_use, list_text, round_of, share_at, shared}
use Rattle.machine.specs.Refusals.{Passes}
use Rattle.machine.specs.Start.{starting, start_in}
use Rattle.machine.specs.State.{ended_slot, is_running, paused, process_at, running, slot_of, with_process, with_state}
use Rattle.machine.specs.Tests.{Decides, Tests, passed, test, boot_tests, command_tests, format_tests, not_already, on_both}
use Rattle.machine.specs.Tests.{on_disc as first_two, other_tests, some_file, tests}
use Rattle.machine.specs.Turn.{turned}
use Rattle.machine.specs.declared.Kernel.{Kernel}
use Rattle.machine.proofs.Fields.Files.{lookup-named, lookup-no-file, named-lookup}
use Rattle.machine.proofs.Fields.Listings.{files-text, list-text}
use Rattle.machine.proofs.Fields.Names.{good-is-name, is-name-good}
use Rattle.machine.proofs.Fields.Slots.{ended-slot-lowest, has-id-slot, in-use-is, is-in-use, next-is, no-ended-slot, slot-has-id}
use Rattle.machine.proofs.Fields.Slots.{slot-no-id, state-is}

-- ---- a test and what it says
record Says (t : Bool) (holds : Type 0) : Type 0 where
  so : t ≡ true → holds
  back : holds → t ≡ true

says-itself : (t : Bool) → Says t (t ≡ true)
says-itself t = record { so = λ e. e; back = λ e. e }

says-equal : (m n : ℕ) → Says (eqb m n) (m ≡ n)
says-equal m n = record { so = eqb-true m n; back = eq-eqb m n }

says-at-most : (m n : ℕ) → Says (leb m n) (m ≤ n)
says-at-most m n = record { so = leb-true m n; back = le-leb m n }

says_both : {s t : Bool} {p q : Type 0} → Says s p → Says t q → Says (s && t) (p × q)
says_both {s} {t} x y = record {
  so = λ e. (x.so (and_left s t e), y.so (and_right s t e));
  back = λ h. and_both (x.back h.0) (y.back h.1);
}

-- Decides, as a fact
pub record Decided (ts : Tests) (b : Buffers) (a : Answer) : Type 0 where
  pub is : Decides ts b a

module _ (b : Buffers) where
  -- ---- one test of a call
  done : (n : ℕ) {a : Answer} → a.number ≡ pos n → Decided passed b a
  done n e = record { is = (n, e) }

  holds_then : {n : ℕ} {holds : Type 0} {later : Tests} {a : Answer} → holds → Decided later b a → Decided (test n holds later) b a
  holds_then h r = record { is = inl (h, r.is) }

  fails : {n : ℕ} {holds : Type 0} {later : Tests} {a : Answer} → a ≡ refused n b → (holds → ⊥) → Decided (test n holds later) b a
  fails e not_so = record {
    is = inr (
      not_so,
      ap (λ (a : Answer). a.number) e,
      (ap (λ (a : Answer). a.disc) e, ap (λ (a : Answer). a.area) e, ap (λ (a : Answer). a.out) e),
    );
  }

  -- what is made of a refusal is the answer refused by that number
  decided : {A : Type 0} {n : ℕ} {t : Bool} {holds : Type 0} {later : Tests} (make : A → Answer) (refusal rest : A)
      → make refusal ≡ refused n b → Says t holds → (holds → Decided later b (make rest))
      → Decided (test n holds later) b (make (unless t refusal rest))
  decided {A} {n} {t} {holds} {later} make refusal rest e s r = go t refl
    where
      go : (u : Bool) → t ≡ u → Decided (test n holds later) b (make (unless u refusal rest))
      go true q = let h = s.so q in holds_then h (r h)
      go false q = fails e (λ h. true-not-false (s.back h) q)

  on-answer : {n : ℕ} {t : Bool} {holds : Type 0} {later : Tests} (rest : Answer) → Says t holds → (holds → Decided later b rest)
      → Decided (test n holds later) b (unless t (refused n b) rest)
  on-answer {n} rest = decided (λ a. a) (refused n b) rest refl

  -- ---- document 01's 1 to 3
  says-disc-length : Says (is_disc_length (length b.disc)) (DiscLength (length b.disc))
  says-disc-length = record { so = disc-length-is (length b.disc); back = is-disc-length (length b.disc) }

  says-lengths : Says (is_disc_length (length b.disc) && is_area_length (length b.area))
      (DiscLength (length b.disc) × (length b.area ≡ area_length))
  says-lengths = says_both says-disc-length (says-equal (length b.area) area_length)

  on-both : {later : Tests} (rest : Answer) → (Passes b.disc b.area → Decided later b rest)
      → Decided (on_both b later) b (on_good b rest)
  on-both rest h =
      on-answer _ says-lengths λ sizes.
      on-answer _ (says-itself (good_disc b.disc)) λ disc.
      on-answer rest (says-itself (good_area b.disc b.area)) λ area.
      h (record { sizes = says-lengths.back sizes; disc-good = disc; area-good = area })

  -- a disc that may be used
  record Fit : Type 0 where
    long : is_disc_length (length b.disc) ≡ true
    good : good_disc b.disc ≡ true

  on-disc : {A : Type 0} {later : Tests} (make : A → Answer) (refuse : Refusal → A) (rest : A)
      → make (refuse WrongLength) ≡ refused 1 b → make (refuse BadDisc) ≡ refused 2 b
      → (Fit → Decided later b (make rest)) → Decided (first_two b later) b (make (if_usable (checked b.disc) refuse rest))
  unfolding checked
  on-disc make refuse rest one two h =
      let made : Result (Unit {0}) Refusal → Answer = λ c. make (if_usable c refuse rest) in
      decided made (Err WrongLength) _ one says-disc-length λ long.
      decided made (Err BadDisc) (Ok tt) two (says-itself (good_disc b.disc)) λ good.
      h (record { long = says-disc-length.back long; good = good })

  -- ---- the file of a name
  module _ (fit : Fit) (name : List ℕ) where
    -- no other has it
    named-once : (i j : ℕ) → lookup b.disc name ≡ Some i → Named b.disc name j → j ≡ i
    named-once i j e n =
        let same : Some j ≡ Some i = sym (named-lookup b.disc fit.long fit.good name j n) ∙ e in
        cc

    none_named : lookup b.disc name ≡ None → some_file b name → ⊥
    none_named e f = lookup-no-file b.disc fit.long fit.good name e f.0 f.1

    says-fits : (i : ℕ) → lookup b.disc name ≡ Some i → Says (leb (entry_at b.disc i).len (length b.out))
        ((j : ℕ) → Named b.disc name j → size_of b.disc j ≤ length b.out)
    says-fits i e =
        let size = entry-size b.disc i in
        record {
          so = λ t j n. subst⁻¹ (λ (x : ℕ). size_of b.disc x ≤ length b.out) (named-once i j e n)
              (subst (λ (m : ℕ). m ≤ length b.out) size (leb-true _ _ t));
          back = λ h. le-leb _ _ (subst⁻¹ (λ (m : ℕ). m ≤ length b.out) size (h i (lookup-named b.disc name i e)));
        }

  -- n bytes fit between the data's start and the disc's end
  says-in-data : Fit → (n : ℕ) → Says (leb n (length b.disc - data_start)) (data_start + n ≤ length b.disc)
  says-in-data fit n =
      let low = (disc-bounds (length b.disc) fit.long).low in
      record {
        so = λ t. omega (arith, leb-true n (length b.disc - data_start) t, low);
        back = λ h. le-leb n (length b.disc - data_start) (omega (arith, h));
      }

  -- ---- operations on the disc alone
  store-decided : (name bytes : List ℕ) → Decided (other_tests (store name bytes) b) b (answer (other (store name bytes)) b)
  unfolding answer other_answer store_answer admission
  store-decided name bytes =
      on-disc (λ u. on_disc u b) _ _ refl refl λ fit.
      decided at (Err BadName) _ refl (record { so = good-is-name name; back = is-name-good name }) λ good.
      decided at (Err BadSize) _ refl
      (says_both (says-at-most 1 (length bytes)) (says-in-data fit (length bytes))) λ size.
      decided at (Err DirectoryFull) _ refl
      (record { so = ltb-true (file_count b.disc) max_files; back = lt-ltb (file_count b.disc) max_files }) λ few.
      new fit (lookup b.disc name) refl (place_of b.disc (length bytes)) refl
    where
      at : Result ℕ Refusal → Answer
      at a = on_disc (store_at a b.disc name bytes) b

      new : Fit → (f : Option ℕ) → lookup b.disc name ≡ f → (g : Option ℕ) → place_of b.disc (length bytes) ≡ g
          → Decided
          (test 7 (NoFile b.disc name) (test 9 ((start : ℕ) × Free b.disc (length bytes) start) passed)) b
          (at (deny_if_found f (start_or g)))
      new fit (Some i) e g q = fails refl (λ h. h i (lookup-named b.disc name i e))
      new fit None e None q =
          holds_then (lookup-no-file b.disc fit.long fit.good name e)
          (fails refl (λ r. no-place-none-free b.disc (length bytes) q r.0 r.1))
      new fit None e (Some s) q =
          holds_then (lookup-no-file b.disc fit.long fit.good name e)
          (holds_then (s, placed-free b.disc (length bytes) s q) (done 0 refl))

  retrieve-decided : (name : List ℕ) → Decided (other_tests (retrieve name) b) b (answer (other (retrieve name)) b)
  unfolding answer other_answer retrieve_answer
  retrieve-decided name = on-disc (λ r. on_output r b) _ _ refl refl λ fit. found fit (lookup b.disc name) refl
    where
      found : Fit → (f : Option ℕ) → lookup b.disc name ≡ f
          → Decided
          (test 10 (some_file b name)
          (test 4 ((i : ℕ) → Named b.disc name i → size_of b.disc i ≤ length b.out) passed)) b
          (on_output (retrieve_at f b.disc b.out) b)
      found fit None e = fails refl (none_named fit name e)
      found fit (Some i) e =
          holds_then (i, lookup-named b.disc name i e)
          (decided (λ r. on_output r b) (reported (Err ShortOutput) b.out) _ refl (says-fits fit name i e)
          (λ h. done (entry_at b.disc i).len refl))

  -- "4: output shorter than needed"
  says-room : {text as_said : List ℕ} → text ≡ as_said → Says (leb (length text) (length b.out)) (length as_said ≤ length b.out)
  says-room {text} e = subst (λ (l : List ℕ). Says (leb (length text) (length b.out)) (length l ≤ length b.out)) e
      (says-at-most (length text) (length b.out))

  files-decided : Decided (other_tests files b) b (answer (other files) b)
  unfolding answer other_answer files_answer
  files-decided =
      on-disc (λ r. on_output r b) _ _ refl refl λ fit.
      decided (λ r. on_output r b) (reported (Err ShortOutput) b.out) _ refl (says-room (files-text b.disc))
      (λ h. done (length (flat file_line (entries b.disc))) refl)

  free-space-decided : Decided (other_tests free_space b) b (answer (other free_space) b)
  unfolding answer other_answer free_space_answer
  free-space-decided =
      on-disc (λ z. record { number = z; disc = b.disc; area = b.area; out = b.out }) _ _ refl refl
      λ fit. done _ refl

  -- ---- operations on both buffers
  abbrev k : Kernel
  k = kernel_of b.area

  fit_of : Passes b.disc b.area → Fit
  fit_of p = record { long = and_left (is_disc_length (length b.disc)) _ p.sizes; good = p.disc-good }

  abbrev Unused : List ℕ → Type 0
  Unused name = (file i : ℕ) → Named b.disc name file → Uses b.disc b.area file i → ⊥

  erase-decided : (name : List ℕ) → Decided (other_tests (erase name) b) b (answer (other (erase name)) b)
  unfolding answer other_answer
  erase-decided name = on-both _ λ p. found p (lookup b.disc name) refl
    where
      unused : Passes b.disc b.area → (i : ℕ) → lookup b.disc name ≡ Some i → Says (not (in_use k (entry_at b.disc i)))
          (Unused name)
      unused p i e =
          let inside = (lookup-named b.disc name i e).counted in
          record {
            so = λ t file j n u.
                let here = named-once (fit_of p) name i file e n in
                true-not-false (is-in-use p i j inside (subst (λ (x : ℕ). Uses b.disc b.area x j) here u)) (not-true _ t);
            back = λ h. not-is-true (not-true-is-false (in_use k (entry_at b.disc i))
                (λ t. let u = in-use-is p i inside t in h i u.0 (lookup-named b.disc name i e) u.1));
          }

      found : Passes b.disc b.area → (f : Option ℕ) → lookup b.disc name ≡ f
          → Decided (test 10 (some_file b name) (test 11 (Unused name) passed)) b (erase_at f k b)
      found p None e = fails refl (none_named (fit_of p) name e)
      found p (Some i) e = holds_then (i, lookup-named b.disc name i e) (on-answer _ (unused p i e) (λ h. done 0 refl))

  run-decided : (name : List ℕ) → Decided (tests (run name) b) b (answer (run name) b)
  unfolding answer starting
  run-decided name = on-both _ λ p. placed p (ended_slot k) refl (lookup b.disc name) refl (eqb k.next id_limit) refl
    where
      placed : Passes b.disc b.area → (slot : Option ℕ) → ended_slot k ≡ slot → (file : Option ℕ) → lookup b.disc name ≡ file
          → (spent : Bool) → eqb k.next id_limit ≡ spent
          → Decided
          (test 12 ((i : ℕ) × Ended b.area i) (test 10 (some_file b name) (test 13 (next_id b.area ≡ id_limit → ⊥) passed))) b
          (run_at (start_in slot file spent b.disc) k b)
      placed p None e file f spent g = fails refl (λ h. no-ended-slot p e h.0 h.1)
      placed p (Some slot) e None f spent g =
          holds_then (slot, (ended-slot-lowest p slot e).0) (fails refl (none_named (fit_of p) name f))
      placed p (Some slot) e (Some i) f spent g =
          holds_then (slot, (ended-slot-lowest p slot e).0) (holds_then (i, lookup-named b.disc name i f) (last spent g))
        where
          last : (spent : Bool) → eqb k.next id_limit ≡ spent
              → Decided (test 13 (next_id b.area ≡ id_limit → ⊥) passed) b (run_at (start_in (Some slot) (Some i) spent b.disc) k b)
          last true g = fails refl (λ h. h (sym (next-is b.area) ∙ eqb-true _ _ g))
          last false g = holds_then (λ q. eqb-false _ _ g (next-is b.area ∙ q)) (done k.next refl)

  module _ (p : Passes b.disc b.area) (id : ℕ) where
    change-decided : (slot state : ℕ) → slot_of k id ≡ Some slot
        → Decided (test 15 (not_already b id state) passed) b (command_answer (changed k slot state) b)
    change-decided slot state e = go (eqb (process_at k slot).state state) refl
      where
        has : HasId b.area id slot
        has = slot-has-id p id slot e

        same : (process_at k slot).state ≡ state_byte b.area slot
        same = state-is b.area slot has.live.slot

        other-state : eqb (process_at k slot).state state ≡ false → not_already b id state
        other-state q i h r =
            let one : Some i ≡ Some slot = sym (has-id-slot p id i h) ∙ e in
            let here : i ≡ slot = cc in
            eqb-false _ _ q (same ∙ subst (λ (x : ℕ). state_byte b.area x ≡ state) here r)

        go : (already : Bool) → eqb (process_at k slot).state state ≡ already
            → Decided (test 15 (not_already b id state) passed) b
            (command_answer (cond already (declined 15) (becomes (with_process k slot (with_state (process_at k slot) state)))) b)
        go true q = fails refl (λ h. h slot has (sym same ∙ eqb-true _ _ q))
        go false q = holds_then (other-state q) (done 0 refl)

    some-slot : (slot : ℕ) → slot_of k id ≡ Some slot → (i : ℕ) × HasId b.area id i
    some-slot slot e = (slot, slot-has-id p id slot e)

    no_slot : slot_of k id ≡ None → (i : ℕ) × HasId b.area id i → ⊥
    no_slot e h = slot-no-id p id e h.0 h.1

    command-at : (f : Option ℕ) → slot_of k id ≡ f → (c : Command) → Decided (command_tests c id b) b (command_answer (command_at f c k) b)
    command-at None e suspend = fails refl (no_slot e)
    command-at None e resume = fails refl (no_slot e)
    command-at None e kill = fails refl (no_slot e)
    command-at (Some slot) e suspend = holds_then (some-slot slot e) (change-decided slot paused e)
    command-at (Some slot) e resume = holds_then (some-slot slot e) (change-decided slot running e)
    command-at (Some slot) e kill = holds_then (some-slot slot e) (done 0 refl)

  command-decided : (c : Command) (id : ℕ) → Decided (tests (command c id) b) b (answer (command c id) b)
  unfolding answer commanded
  command-decided c id = on-both _ λ p. command-at p id (slot_of k id) refl c

  -- Document 02, Q-9: "22 a share outside 1 to 8, after 14"
  share-decided : (id turns : ℕ) → Decided (tests (share id turns) b) b (answer (share id turns) b)
  unfolding answer shared
  share-decided id turns = on-both _ λ p. at p (slot_of k id) refl
    where
      at : Passes b.disc b.area → (f : Option ℕ) → slot_of k id ≡ f
          → Decided (test 14 ((i : ℕ) × HasId b.area id i) (test 22 ((1 ≤ turns) × (turns ≤ max_share)) passed)) b
          (command_answer (share_at f turns k) b)
      at p None e = fails refl (no_slot p id e)
      at p (Some slot) e =
          holds_then (some-slot p id slot e)
          (decided (λ r. command_answer r b) (declined 22) _ refl (says_both (says-at-most 1 turns) (says-at-most turns max_share))
          (λ h. done 0 refl))

  list-decided : Decided (other_tests list b) b (answer (other list) b)
  unfolding answer other_answer
  list-decided = on-both _ λ p. on-answer _ (says-room (list-text b.area)) (λ h. done (length (list_text k)) refl)

  turn-decided : (slot clock : ℕ) → Decided (tests (turn slot clock) b) b (answer (turn slot clock) b)
  unfolding answer
  turn-decided slot clock =
      on-both _ λ p.
      on-answer _ (says-at-most turn_room (length b.out)) λ room.
      on-answer _ says-running (λ h. done (length (turned k slot clock b.disc).out) refl)
    where
      says-running : Says (ltb slot slot_count && is_running (process_at k slot)) ((slot < slot_count) × (state_byte b.area slot ≡ running))
      says-running =
          record {
            so = λ t.
                let low = ltb-true slot slot_count (and_left (ltb slot slot_count) _ t) in
                (low, sym (state-is b.area slot low) ∙ eqb-true _ _ (and_right (ltb slot slot_count) _ t));
            back = λ h. and_both (lt-ltb slot slot_count h.0) (eq-eqb _ _ (state-is b.area slot h.0 ∙ h.1));
          }

  round-decided : (clock : ℕ) → Decided (tests (round clock) b) b (answer (round clock) b)
  unfolding answer
  round-decided clock =
      on-both _ λ p.
      on-answer _ (says-at-most round_room (length b.out)) (λ h. done (length (round_of k clock b.disc).out) refl)

-- ---- every call
other-decided : (o : Other) (b : Buffers) → Decided (other_tests o b) b (answer (other o) b)
other-decided (store name bytes) b = store-decided b name bytes
other-decided (retrieve name) b = retrieve-decided b name
other-decided (erase name) b = erase-decided b name
other-decided files b = files-decided b
other-decided free_space b = free-space-decided b
other-decided list b = list-decided b

pub call-decided : (c : Call) (b : Buffers) → Decided (tests c b) b (answer c b)
call-decided (turn slot clock) b = turn-decided b slot clock
call-decided (round clock) b = round-decided b clock
call-decided (command c id) b = command-decided b c id
call-decided (share id turns) b = share-decided b id turns
call-decided (run name) b = run-decided b name
call-decided (other o) b = other-decided o b

-- ---- format and boot, which are no Call
pub format-decided : (b : Buffers) → Decided (format_tests b) b (format_answer b)
unfolding format_answer
format-decided b = on-answer b _ (says-lengths b) (λ h. done b 0 refl)

pub boot-decided : (b : Buffers) → Decided (boot_tests b) b (boot_answer b)
unfolding boot_answer
boot-decided b = on-answer b _ (says-equal (length b.area) area_length) (λ h. done b 0 refl)
