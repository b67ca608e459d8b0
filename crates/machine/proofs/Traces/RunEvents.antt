-- The events of a run lead where its calls lead.
use Rattle.std.specs.Prelude.{None, Option, Some}
use Prim.Native.Nat.{ℕ, suc}
use mathlib.Core.Path.{◌≡◌, refl, sym, ap, subst⁻¹, ◌∙◌}
use mathlib.Core.Bool.{Bool, true, false, ◌&&◌, not}
use mathlib.Core.List.{List, [], ◌∷◌}
use mathlib.Core.Logic.{◌⊎◌, inl, inr, ⊎_elim}
use lib.Dec.{leb, ltb}
use lib.ListN.{length}
use lib.Seq.{take_at}
use borrow.Author.Tests.{eqb-true}
use Rattle.buffer.specs.Lists.{all}
use Rattle.buffer.proofs.Bools.{and_right}
use Rattle.disc.specs.Directory.{entry_at, lookup}
use Rattle.machine.specs.Answer.{Answer, Buffers, Other, store, retrieve, erase, files, free_space, list, Call, turn, round}
use Rattle.machine.specs.Answer.{command, share, run, other}
use Rattle.machine.specs.Answer.{answer, command_answer, erase_at, on_good, other_answer, refused, run_at, turned_answer}
use Rattle.machine.specs.Area.{AreBytes, Whole, is_area_length, kernel_bytes, kernel_of}
use Rattle.machine.specs.Limits.{area_length, round_room, slot_count, turn_room}
use Rattle.machine.specs.Operations.{Commanded, becomes, refused as declined, commanded, in_use, list_text, round_of, shared}
use Rattle.machine.specs.Refusals.{Passes}
use Rattle.machine.specs.Start.{Starting, starts, refuses, started, starting}
use Rattle.machine.specs.State.{is_running, process_at}
use Rattle.machine.specs.Trace.{Event, Invocation, Storage, after_calls, answer_of, event, events, events_by, last_storage, lending}
use Rattle.machine.specs.Trace.{only_if, output_text, round_events, storage_of, ten_slots}
use Rattle.machine.specs.Turn.{Turned, turned}
use Rattle.machine.specs.declared.Kernel.{Kernel}
use Rattle.machine.proofs.Operations.Tests.{tried}
use Rattle.machine.proofs.Traces.AnyBuffers.{bad-refused, passes-or-not}
use Rattle.machine.proofs.Bytes.Area.{kernel-encode-decode}
use Rattle.machine.proofs.Traces.Chains.{short-round, short-turn}
use Rattle.machine.proofs.Changes.Change.{GoodState, begins}
use Rattle.machine.proofs.Operations.Commanding.{command-good, share-good}
use Rattle.machine.proofs.Demands.GoodCalls.{area-length, good-back, on-good, passes-good, round-good, turn-good}
use Rattle.machine.proofs.Kept.OutsideKept.{outside-good}
use Rattle.machine.proofs.Traces.RoundParts.{last-append, share-parts}
use Rattle.machine.proofs.Demands.Rounds.{round-done}

-- an area of the right length is whole
abbrev Sound : List ℕ → Type 0
Sound area = is_area_length (length area) ≡ true → Whole area

-- ---- the area that a call leaves: as it was, or the bytes of a good state
module _ (s : Storage) (out : List ℕ) where
  abbrev b : Buffers
  b = lending s out

  pub data Written (a : Answer) : Type 0 where
    as_it_was : a.area ≡ s.area → Written a
    state-bytes : (j : Kernel) (disc : List ℕ) → GoodState j disc → a.area ≡ kernel_bytes j → Written a

  -- on buffers that are not good it stays
  bad-other : (Passes s.disc s.area → ⊥) → (o : Other) → (answer (other o) b).area ≡ s.area
  unfolding answer other_answer
  bad-other bad (store name bytes) = refl
  bad-other bad (retrieve name) = refl
  bad-other bad (erase name) = ap (λ (a : Answer). a.area) (bad-refused b _ bad).1
  bad-other bad files = refl
  bad-other bad free_space = refl
  bad-other bad list = ap (λ (a : Answer). a.area) (bad-refused b _ bad).1

  bad-area : (Passes s.disc s.area → ⊥) → (c : Call) → (answer c b).area ≡ s.area
  unfolding answer
  bad-area bad (turn slot clock) = ap (λ (a : Answer). a.area) (bad-refused b _ bad).1
  bad-area bad (round clock) = ap (λ (a : Answer). a.area) (bad-refused b _ bad).1
  bad-area bad (command c id) = ap (λ (a : Answer). a.area) (bad-refused b _ bad).1
  bad-area bad (share id turns) = ap (λ (a : Answer). a.area) (bad-refused b _ bad).1
  bad-area bad (run name) = ap (λ (a : Answer). a.area) (bad-refused b _ bad).1
  bad-area bad (other o) = bad-other bad o

  module _ (passes : Passes s.disc s.area) where
    abbrev k : Kernel
    k = kernel_of s.area

    good : GoodState k s.disc
    good = passes-good s.disc s.area passes

    after-good : (rest : Answer) → Written rest → Written (on_good b rest)
    after-good rest w = subst⁻¹ Written (on-good b rest passes) w

    erased-area : (f : Option ℕ) → Written (erase_at f k b)
    erased-area None = as_it_was refl
    erased-area (Some i) = tried Written b (not (in_use k (entry_at s.disc i))) 11 _ (as_it_was refl) λ free. as_it_was refl

    run-area : (name : List ℕ) (x : Starting) → starting k s.disc name ≡ x → Written (run_at x k b)
    run-area name (refuses n) e = as_it_was refl
    run-area name (starts slot f) e =
        state-bytes (started k slot f) s.disc (outside-good name k s.disc _ _ good (begins slot f e refl refl)) refl

    commanded-area : (r : Commanded) → ((j : Kernel) → r ≡ becomes j → GoodState j s.disc) → Written (command_answer r b)
    commanded-area (declined n) leaves = as_it_was refl
    commanded-area (becomes j) leaves = state-bytes j s.disc (leaves j refl) refl

    good-other : (o : Other) → Written (answer (other o) b)
    unfolding answer other_answer
    good-other (store name bytes) = as_it_was refl
    good-other (retrieve name) = as_it_was refl
    good-other (erase name) = after-good _ (erased-area (lookup s.disc name))
    good-other files = as_it_was refl
    good-other free_space = as_it_was refl
    good-other list = after-good _ (tried Written b (leb (length (list_text k)) (length out)) 4 _ (as_it_was refl) λ fit. as_it_was refl)

    good-area : (c : Call) → Written (answer c b)
    unfolding answer
    good-area (turn slot clock) =
        after-good _
        (tried Written b (leb turn_room (length out)) 4 _ (as_it_was refl) λ fit.
        tried Written b (ltb slot slot_count && is_running (process_at k slot)) 16 _ (as_it_was refl) λ may.
        state-bytes (turned k slot clock s.disc).kernel (turned k slot clock s.disc).disc
        (turn-good k slot clock s.disc good (and_right (ltb slot slot_count) _ may)) refl)
    good-area (round clock) =
        after-good _
        (tried Written b (leb round_room (length out)) 4 _ (as_it_was refl) λ fit.
        state-bytes (round_of k clock s.disc).kernel (round_of k clock s.disc).disc (round-good k clock s.disc good) refl)
    good-area (command c id) = after-good _ (commanded-area (commanded c id k) (command-good good c id))
    good-area (share id turns) = after-good _ (commanded-area (shared id turns k) (share-good good id turns))
    good-area (run name) = after-good _ (run-area name (starting k s.disc name) refl)
    good-area (other o) = good-other o

  -- both facts of an area that a call keeps: that it is whole, and that it is where it has the right length
  area-kept : (P : List ℕ → Type 0) → ((j : Kernel) (disc : List ℕ) → GoodState j disc → P (kernel_bytes j)) → (c : Call) → P s.area
      → P (answer c b).area
  area-kept P written c h =
      ⊎_elim (λ passes. of (good-area passes c)) (λ bad. subst⁻¹ P (bad-area bad c) h) (passes-or-not s.disc s.area)
    where
      of : Written (answer c b) → P (answer c b).area
      of (as_it_was e) = subst⁻¹ P e h
      of (state-bytes j disc g e) = subst⁻¹ P e (written j disc g)

  pub whole-after : (c : Call) → Whole s.area → Whole (answer c b).area
  whole-after = area-kept Whole (λ j disc g. ap kernel_bytes (good-back j disc g))

  sound-kept : (c : Call) → Sound s.area → Sound (answer c b).area
  sound-kept = area-kept Sound (λ j disc g long. ap kernel_bytes (good-back j disc g))

  -- ---- where the events of a call lead
  abbrev Ends : List Event → Answer → Type 0
  Ends es a = last_storage s es ≡ storage_of a

  refused-ends : (n : ℕ) (a : Answer) → a ≡ refused n b → s ≡ storage_of a
  refused-ends n a e = sym (ap storage_of e)

  turn-ends : (slot clock : ℕ)
      → Ends (only_if (leb turn_room (length out))
      (event (turn slot clock) s (answer (turn slot clock) b) (output_text (answer (turn slot clock) b)))) (answer (turn slot clock) b)
  unfolding last_storage answer
  turn-ends slot clock = go (leb turn_room (length out)) refl (passes-or-not s.disc s.area)
    where
      a : Answer
      a = answer (turn slot clock) b

      go : (f : Bool) → leb turn_room (length out) ≡ f → Passes s.disc s.area ⊎ (Passes s.disc s.area → ⊥)
          → Ends (only_if f (event (turn slot clock) s a (output_text a))) a
      go true h p = refl
      go false h (inl passes) = refused-ends 4 a (short-turn s out passes slot clock h)
      go false h (inr bad) = let r = bad-refused b _ bad in refused-ends (suc r.0) a r.1

  round-ends : (clock : ℕ) → Sound s.area
      → Ends (round_events (answer (round clock) b).number clock s (output_text (answer (round clock) b))) (answer (round clock) b)
  unfolding last_storage answer all
  round-ends clock whole = go (leb round_room (length out)) refl (passes-or-not s.disc s.area)
    where
      u : Turned
      u = round_of (kernel_of s.area) clock s.disc

      Right : Answer → Type 0
      Right a = Ends (round_events a.number clock s (output_text a)) a

      short : (n : ℕ) → answer (round clock) b ≡ refused (suc n) b → Right (answer (round clock) b)
      short n e = subst⁻¹ Right e refl

      go : (f : Bool) → leb round_room (length out) ≡ f → Passes s.disc s.area ⊎ (Passes s.disc s.area → ⊥)
          → Right (answer (round clock) b)
      go f h (inr bad) = let r = bad-refused b _ bad in short r.0 r.1
      go false h (inl passes) = short 3 (short-round s out passes clock h)
      go true h (inl passes) =
          let p = share-parts ten_slots clock s (output_text (turned_answer u b)) refl passes (take_at u.out _ (length u.out) refl) in
          subst⁻¹ Right (round-done b clock passes h) (λ z. record { disc = p.disc z; area = p.area (whole (area-length passes)) z })

  call_ends : (c : Call) → Sound s.area → Ends (events_by c out s (answer c b)) (answer c b)
  unfolding last_storage
  call_ends (turn slot clock) h = turn-ends slot clock
  call_ends (round clock) h = round-ends clock h
  call_ends (command c id) h = refl
  call_ends (share id turns) h = refl
  call_ends (run name) h = refl
  call_ends (other o) h = refl

run_ends : (calls : List Invocation) (s : Storage) → Sound s.area → last_storage s (events calls s) ≡ after_calls calls s
unfolding events last_storage after_calls
run_ends [] s h = refl
run_ends (i ∷ calls) s h =
    let a : Answer = answer_of i s in
    last-append s (events_by i.call i.out s a) (events calls (storage_of a))
    ∙ ap (λ (t : Storage). last_storage t (events calls (storage_of a))) (call_ends s i.out i.call h)
    ∙ run_ends calls (storage_of a) (sound-kept s i.out i.call h)

pub bytes_whole : (area : List ℕ) → AreBytes area → length area ≡ area_length → Whole area
bytes_whole = kernel-encode-decode

pub run-is-events : (calls : List Invocation) (s : Storage) → AreBytes s.area → last_storage s (events calls s) ≡ after_calls calls s
run-is-events calls s h = run_ends calls s (λ long. kernel-encode-decode s.area h (eqb-true _ _ long))
