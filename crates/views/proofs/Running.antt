-- A run, and a round in it, shows the same on both until room is refused, if each single call does.
use Prim.Native.Nat.{ℕ}
use mathlib.Core.Path.{◌≡◌, refl, sym, ap, subst, subst⁻¹, ◌∙◌}
use mathlib.Core.Bool.{Bool, true, false, and-false}
use mathlib.Core.List.{List, [], ◌∷◌, ◌++◌, append_assoc}
use mathlib.Core.Logic.{◌⊎◌, inl, inr}
use lib.Dec.{leb, ltb}
use lib.ListN.{drop, length, replicate, take}
use lib.Seq.{take_at}
use Rattle.buffer.specs.Lists.{all, cons_if}
use Rattle.buffer.proofs.Bools.{true-not-false}
use Rattle.machine.specs.Answer.{Answer, Buffers, Call, turn, round, command, share, run, other, answer, refused, turned_answer}
use Rattle.machine.specs.Area.{kernel_of}
use Rattle.machine.specs.Limits.{round_room, slot_count, turn_room}
use Rattle.machine.specs.Operations.{round_of}
use Rattle.machine.specs.Refusals.{Passes}
use Rattle.machine.specs.State.{is_running, process_at}
use Rattle.machine.specs.Suppositions.{is_done_by}
use Rattle.machine.specs.Trace.{Event, Invocation, PrintsItsPart, Storage, answer_of, at_least_one, counts, event, events, events_by}
use Rattle.machine.specs.Trace.{last_storage, lending, only_if, output_text, round_events, share_events, storage_of, ten_slots, total}
use Rattle.machine.specs.Trace.{turn_events}
use Rattle.machine.specs.Turn.{Turned}
use Rattle.machine.specs.declared.Kernel.{Kernel}
use Rattle.machine.specs.declared.Process.{Process}
use Rattle.machine.proofs.Demands.GoodCalls.{good-back, good-kept, passes-good, round-good}
use Rattle.machine.proofs.Demands.Rounds.{round-done}
use Rattle.machine.proofs.Traces.Chains.{short-round, short-turn}
use Rattle.machine.proofs.Traces.RoundParts.{Parts, last-append, share-parts}
use Rattle.views.specs.Same.{SameUntil, over, either, both, aside, view_at, view_of}
use Rattle.views.proofs.Alike.{Alike, Lacks}
use Rattle.views.proofs.First.{same-record}

-- ---- what is asked of a single call
abbrev pub NotRound : Call → Type 0
NotRound (turn slot clock) = Unit {0}
NotRound (round clock) = ⊥
NotRound (command c id) = Unit {0}
NotRound (share id turns) = Unit {0}
NotRound (run name) = Unit {0}
NotRound (other o) = Unit {0}

-- the text of a call's event: a turn's alone
abbrev pub event_text : Call → Answer → List ℕ
event_text (turn slot clock) a = output_text a
event_text (round clock) a = []
event_text (command c id) a = []
event_text (share id turns) a = []
event_text (run name) a = []
event_text (other o) a = []

-- done or refused alike, with the same text
pub record SameStep (i : Invocation) (s₁ s₂ : Storage) : Type 0 where
  pub done : is_done_by (answer_of i s₁).number ≡ is_done_by (answer_of i s₂).number
  pub text : event_text i.call (answer_of i s₁) ≡ event_text i.call (answer_of i s₂)

abbrev pub SameCalls : Type 0
SameCalls =
    (i : Invocation) → NotRound i.call → (s₁ s₂ : Storage) → Alike s₁ s₂
    → Lacks i.call s₁ s₂ ⊎ (SameStep i s₁ s₂ × Alike (storage_of (answer_of i s₁)) (storage_of (answer_of i s₂)))

-- ---- a slot runs on both or on neither, for as many turns
module _ (s₁ s₂ : Storage) (h : Alike s₁ s₂) (slot : ℕ) where
  record-alike : aside s₁.disc (process_at (kernel_of s₁.area) slot) ≡ aside s₂.disc (process_at (kernel_of s₂.area) slot)
  record-alike =
      same-record (kernel_of s₁.area) (kernel_of s₂.area) s₁.disc s₂.disc (passes-good s₁.disc s₁.area h.passes₁)
      (passes-good s₂.disc s₂.area h.passes₂) h.same slot

  running-alike : is_running (process_at (kernel_of s₁.area) slot) ≡ is_running (process_at (kernel_of s₂.area) slot)
  unfolding aside
  running-alike = ap is_running record-alike

  turns-due-alike : at_least_one (process_at (kernel_of s₁.area) slot).share ≡ at_least_one (process_at (kernel_of s₂.area) slot).share
  unfolding aside
  turns-due-alike = ap (λ (p : Process). at_least_one p.share) record-alike

-- a turn of a slot that does not run leaves both buffers
idle-turn : (s : Storage) (slot clock : ℕ) → Passes s.disc s.area → is_running (process_at (kernel_of s.area) slot) ≡ false
    → storage_of (answer (turn slot clock) (lending s (replicate turn_room 0))) ≡ s
unfolding answer
idle-turn s slot clock passes h = rw (passes.sizes, passes.disc-good, passes.area-good, h, and-false (ltb slot slot_count))

-- ---- what is left of a done round
first-parts : (xs ys : List Event) → PrintsItsPart (xs ++ ys) → PrintsItsPart xs
unfolding PrintsItsPart
first-parts [] ys p = tt
first-parts (x ∷ xs) ys p = (p.0, p.1, first-parts xs ys p.2)

last-parts : (xs ys : List Event) → PrintsItsPart (xs ++ ys) → PrintsItsPart ys
unfolding PrintsItsPart
last-parts [] ys p = p
last-parts (x ∷ xs) ys p = last-parts xs ys p.2

record RoundShown (s : Storage) (clock : ℕ) (a : Answer) : Type 0 where
  turns : round_events a.number clock s (output_text a) ≡ share_events ten_slots clock s (output_text a)
  parts : PrintsItsPart (share_events ten_slots clock s (output_text a))
  shows : view_of (last_storage s (share_events ten_slots clock s (output_text a))) ≡ view_of (storage_of a)

-- no area need be whole here: the bytes left may differ from the last turn's, and what they say does not
round-shown : (s : Storage) (out : List ℕ) (clock : ℕ) → Passes s.disc s.area → leb round_room (length out) ≡ true
    → RoundShown s clock (answer (round clock) (lending s out))
unfolding all
round-shown s out clock passes room =
    subst⁻¹ (RoundShown s clock) (round-done b clock passes room) (record {
      turns = refl;
      parts = p.parts;
      shows = (λ z. view_at (p.kernel z) (p.disc z))
          ∙ sym (ap (λ (k : Kernel). view_at k u.disc)
          (good-back u.kernel u.disc (round-good (kernel_of s.area) clock s.disc (passes-good s.disc s.area passes))));
    })
  where
    b : Buffers
    b = lending s out

    u : Turned
    u = round_of (kernel_of s.area) clock s.disc

    p : Parts s (share_events ten_slots clock s (output_text (turned_answer u b))) u
    p = share-parts ten_slots clock s (output_text (turned_answer u b)) refl passes (take_at u.out _ (length u.out) refl)

-- ---- events that print the same, with any events behind them that do so if they begin alike
abbrev pub Follow : Storage → Storage → List Event → List Event → Type 0
Follow s₁ s₂ es₁ es₂ =
    (r₁ r₂ : List Event) → (Alike (last_storage s₁ es₁) (last_storage s₂ es₂) → SameUntil r₁ r₂)
    → SameUntil (es₁ ++ r₁) (es₂ ++ r₂)

-- the same behind a call, from what the call itself leaves
abbrev pub Onward : Invocation → Storage → Storage → Type 0
Onward i s₁ s₂ =
    (r₁ r₂ : List Event) → (Alike (storage_of (answer_of i s₁)) (storage_of (answer_of i s₂)) → SameUntil r₁ r₂)
    → SameUntil (events_by i.call i.out s₁ (answer_of i s₁) ++ r₁) (events_by i.call i.out s₂ (answer_of i s₂) ++ r₂)

follow-both : (s₁ s₂ : Storage) (xs₁ xs₂ ys₁ ys₂ : List Event) → Follow s₁ s₂ xs₁ xs₂
    → (Alike (last_storage s₁ xs₁) (last_storage s₂ xs₂) → Follow (last_storage s₁ xs₁) (last_storage s₂ xs₂) ys₁ ys₂)
    → Follow s₁ s₂ (xs₁ ++ ys₁) (xs₂ ++ ys₂)
follow-both s₁ s₂ xs₁ xs₂ ys₁ ys₂ f g r₁ r₂ k =
    subst⁻¹ (λ (l : List Event). SameUntil l ((xs₂ ++ ys₂) ++ r₂)) (append_assoc xs₁ ys₁ r₁)
    (subst⁻¹ (λ (l : List Event). SameUntil (xs₁ ++ (ys₁ ++ r₁)) l) (append_assoc xs₂ ys₂ r₂)
    (f (ys₁ ++ r₁) (ys₂ ++ r₂) λ a. g a r₁ r₂ λ c. k
    (subst⁻¹ (λ (t : Storage). Alike t (last_storage s₂ (xs₂ ++ ys₂))) (last-append s₁ xs₁ ys₁)
    (subst⁻¹ (λ (t : Storage). Alike (last_storage (last_storage s₁ xs₁) ys₁) t) (last-append s₂ xs₂ ys₂) c))))

module _ (step : SameCalls) where
  -- ---- turns in a row
  turns-follow : (l : List ℕ) (clock : ℕ) (s₁ s₂ : Storage) (t₁ t₂ : List ℕ) → Alike s₁ s₂ → PrintsItsPart (turn_events l clock s₁ t₁)
      → PrintsItsPart (turn_events l clock s₂ t₂) → Follow s₁ s₂ (turn_events l clock s₁ t₁) (turn_events l clock s₂ t₂)
  unfolding turn_events last_storage PrintsItsPart
  turns-follow [] clock s₁ s₂ t₁ t₂ h p₁ p₂ = λ r₁ r₂ k. k h
  turns-follow (slot ∷ l) clock s₁ s₂ t₁ t₂ h p₁ p₂ =
      go (turns-follow l clock (storage_of a₁) (storage_of a₂) (drop (counts a₁.number) t₁) (drop (counts a₂.number) t₂))
      (is_running (process_at (kernel_of s₁.area) slot)) refl (is_running (process_at (kernel_of s₂.area) slot)) refl p₁ p₂
    where
      i : Invocation
      i = record { call = turn slot clock; out = replicate turn_room 0 }

      a₁ : Answer
      a₁ = answer_of i s₁

      a₂ : Answer
      a₂ = answer_of i s₂

      later₁ : List Event
      later₁ = turn_events l clock (storage_of a₁) (drop (counts a₁.number) t₁)

      later₂ : List Event
      later₂ = turn_events l clock (storage_of a₂) (drop (counts a₂.number) t₂)

      e₁ : Event
      e₁ = event (turn slot clock) s₁ a₁ (take (counts a₁.number) t₁)

      e₂ : Event
      e₂ = event (turn slot clock) s₂ a₂ (take (counts a₂.number) t₂)

      -- the turns behind this one
      Again : Type 0
      Again = Alike (storage_of a₁) (storage_of a₂) → PrintsItsPart later₁ → PrintsItsPart later₂
          → Follow (storage_of a₁) (storage_of a₂) later₁ later₂

      stepped : Again → PrintsItsPart (e₁ ∷ later₁) → PrintsItsPart (e₂ ∷ later₂)
          → Lacks (turn slot clock) s₁ s₂ ⊎ (SameStep i s₁ s₂ × Alike (storage_of a₁) (storage_of a₂))
          → Follow s₁ s₂ (e₁ ∷ later₁) (e₂ ∷ later₂)
      stepped again q₁ q₂ (inl lacks) r₁ r₂ k = either e₁ e₂ (later₁ ++ r₁) (later₂ ++ r₂) lacks
      stepped again q₁ q₂ (inr x) r₁ r₂ k =
          both e₁ e₂ (later₁ ++ r₁) (later₂ ++ r₂)
          (record { call = refl; done = x.0.done; text = q₁.1 ∙ x.0.text ∙ sym q₂.1 })
          (again x.1 q₁.2 q₂.2 r₁ r₂ k)

      go : Again → (f : Bool) → is_running (process_at (kernel_of s₁.area) slot) ≡ f → (g : Bool)
          → is_running (process_at (kernel_of s₂.area) slot) ≡ g → PrintsItsPart (cons_if f e₁ later₁) → PrintsItsPart (cons_if g e₂ later₂)
          → Follow s₁ s₂ (cons_if f e₁ later₁) (cons_if g e₂ later₂)
      go again true d₁ false d₂ q₁ q₂ = absurd (true-not-false d₁ (running-alike s₁ s₂ h slot ∙ d₂))
      go again false d₁ true d₂ q₁ q₂ = absurd (true-not-false (running-alike s₁ s₂ h slot ∙ d₂) d₁)
      go again true d₁ true d₂ q₁ q₂ = stepped again q₁ q₂ (step i tt s₁ s₂ h)
      go again false d₁ false d₂ q₁ q₂ =
          let i₁ : storage_of a₁ ≡ s₁ = idle-turn s₁ slot clock h.passes₁ d₁ in
          let i₂ : storage_of a₂ ≡ s₂ = idle-turn s₂ slot clock h.passes₂ d₂ in
          subst (λ (x : Storage). Follow x s₂ later₁ later₂) i₁
          (subst (λ (x : Storage). Follow (storage_of a₁) x later₁ later₂) i₂
          (again (subst⁻¹ (λ (x : Storage). Alike x (storage_of a₂)) i₁ (subst⁻¹ (λ (x : Storage). Alike s₁ x) i₂ h)) q₁ q₂))

  -- ---- the shares of a round
  shares-follow : (l : List ℕ) (clock : ℕ) (s₁ s₂ : Storage) (t₁ t₂ : List ℕ) → Alike s₁ s₂
      → PrintsItsPart (share_events l clock s₁ t₁) → PrintsItsPart (share_events l clock s₂ t₂)
      → Follow s₁ s₂ (share_events l clock s₁ t₁) (share_events l clock s₂ t₂)
  unfolding share_events last_storage PrintsItsPart
  shares-follow [] clock s₁ s₂ t₁ t₂ h p₁ p₂ = λ r₁ r₂ k. k h
  shares-follow (slot ∷ l) clock s₁ s₂ t₁ t₂ h p₁ p₂ =
      follow-both s₁ s₂ es₁ es₂ later₁ later₂
      (own n₂ (turns-due-alike s₁ s₂ h slot) (first-parts es₁ later₁ p₁) (first-parts es₂ later₂ p₂))
      (λ a. shares-follow l clock (last_storage s₁ es₁) (last_storage s₂ es₂) (drop (total es₁) t₁) (drop (total es₂) t₂) a
      (last-parts es₁ later₁ p₁) (last-parts es₂ later₂ p₂))
    where
      n₁ : ℕ
      n₁ = at_least_one (process_at (kernel_of s₁.area) slot).share

      n₂ : ℕ
      n₂ = at_least_one (process_at (kernel_of s₂.area) slot).share

      es₁ : List Event
      es₁ = turn_events (replicate n₁ slot) clock s₁ t₁

      es₂ : List Event
      es₂ = turn_events (replicate n₂ slot) clock s₂ t₂

      later₁ : List Event
      later₁ = share_events l clock (last_storage s₁ es₁) (drop (total es₁) t₁)

      later₂ : List Event
      later₂ = share_events l clock (last_storage s₂ es₂) (drop (total es₂) t₂)

      own : (n : ℕ) → n₁ ≡ n → PrintsItsPart es₁ → PrintsItsPart (turn_events (replicate n slot) clock s₂ t₂)
          → Follow s₁ s₂ es₁ (turn_events (replicate n slot) clock s₂ t₂)
      own n e =
          subst (λ (m : ℕ). PrintsItsPart es₁ → PrintsItsPart (turn_events (replicate m slot) clock s₂ t₂)
          → Follow s₁ s₂ es₁ (turn_events (replicate m slot) clock s₂ t₂)) e
          (turns-follow (replicate n₁ slot) clock s₁ s₂ t₁ t₂ h)

  -- ---- a call
  module _ (s₁ s₂ : Storage) (out : List ℕ) (h : Alike s₁ s₂) where
    abbrev a₁ : Call → Answer
    a₁ c = answer c (lending s₁ out)

    abbrev a₂ : Call → Answer
    a₂ c = answer c (lending s₂ out)

    abbrev Behind : Call → Type 0
    Behind c = Onward (record { call = c; out = out }) s₁ s₂

    -- a call that is one event
    single : (c : Call) → NotRound c → (r₁ r₂ : List Event)
        → (Alike (storage_of (a₁ c)) (storage_of (a₂ c)) → SameUntil r₁ r₂)
        → SameUntil (event c s₁ (a₁ c) (event_text c (a₁ c)) ∷ r₁) (event c s₂ (a₂ c) (event_text c (a₂ c)) ∷ r₂)
    single c n r₁ r₂ k = go (step (record { call = c; out = out }) n s₁ s₂ h)
      where
        go : Lacks c s₁ s₂ ⊎ (SameStep (record { call = c; out = out }) s₁ s₂ × Alike (storage_of (a₁ c)) (storage_of (a₂ c)))
            → SameUntil (event c s₁ (a₁ c) (event_text c (a₁ c)) ∷ r₁) (event c s₂ (a₂ c) (event_text c (a₂ c)) ∷ r₂)
        go (inl lacks) = either _ _ r₁ r₂ lacks
        go (inr x) = both _ _ r₁ r₂ (record { call = refl; done = x.0.done; text = x.0.text }) (k x.1)

    -- both leave what they found
    stays : (c : Call) (n : ℕ) → a₁ c ≡ refused n (lending s₁ out) → a₂ c ≡ refused n (lending s₂ out)
        → Alike (storage_of (a₁ c)) (storage_of (a₂ c))
    stays c n d₁ d₂ =
        subst⁻¹ (λ (a : Answer). Alike (storage_of a) (storage_of (a₂ c))) d₁
        (subst⁻¹ (λ (a : Answer). Alike s₁ (storage_of a)) d₂ h)

    turn-onward : (slot clock : ℕ) → Behind (turn slot clock)
    turn-onward slot clock r₁ r₂ k = go (leb turn_room (length out)) refl
      where
        c : Call
        c = turn slot clock

        go : (f : Bool) → leb turn_room (length out) ≡ f
            → SameUntil (only_if f (event c s₁ (a₁ c) (output_text (a₁ c))) ++ r₁)
            (only_if f (event c s₂ (a₂ c) (output_text (a₂ c))) ++ r₂)
        go true room = single c tt r₁ r₂ k
        go false room = k (stays c 4 (short-turn s₁ out h.passes₁ slot clock room) (short-turn s₂ out h.passes₂ slot clock room))

    -- a round is refused on both or on neither
    round-onward : (clock : ℕ) → Behind (round clock)
    round-onward clock r₁ r₂ k = go (leb round_room (length out)) refl
      where
        c : Call
        c = round clock

        es₁ : Answer → List Event
        es₁ a = round_events a.number clock s₁ (output_text a)

        es₂ : Answer → List Event
        es₂ a = round_events a.number clock s₂ (output_text a)

        go : (f : Bool) → leb round_room (length out) ≡ f → SameUntil (es₁ (a₁ c) ++ r₁) (es₂ (a₂ c) ++ r₂)
        go false room =
            let d₁ : a₁ c ≡ refused 4 (lending s₁ out) = short-round s₁ out h.passes₁ clock room in
            let d₂ : a₂ c ≡ refused 4 (lending s₂ out) = short-round s₂ out h.passes₂ clock room in
            subst⁻¹ (λ (a : Answer). SameUntil (es₁ a ++ r₁) (es₂ (a₂ c) ++ r₂)) d₁
            (subst⁻¹ (λ (a : Answer). SameUntil r₁ (es₂ a ++ r₂)) d₂ (k (stays c 4 d₁ d₂)))
        go true room =
            let x₁ = round-shown s₁ out clock h.passes₁ room in
            let x₂ = round-shown s₂ out clock h.passes₂ room in
            subst⁻¹ (λ (l : List Event). SameUntil (l ++ r₁) (es₂ (a₂ c) ++ r₂)) x₁.turns
            (subst⁻¹ (λ (l : List Event). SameUntil (share_events ten_slots clock s₁ (output_text (a₁ c)) ++ r₁) (l ++ r₂)) x₂.turns
            (shares-follow ten_slots clock s₁ s₂ (output_text (a₁ c)) (output_text (a₂ c)) h x₁.parts x₂.parts r₁ r₂ λ a. k
            (record {
              passes₁ = good-kept (lending s₁ out) h.passes₁ c;
              passes₂ = good-kept (lending s₂ out) h.passes₂ c;
              same = sym x₁.shows ∙ a.same ∙ x₂.shows;
            })))

    call-onward : (c : Call) → Behind c
    call-onward (turn slot clock) = turn-onward slot clock
    call-onward (round clock) = round-onward clock
    call-onward (command c id) = single (command c id) tt
    call-onward (share id turns) = single (share id turns) tt
    call-onward (run name) = single (run name) tt
    call-onward (other o) = single (other o) tt

  -- ---- a run
  run-alike : (calls : List Invocation) (s₁ s₂ : Storage) → Alike s₁ s₂ → SameUntil (events calls s₁) (events calls s₂)
  unfolding events
  run-alike [] s₁ s₂ h = over
  run-alike (i ∷ calls) s₁ s₂ h =
      call-onward s₁ s₂ i.out h i.call (events calls (storage_of (answer_of i s₁))) (events calls (storage_of (answer_of i s₂)))
      (run-alike calls (storage_of (answer_of i s₁)) (storage_of (answer_of i s₂)))

  pub same-on-both : (s₁ s₂ : Storage) (calls : List Invocation) → Passes s₁.disc s₁.area → Passes s₂.disc s₂.area
      → view_of s₁ ≡ view_of s₂ → SameUntil (events calls s₁) (events calls s₂)
  same-on-both s₁ s₂ calls p₁ p₂ e = run-alike calls s₁ s₂ (record { passes₁ = p₁; passes₂ = p₂; same = e })
