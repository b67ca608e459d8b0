-- A run from any buffers: until they are good every call leaves the work area, so that nothing is started; from then on its events form a
-- chain.
use Prim.Native.Nat.{ℕ, suc}
use mathlib.Core.Path.{◌≡◌, refl, sym, ap, subst⁻¹, ◌∙◌}
use mathlib.Core.Bool.{Bool, true, false, ◌&&◌}
use mathlib.Core.List.{List, [], ◌∷◌, ◌++◌}
use mathlib.Core.Logic.{◌⊎◌, inl, inr}
use lib.Dec.{leb}
use lib.ListN.{length}
use Rattle.buffer.proofs.Bools.{true-not-false}
use Rattle.disc.specs.Directory.{good_disc, is_disc_length}
use Rattle.store.specs.File.{unless}
use Rattle.machine.specs.Answer.{Answer, Buffers, Other, store, retrieve, erase, files, free_space, list, Call, turn, round}
use Rattle.machine.specs.Answer.{command, share, run, other}
use Rattle.machine.specs.Answer.{answer, good_area, on_good, other_answer, refused}
use Rattle.machine.specs.Area.{is_area_length, kernel_of}
use Rattle.machine.specs.Isolation.{gives_out}
use Rattle.machine.specs.Limits.{turn_room}
use Rattle.machine.specs.Refusals.{Passes}
use Rattle.machine.specs.State.{slot_of}
use Rattle.machine.specs.Trace.{Event, Invocation, Storage, answer_of, event, events, events_by, lending, only_if, round_events}
use Rattle.machine.specs.Trace.{storage_of, output_text}
use Rattle.machine.specs.declared.Kernel.{Kernel}
use Rattle.machine.proofs.Traces.Chains.{Chain}
use Rattle.machine.proofs.Traces.FreshStart.{given_is}
use Rattle.machine.proofs.Changes.Slots.{place-is-slot}
use Rattle.machine.proofs.Traces.Runs.{chain-of}

-- ---- before the start the buffers may be anything: a call on buffers that are not good leaves the work area
unfoldable pub Linked : List Event → Type 0
Linked [] = Unit {0}
Linked (e ∷ es) = ((e.after.area ≡ e.before.area) × Linked es) ⊎ Chain (kernel_of e.before.area) e.before.disc (e ∷ es)

linked : (k : Kernel) (disc : List ℕ) (es : List Event) → Chain k disc es → Linked es
unfolding Linked Chain
linked k disc [] c = tt
linked k disc (e ∷ es) c = inr (refl, refl, c.2, c.3, c.4)

pub from_start : (i : ℕ) (earlier : List Event) (e : Event) (es : List Event) → gives_out i e ≡ true → Linked (earlier ++ (e ∷ es))
    → Chain (kernel_of e.before.area) e.before.disc (e ∷ es)
unfolding Linked Chain
from_start i [] e es gives (inr c) = c
from_start i [] e es gives (inl c) = let g = given_is i e gives in
    absurd (g.1 (place-is-slot e.after i ∙ ap (λ (area : List ℕ). slot_of (kernel_of area) i) c.0 ∙ sym (place-is-slot e.before i)
    ∙ g.0))
from_start i (y ∷ ys) e es gives (inl c) = from_start i ys e es gives c.1
from_start i (y ∷ ys) e es gives (inr c) =
    from_start i ys e es gives (linked (kernel_of y.after.area) y.after.disc (ys ++ (e ∷ es)) c.4)

-- ---- buffers that are not good
pub passes-or-not : (disc area : List ℕ) → Passes disc area ⊎ (Passes disc area → ⊥)
passes-or-not disc area = go (is_disc_length (length disc) && is_area_length (length area)) refl (good_disc disc) refl
    (good_area disc area) refl
  where
    go : (p : Bool) → is_disc_length (length disc) && is_area_length (length area) ≡ p → (q : Bool) → good_disc disc ≡ q → (r : Bool)
        → good_area disc area ≡ r → Passes disc area ⊎ (Passes disc area → ⊥)
    go true p true q true r = inl (record { sizes = p; disc-good = q; area-good = r })
    go true p true q false r = inr (λ x. true-not-false x.area-good r)
    go true p false q t r = inr (λ x. true-not-false x.disc-good q)
    go false p f q t r = inr (λ x. true-not-false x.sizes p)

pub bad-refused : (b : Buffers) (rest : Answer) → (Passes b.disc b.area → ⊥) → (n : ℕ) × (on_good b rest ≡ refused (suc n) b)
bad-refused b rest bad =
    go (is_disc_length (length b.disc) && is_area_length (length b.area)) refl (good_disc b.disc) refl
    (good_area b.disc b.area) refl
  where
    go : (p : Bool) → is_disc_length (length b.disc) && is_area_length (length b.area) ≡ p → (q : Bool) → good_disc b.disc ≡ q
        → (r : Bool) → good_area b.disc b.area ≡ r
        → (n : ℕ) × (unless p (refused 1 b) (unless q (refused 2 b) (unless r (refused 3 b) rest)) ≡ refused (suc n) b)
    go true p true q true r = absurd (bad (record { sizes = p; disc-good = q; area-good = r }))
    go true p true q false r = (2, refl)
    go true p false q t r = (1, refl)
    go false p f q t r = (0, refl)

module _ (s : Storage) (out : List ℕ) (bad : Passes s.disc s.area → ⊥) (later : List Event) (l : Linked later) where
  abbrev b : Buffers
  b = lending s out

  bad-event : (c : Call) (rest : Answer) (text : List ℕ) → Linked (event c s (on_good b rest) text ∷ later)
  unfolding Linked
  bad-event c rest text = inl (ap (λ (a : Answer). a.area) (bad-refused b rest bad).1, l)

  other-linked : (o : Other) → Linked (event (other o) s (answer (other o) b) [] ∷ later)
  unfolding answer other_answer Linked
  other-linked (store name bytes) = inl (refl, l)
  other-linked (retrieve name) = inl (refl, l)
  other-linked (erase name) = bad-event (other (erase name)) _ []
  other-linked files = inl (refl, l)
  other-linked free_space = inl (refl, l)
  other-linked list = bad-event (other list) _ []

  bad-linked : (c : Call) → Linked (events_by c out s (answer c b) ++ later)
  unfolding answer Linked
  bad-linked (turn slot clock) = go (leb turn_room (length out))
    where
      go : (f : Bool)
          → Linked (only_if f (event (turn slot clock) s (answer (turn slot clock) b) (output_text (answer (turn slot clock) b)))
          ++ later)
      go true = bad-event (turn slot clock) _ _
      go false = l
  bad-linked (round clock) =
      subst⁻¹ (λ (a : Answer). Linked (round_events a.number clock s (output_text a) ++ later)) (bad-refused b _ bad).1 l
  bad-linked (command c id) = bad-event (command c id) _ []
  bad-linked (share id turns) = bad-event (share id turns) _ []
  bad-linked (run name) = bad-event (run name) _ []
  bad-linked (other o) = other-linked o

pub linked_of : (calls : List Invocation) (s : Storage) → Linked (events calls s)
unfolding events Linked
linked_of [] s = tt
linked_of (i ∷ calls) s = go (passes-or-not s.disc s.area) (linked_of calls (storage_of (answer_of i s)))
  where
    go : Passes s.disc s.area ⊎ (Passes s.disc s.area → ⊥) → Linked (events calls (storage_of (answer_of i s)))
        → Linked (events (i ∷ calls) s)
    go (inl passes) l = linked (kernel_of s.area) s.disc (events (i ∷ calls) s) (chain-of (i ∷ calls) s passes)
    go (inr bad) l = bad-linked s i.out bad (events calls (storage_of (answer_of i s))) l i.call
