-- The tests that come first, as the code makes them: what a refused call answers, and what is known of buffers that pass.
use Rattle.std.specs.Prelude.{Some, Ok, Err, Result}
use Prim.Native.Nat.{ℕ, ◌≤◌, ◌<◌}
use mathlib.Core.Path.{◌≡◌, refl, sym, ap, ◌∙◌}
use mathlib.Core.Bool.{Bool, true, false, ◌&&◌}
use mathlib.Core.List.{List}
use native.Mathlib.Omega.{arith}
use lib.ListN.{length}
use borrow.Author.Tests.{le-leb, lt-leb}
use Rattle.disc.specs.Directory.{good_disc, is_disc_length}
use Rattle.store.specs.File.{unless}
use Rattle.store.specs.declared.Refusal.{Refusal}
use Rattle.store.specs.declared.Refusal.TheVariants.{WrongLength, BadDisc, BadArea, ShortOutput}
use Rattle.machine.specs.Answer.{good_area, on_good, refused, with_room}
use Rattle.machine.specs.Answer.{Answer as Expected}
use Rattle.machine.specs.Area.{is_area_length, kernel_of}
use Rattle.machine.specs.Limits.{area_length, slot_count}
use Rattle.machine.specs.Refusals.{Passes}
use Rattle.machine.specs.State.{slot_of}
use Rattle.machine.proofs.Bytes.Sizes.{decoded-sized}
use Rattle.machine.proofs.Changes.Slots.{slot_at}
use Rattle.machine.proofs.Demands.GoodCalls.{on-good}
use Rattle.validation.specs.Tests.{tested}
use Rattle.operation.specs.Answers.{answered, lent}

-- ---- one test after the other, and what the code was told of them
module _ (disc area : List ℕ) where
  -- refused, whatever else the operation does
  pub first-refused : {refusal : Refusal} → Err refusal ≡ tested disc area → (out : List ℕ) (rest : Expected)
      → answered (Err refusal) disc area out ≡ on_good (lent disc area out) rest
  unfolding tested
  first-refused {refusal} e out rest =
      go (is_disc_length (length disc) && is_area_length (length area)) (good_disc disc) (good_area disc area) e
    where
      named : (r : Refusal) → ◌≡◌ {A = Result (Unit {0}) Refusal} (Err refusal) (Err r)
          → answered (Err refusal) disc area out ≡ answered (Err r) disc area out
      named r h = let q : refusal ≡ r = cc in ap (λ (x : Refusal). answered (Err x) disc area out) q

      go : (a b c : Bool) → ◌≡◌ {A = Result (Unit {0}) Refusal} (Err refusal)
          (unless a (Err WrongLength) (unless b (Err BadDisc) (unless c (Err BadArea) (Ok tt))))
          → answered (Err refusal) disc area out
          ≡ unless a (refused 1 (lent disc area out))
          (unless b (refused 2 (lent disc area out)) (unless c (refused 3 (lent disc area out)) rest))
      go false b c h = named WrongLength h
      go true false c h = named BadDisc h
      go true true false h = named BadArea h
      go true true true h = absurd (let z : ◌≡◌ {A = ℕ} 0 1 = cc in omega arith)

  pub first-passed : {u : Unit {0}} → Ok u ≡ tested disc area → Passes disc area
  unfolding tested
  first-passed {u} e =
      go (is_disc_length (length disc) && is_area_length (length area)) refl (good_disc disc) refl (good_area disc area) refl e
    where
      go : (a : Bool) → is_disc_length (length disc) && is_area_length (length area) ≡ a → (b : Bool) → good_disc disc ≡ b
          → (c : Bool) → good_area disc area ≡ c
          → ◌≡◌ {A = Result (Unit {0}) Refusal} (Ok u) (unless a (Err WrongLength) (unless b (Err BadDisc) (unless c (Err BadArea) (Ok
          tt))))
          → Passes disc area
      go false p b q c r h = absurd (let z : ◌≡◌ {A = ℕ} 0 1 = cc in omega arith)
      go true p false q c r h = absurd (let z : ◌≡◌ {A = ℕ} 0 1 = cc in omega arith)
      go true p true q false r h = absurd (let z : ◌≡◌ {A = ℕ} 0 1 = cc in omega arith)
      go true p true q true r h = record { sizes = p; disc-good = q; area-good = r }

  -- passed, so that the rest is the answer
  pub first_done : {u : Unit {0}} → Ok u ≡ tested disc area → (out : List ℕ) {given rest : Expected} → given ≡ rest
      → given ≡ on_good (lent disc area out) rest
  first_done e out h = h ∙ sym (on-good _ _ (first-passed e))

  -- then the room of the output
  module _ {u : Unit {0}} (e : Ok u ≡ tested disc area) (out : List ℕ) (n : ℕ) (rest : Expected) where
    pub first_short : length out < n
        → answered (Err ShortOutput) disc area out ≡ on_good (lent disc area out) (with_room n (lent disc area out) rest)
    first_short h = first_done e out (rw (lt-leb n (length out) h))

    pub first-roomy : n ≤ length out → {given : Expected} → given ≡ rest
        → given ≡ on_good (lent disc area out) (with_room n (lent disc area out) rest)
    first-roomy h g = first_done e out (rw (le-leb n (length out) h) g)

-- the slot of an ID is one of the ten
pub slot-low : (area : List ℕ) (id : ℕ) {slot : ℕ} → length area ≡ area_length → slot_of (kernel_of area) id ≡ Some slot → slot < slot_count
slot-low area id {slot} h e = omega (arith, (slot_at (kernel_of area) id slot e).0, (decoded-sized area h).processes)
