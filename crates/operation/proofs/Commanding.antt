-- The operations on a process by its ID: refused by the tests or for want of the process, or its slot is known. Suspend and resume
-- turn a process to the state paused or running.
use Rattle.std.specs.Prelude.{None, Option, Some, Ok, Err, Result}
use Prim.Native.Nat.{ℕ, ◌<◌}
use mathlib.Core.Path.{◌≡◌, refl, sym, ap, ◌∙◌}
use mathlib.Core.List.{List}
use native.Mathlib.Omega.{arith}
use Rattle.store.specs.declared.Refusal.{Refusal}
use Rattle.store.specs.declared.Refusal.TheVariants.{NoProcess}
use Rattle.validation.specs.Tests.{tested}
use Rattle.machine.specs.Answer.{command_answer, on_good}
use Rattle.machine.specs.Answer.{Answer as Expected}
use Rattle.machine.specs.Area.{kernel_of}
use Rattle.machine.specs.Limits.{slot_count}
use Rattle.machine.specs.Operations.{Command, Commanded, suspend, resume, command_at}
use Rattle.machine.specs.Operations.{refused as declined}
use Rattle.machine.specs.Refusals.{Passes}
use Rattle.machine.specs.State.{paused, running, slot_of}
use Rattle.machine.specs.declared.Kernel.{Kernel}
use Rattle.machine.proofs.Demands.GoodCalls.{on-good}
use Rattle.turn.proofs.Passing.{area-size}
use Rattle.operation.specs.Answers.{answered, lent}
use Rattle.operation.specs.Commands.{live_slot, slot_if, turned_at}
use Rattle.operation.proofs.FirstTests.{first_done, first-passed, first-refused, slot-low}

-- the state that a command turns every process to
abbrev pub Turns : ℕ → Command → Type 0
Turns state c = (f : Option ℕ) (k : Kernel) → turned_at f state k ≡ command_at f c k

pub pauses : Turns paused suspend
pauses None k = refl
pauses (Some slot) k = refl

pub resumes : Turns running resume
resumes None k = refl
resumes (Some slot) k = refl

-- the process of an ID was found
pub record Found (disc area : List ℕ) (id slot : ℕ) : Type 0 where
  pub passes : Passes disc area
  pub at : slot_of (kernel_of area) id ≡ Some slot
  pub low : slot < slot_count

module _ (disc area : List ℕ) (id : ℕ) where
  pub found : {slot : ℕ} → Ok slot ≡ live_slot disc area id → Found disc area id slot
  found {slot} e = go (tested disc area) refl (slot_of (kernel_of area) id) refl e
    where
      go : (t : Result (Unit {0}) Refusal) → t ≡ tested disc area → (f : Option ℕ) → slot_of (kernel_of area) id ≡ f → Ok slot ≡ slot_if t f
          → Found disc area id slot
      go (Err r) p f q h = absurd (let z : ◌≡◌ {A = ℕ} 0 1 = cc in omega arith)
      go (Ok u) p None q h = absurd (let z : ◌≡◌ {A = ℕ} 0 1 = cc in omega arith)
      go (Ok u) p (Some s) q h =
          let passes = first-passed disc area p in
          let at : slot_of (kernel_of area) id ≡ Some slot = let same : slot ≡ s = cc in q ∙ ap Some (sym same) in
          record { passes = passes; at = at; low = slot-low area id (area-size passes) at }

  module _ (out : List ℕ) (on : Option ℕ → Commanded) where
    abbrev Wanted : Expected
    Wanted = on_good (lent disc area out) (command_answer (on (slot_of (kernel_of area) id)) (lent disc area out))

    -- whatever the operation does with a process that is there
    pub not-found : on None ≡ declined 14 → {refusal : Refusal} → Err refusal ≡ live_slot disc area id
        → answered (Err refusal) disc area out ≡ Wanted
    not-found n {refusal} e = go (tested disc area) refl (slot_of (kernel_of area) id) refl e
      where
        go : (t : Result (Unit {0}) Refusal) → t ≡ tested disc area → (f : Option ℕ) → slot_of (kernel_of area) id ≡ f
            → Err refusal ≡ slot_if t f → answered (Err refusal) disc area out ≡ Wanted
        go (Err r) p f q h = let same : refusal ≡ r = cc in first-refused disc area (ap Err same ∙ p) out _
        go (Ok u) p None q h =
            let same : refusal ≡ NoProcess = cc in
            first_done disc area p out
            (rw (same, q) (ap (λ (x : Commanded). command_answer x (lent disc area out)) (sym n)))
        go (Ok u) p (Some s) q h = absurd (let z : ◌≡◌ {A = ℕ} 0 1 = cc in omega arith)

    -- what it does with one
    pub behind : {slot : ℕ} → Found disc area id slot → {given : Expected}
        → given ≡ command_answer (on (Some slot)) (lent disc area out) → given ≡ Wanted
    behind f h =
        h ∙ ap (λ (x : Option ℕ). command_answer (on x) (lent disc area out)) (sym f.at) ∙ sym (on-good _ _ f.passes)
