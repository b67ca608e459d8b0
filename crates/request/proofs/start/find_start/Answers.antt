-- No ended slot, no file, no ID left, or slot and file.
use Rattle.std.specs.Prelude.{None, Option, Some, Err}
use Rattle.std.specs.Option.{ok_or}
use Rattle.std.proofs.lemmas.Result.{err_from_is_err_and}
use Prim.Native.Nat.{ℕ}
use mathlib.Core.Path.{◌≡◌, refl, sym, ap, ◌∙◌}
use mathlib.Core.List.{List}
use native.Mathlib.Omega.{arith}
use borrow.Author.Tests.{eq-eqb, ne_eqb}
use Rattle.store.specs.Answer.{refusal_number}
use Rattle.store.specs.declared.Refusal.{Refusal}
use Rattle.store.specs.declared.Refusal.TheVariants.{NoSlot, NoSuchFile}
use Rattle.machine.specs.Area.{kernel_of}
use Rattle.machine.specs.Limits.{id_limit}
use Rattle.machine.specs.Start.{refuses, starting}
use Rattle.machine.specs.State.{ended_slot}
use Rattle.disc.specs.Directory.{lookup}
use Rattle.disc.proofs.Lookups.{lookup-at}
use Rattle.request.proofs.Slots.{ended-slot-is, starting-by}
use Rattle.request.proofs.start.find_start.Goals as goal

module _ (area disc name : List ℕ) where
  no-slot : (f : Option ℕ) (r : Refusal) → f ≡ ended_slot (kernel_of area) → Err r ≡ ok_or f NoSlot
      → refuses (refusal_number r) ≡ starting (kernel_of area) disc name
  no-slot None r e h =
      let same : r ≡ NoSlot = cc in
      ap (λ (x : Refusal). refuses (refusal_number x)) same ∙ sym (starting-by area disc name (sym e) refl refl)
  no-slot (Some i) r e h = absurd (let z : ◌≡◌ {A = ℕ} 0 1 = cc in omega arith)

  no-file : (slot : ℕ) (f : Option ℕ) (r : Refusal) → Some slot ≡ ended_slot (kernel_of area) → f ≡ lookup disc name
      → Err r ≡ ok_or f NoSuchFile → refuses (refusal_number r) ≡ starting (kernel_of area) disc name
  no-file slot None r s e h =
      let same : r ≡ NoSuchFile = cc in
      ap (λ (x : Refusal). refuses (refusal_number x)) same ∙ sym (starting-by area disc name (sym s) (sym e) refl)
  no-file slot (Some i) r s e h = absurd (let z : ◌≡◌ {A = ℕ} 0 1 = cc in omega arith)

pub returns-in_err-slot : goal.returns-in_err-slot
returns-in_err-slot c =
    let a = c.args in
    let p = err_from_is_err_and c.from_residual.result c.from_residual.ensures.1 in
    let h = rw c.in_err-slot.was at c.ok_or.ensures.value in
    rw (p.1, p.2) (no-slot a.area.now a.disc.now a.name.now _ _ c.ended_slot.ensures h, tt)

pub returns-in_err-place : goal.returns-in_err-place
returns-in_err-place c =
    let a = c.args in
    let p = err_from_is_err_and c.from_residual-in_err-place.result c.from_residual-in_err-place.ensures.1 in
    let slot = rw c.in_ok-slot.was at c.ok_or.ensures.ok_part in
    let h = rw c.in_err-place.was at c.ok_or-2.ensures.value in
    rw (p.1, p.2) (no-file a.area.now a.disc.now a.name.now _ _ _ (sym slot ∙ c.ended_slot.ensures) c.find.ensures h, tt)

pub returns-then-next_id-eq-ID_LIMIT : goal.returns-then-next_id-eq-ID_LIMIT
returns-then-next_id-eq-ID_LIMIT c =
    let a = c.args in
    let slot = rw c.in_ok-slot.was at c.ok_or.ensures.ok_part in
    let place = rw c.in_ok-place.was at c.ok_or-2.ensures.ok_part in
    let spent = eq-eqb _ id_limit (sym c.next_id.ensures ∙ c.if-next_id-eq-ID_LIMIT.true) in
    (sym (starting-by a.area.now a.disc.now a.name.now (sym c.ended_slot.ensures ∙ slot) (sym c.find.ensures ∙ place) spent), tt)

pub returns : goal.returns
returns c =
    let a = c.args in
    let slot = rw c.in_ok-slot.was at c.ok_or.ensures.ok_part in
    let place = rw c.in_ok-place.was at c.ok_or-2.ensures.ok_part in
    let found = sym c.find.ensures ∙ place in
    let left : (kernel_of a.area.now).next ≡ id_limit → ⊥ = λ h. c.if-next_id-eq-ID_LIMIT.false (c.next_id.ensures ∙ h) in
    let ended = ended-slot-is a.area.now (sym c.ended_slot.ensures ∙ slot) in (
      sym (starting-by a.area.now a.disc.now a.name.now (sym c.ended_slot.ensures ∙ slot) found (ne_eqb _ id_limit left)),
      record {
        slot-low = ended.0;
        ended = ended.1;
        file-low = (lookup-at a.disc.now a.name.now c.in_ok-place.place found).inside;
        left = left;
      },
    )
