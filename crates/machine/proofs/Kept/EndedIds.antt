-- What happens outside a process ends none and revives none: an ended ID stays ended, and an ID that comes to life is a start, fresh from
-- its file.
use Rattle.std.specs.Prelude.{None}
use Prim.Native.Nat.{ℕ}
use mathlib.Core.Path.{◌≡◌, refl, sym, ap, ◌∙◌, subst⁻¹}
use mathlib.Core.Bool.{Bool, true, false}
use mathlib.Core.List.{List}
use mathlib.Core.Logic.{◌⊎◌, inl, inr, ⊎_elim}
use native.Mathlib.Omega.{arith}
use lib.Dec.{eqb}
use borrow.Author.Tests.{eqb-false, eqb-true}
use Rattle.disc.specs.declared.Entry.{Entry}
use Rattle.machine.specs.Start.{started, started_process}
use Rattle.machine.specs.State.{is_live, process_at, slot_of}
use Rattle.machine.specs.declared.Kernel.{Kernel}
use Rattle.machine.specs.declared.Process.{Process}
use Rattle.machine.proofs.Kept.Begins.{Begins, started-cases, started-new, starting-begins}
use Rattle.machine.proofs.Kept.Begun.{Begun}
use Rattle.machine.proofs.Changes.Change.{GoodState, Outside, nothing, stores, erases, begins}
use Rattle.machine.proofs.Kept.Gone.{Gone}
use Rattle.machine.proofs.Changes.LiveIds.{none_owned}
use Rattle.machine.proofs.Changes.Slots.{slot-none, slot-nowhere}

module _ {name : List ℕ} {k : Kernel} {disc : List ℕ} {slot : ℕ} {e : Entry} (b : Begins name k disc slot e) (i : ℕ)
    (none : slot_of k i ≡ None) where
  -- only the next ID comes to life
  started-missing : (k.next ≡ i → ⊥) → slot_of (started k slot e) i ≡ None
  started-missing other = slot-nowhere (started k slot e) i absent
    where
      absent : (s : ℕ) → is_live (process_at (started k slot e) s) ≡ true → (process_at (started k slot e) s).id ≡ i → ⊥
      absent s h q =
          ⊎_elim (λ new. other (sym (ap (λ (p : Process). p.id) new.1) ∙ q))
          (λ (old : process_at (started k slot e) s ≡ process_at k s).
          slot-none k i none s (ap is_live (sym old) ∙ h) (ap (λ (p : Process). p.id) (sym old) ∙ q))
          (started-cases b s)

  started-fresh : GoodState k disc → k.next ≡ i → Begun name i disc (started k slot e) disc
  started-fresh g next =
      record {
        same-disc = refl;
        slot = slot;
        file = b.file;
        found = b.found;
        process = started-new b ∙ ap (λ (n : ℕ). started_process e n) next ∙ ap (λ (x : Entry). started_process x i) b.entry;
        inside = omega (arith, b.inside, g.sized.processes);
        variables = none_owned g i none;
      }

module _ {name : List ℕ} {k : Kernel} {disc : List ℕ} {j : Kernel} {after : List ℕ} (i : ℕ) (g : GoodState k disc) where
  pub outside-gone : Gone i k → Outside name k disc j after → Gone i j
  outside-gone gone (nothing e f) = subst⁻¹ (λ (x : Kernel). Gone i x) e gone
  outside-gone gone (stores title bytes s a e f) = subst⁻¹ (λ (x : Kernel). Gone i x) e gone
  outside-gone gone (erases n h u e f) = subst⁻¹ (λ (x : Kernel). Gone i x) e gone
  outside-gone gone (begins slot d t e f) =
      subst⁻¹ (λ (x : Kernel). Gone i x) e
      (record {
        given = omega (arith, gone.given);
        none = started-missing (starting-begins name k disc slot d t) i gone.none (λ q. omega (arith, gone.given));
      })

  pub outside-begun : slot_of k i ≡ None → Outside name k disc j after → (slot_of j i ≡ None) ⊎ Begun name i disc j after
  outside-begun none (nothing e f) = inl (subst⁻¹ (λ (x : Kernel). slot_of x i ≡ None) e none)
  outside-begun none (stores title bytes s a e f) = inl (subst⁻¹ (λ (x : Kernel). slot_of x i ≡ None) e none)
  outside-begun none (erases n h u e f) = inl (subst⁻¹ (λ (x : Kernel). slot_of x i ≡ None) e none)
  outside-begun none (begins slot d t e f) =
      subst⁻¹ (λ (x : Kernel). (slot_of x i ≡ None) ⊎ Begun name i disc x after) e
      (subst⁻¹ (λ (d' : List ℕ). (slot_of (started k slot d) i ≡ None)
      ⊎ Begun name i disc (started k slot d) d') f (go (eqb k.next i) refl))
    where
      b : Begins name k disc slot d
      b = starting-begins name k disc slot d t

      go : (x : Bool) → eqb k.next i ≡ x → (slot_of (started k slot d) i ≡ None) ⊎ Begun name i disc (started k slot d) disc
      go true q = inr (started-fresh b i none g (eqb-true k.next i q))
      go false q = inl (started-missing b i none (eqb-false k.next i q))
