-- A start as facts: the lowest ended slot, the file of that name, and an ID that is left to give.
use Rattle.std.specs.Prelude.{None, Option, Some}
use Prim.Native.Nat.{ℕ, ◌<◌}
use mathlib.Core.Path.{◌≡◌, refl, sym, ap, ◌∙◌, subst}
use mathlib.Core.Bool.{Bool, true, false, not}
use mathlib.Core.List.{List}
use mathlib.Core.Logic.{◌⊎◌, inl, inr}
use native.Mathlib.Omega.{arith}
use lib.Dec.{eqb}
use lib.ListN.{length}
use lib.Seq.{get_or-set_other, get_or-set_same}
use borrow.Author.Tests.{eqb-false, eqb-true, not-true}
use Rattle.buffer.proofs.Bools.{true-not-false}
use Rattle.buffer.proofs.Tables.{index_at}
use Rattle.disc.specs.Directory.{entry_at, lookup}
use Rattle.disc.specs.declared.Entry.{Entry}
use Rattle.machine.specs.Limits.{id_limit}
use Rattle.machine.specs.Start.{started, started_process, starting, start_in, starts}
use Rattle.machine.specs.State.{ended_slot, is_live, no_process, process_at}
use Rattle.machine.specs.declared.Kernel.{Kernel}

-- Document 01, Run: "12 no ended slot, 10, 13 next ID is 32768. Takes the lowest ended slot"
pub record Begins (name : List ℕ) (k : Kernel) (disc : List ℕ) (slot : ℕ) (e : Entry) : Type 0 where
  pub lowest : ended_slot k ≡ Some slot
  pub inside : slot < length k.processes
  pub free : is_live (process_at k slot) ≡ false
  pub file : ℕ
  pub found : lookup disc name ≡ Some file
  pub entry : e ≡ entry_at disc file
  pub unspent : k.next ≡ id_limit → ⊥

pub starting-begins : (name : List ℕ) (k : Kernel) (disc : List ℕ) (slot : ℕ) (e : Entry) → starting k disc name ≡ starts slot e
    → Begins name k disc slot e
unfolding starting ended_slot
starting-begins name k disc slot e = go (ended_slot k) refl (lookup disc name) refl (eqb k.next id_limit) refl
  where
    go : (f : Option ℕ) → ended_slot k ≡ f → (h : Option ℕ) → lookup disc name ≡ h → (b : Bool) → eqb k.next id_limit ≡ b
        → start_in f h b disc ≡ starts slot e → Begins name k disc slot e
    go None p h q b r t = absurd (let z : ◌≡◌ {A = ℕ} 0 1 = cc in omega arith)
    go (Some s) p None q b r t = absurd (let z : ◌≡◌ {A = ℕ} 0 1 = cc in omega arith)
    go (Some s) p (Some i) q true r t = absurd (let z : ◌≡◌ {A = ℕ} 0 1 = cc in omega arith)
    go (Some s) p (Some i) q false r t =
        let same : s ≡ slot = cc in
        let that : e ≡ entry_at disc i = cc in
        let here : ended_slot k ≡ Some slot = p ∙ ap (λ (n : ℕ). Some n) same in
        let f = index_at (λ x. not (is_live x)) no_process k.processes slot here in
        record {
          lowest = here;
          inside = f.inside;
          free = not-true _ f.holds;
          file = i;
          found = q;
          entry = that;
          unspent = eqb-false k.next id_limit r;
        }

-- ---- the records after a start
module _ {name : List ℕ} {k : Kernel} {disc : List ℕ} {slot : ℕ} {e : Entry} (b : Begins name k disc slot e) where
  pub started-new : process_at (started k slot e) slot ≡ started_process e k.next
  started-new = get_or-set_same k.processes slot (started_process e k.next) no_process b.inside

  pub started-other : (s : ℕ) → (s ≡ slot → ⊥) → process_at (started k slot e) s ≡ process_at k s
  started-other s n = get_or-set_other k.processes slot s (started_process e k.next) no_process n

  -- a live process is in another slot
  pub started-spares : (s : ℕ) → is_live (process_at k s) ≡ true → process_at (started k slot e) s ≡ process_at k s
  started-spares s h = started-other s (λ w. true-not-false h (subst (λ (x : ℕ). is_live (process_at k x) ≡ false) (sym w) b.free))

  -- each record is the new one or what it was
  pub started-cases : (s : ℕ) → ((s ≡ slot) × (process_at (started k slot e) s ≡ started_process e k.next))
      ⊎ (process_at (started k slot e) s ≡ process_at k s)
  started-cases s = go (eqb s slot) refl
    where
      go : (t : Bool) → eqb s slot ≡ t → ((s ≡ slot) × (process_at (started k slot e) s ≡ started_process e k.next))
          ⊎ (process_at (started k slot e) s ≡ process_at k s)
      go true q = let w : s ≡ slot = eqb-true s slot q in inl (w, ap (process_at (started k slot e)) w ∙ started-new)
      go false q = inr (started-other s (eqb-false s slot q))
