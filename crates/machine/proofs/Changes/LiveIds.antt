-- The live IDs, and what they say of the variables: an owner is live, so an ID of no live process has none.
use Rattle.std.specs.Prelude.{None}
use Prim.Native.Nat.{ℕ}
use mathlib.Core.Path.{◌≡◌, refl, sym, ap, ◌∙◌}
use mathlib.Core.Bool.{Bool, true, false, ◌&&◌, ◌||◌, not}
use mathlib.Core.List.{List, [], ◌∷◌, map}
use lib.Dec.{eqb}
use borrow.Author.Tests.{eq-eqb, eqb-true}
use Rattle.buffer.specs.Lists.{all, any, cons_if, keep}
use Rattle.buffer.proofs.Bools.{and_both, and_left, and_right, not-is-true, not-true-is-false}
use Rattle.buffer.proofs.Kept.{keep-none}
use Rattle.buffer.proofs.Lists.{all_weaker}
use Rattle.disc.specs.Directory.{files}
use Rattle.variable.specs.Good.{good_variable, good_variables}
use Rattle.variable.specs.Table.{cell_of, counted, owned, owned_by}
use Rattle.variable.specs.declared.Variable.{Variable}
use Rattle.variable.specs.declared.Variables.{Variables}
use Rattle.variable.proofs.Goodness.{good-variable-is, good-variables-is, is-good-variable, is-good-variables}
use Rattle.machine.specs.State.{is_live, live_ids, no_process, process_at, slot_of}
use Rattle.machine.specs.declared.Kernel.{Kernel}
use Rattle.machine.specs.declared.Process.{Process}
use Rattle.machine.proofs.Changes.Change.{GoodState}
use Rattle.buffer.proofs.Disjunctions.{any-is}
use Rattle.buffer.proofs.Kept.{any_at}
use Rattle.machine.proofs.Goodness.GoodLaws.{good-kernel-is}
use Rattle.machine.proofs.Changes.Slots.{live_inside, slot-none}

any-kept : {A B : Type 0} (p : B → Bool) (f : A → B) (q : A → Bool) (l : List A) → any p (map f (keep q l)) ≡ any (λ x. q x && p (f x)) l
unfolding any keep
any-kept p f q [] = refl
any-kept p f q (x ∷ l) = go (q x) (any-kept p f q l)
  where
    go : (b : Bool) → any p (map f (keep q l)) ≡ any (λ y. q y && p (f y)) l → any p (map f (cons_if b x (keep q l))) ≡ (b && p (f x))
        || any (λ y. q y && p (f y)) l
    go true e = rw e
    go false e = e

-- ---- an ID is among the live ones where a live process has it
module _ (k : Kernel) (i : ℕ) where
  abbrev lives : Process → Bool
  lives p = is_live p && eqb i p.id

  pub is-live-id : (s : ℕ) → is_live (process_at k s) ≡ true → (process_at k s).id ≡ i → any (eqb i) (live_ids k) ≡ true
  is-live-id s h e =
      any-kept (eqb i) (λ p. p.id) is_live k.processes
      ∙ any_at lives k.processes s no_process (live_inside k s h) (and_both h (eq-eqb i (process_at k s).id (sym e)))

  pub live-id-is : any (eqb i) (live_ids k) ≡ true → (s : ℕ) × (is_live (process_at k s) ≡ true) × ((process_at k s).id ≡ i)
  live-id-is t =
      let f = any-is lives no_process k.processes (sym (any-kept (eqb i) (λ p. p.id) is_live k.processes) ∙ t) in (
        f.place,
        and_left (is_live (process_at k f.place)) _ f.holds,
        sym (eqb-true i _ (and_right (is_live (process_at k f.place)) _ f.holds)),
      )

-- ---- variables
-- good variables stay good where every live ID stays live
pub still-owned : (live next : List ℕ) (v : Variables) → ((i : ℕ) → any (eqb i) live ≡ true → any (eqb i) next ≡ true)
    → good_variables live v ≡ true → good_variables next v ≡ true
still-owned live next v more t =
    let g = good-variables-is live v t in
    is-good-variables next v
    (record {
      few = g.few;
      each = all_weaker (good_variable live) (good_variable next) (counted v) still g.each;
      pairwise = g.pairwise;
    })
  where
    still : (e : Variable) → good_variable live e ≡ true → good_variable next e ≡ true
    still e b = let d = good-variable-is live e b in
        is-good-variable next e (record { size = d.size; inside = d.inside; owner = more e.owner d.owner })

-- no variable is of an ID that is not live
pub none_owned : {k : Kernel} {disc : List ℕ} → GoodState k disc → (i : ℕ) → slot_of k i ≡ None → owned k.variables i ≡ []
unfolding owned
none_owned {k} {disc} g i none =
    ap (map (cell_of k.variables.memory))
    (keep-none (owned_by i) (counted k.variables)
    (all_weaker (good_variable (live_ids k)) (λ e. not (owned_by i e)) (counted k.variables) other each))
  where
    each : all (good_variable (live_ids k)) (counted k.variables) ≡ true
    each = (good-variables-is (live_ids k) k.variables (good-kernel-is (files disc) k g.area).variables).each

    other : (e : Variable) → good_variable (live_ids k) e ≡ true → not (owned_by i e) ≡ true
    other e b =
        not-is-true (not-true-is-false (owned_by i e)
        (λ t.
        let f = live-id-is k e.owner (good-variable-is (live_ids k) e b).owner in
        slot-none k i none f.0 f.1 (f.2 ∙ eqb-true e.owner i t)))
