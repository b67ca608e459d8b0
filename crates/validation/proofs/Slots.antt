-- IDs by slot: 0 where nothing lives.
use Rattle.std.specs.List.{list_all, range_with_len}
use Prim.Native.Nat.{ℕ, zero, suc, ◌+◌, ◌≤◌, ◌<◌}
use mathlib.Core.Path.{◌≡◌, refl, sym, ap, ◌∙◌}
use mathlib.Core.Bool.{Bool, true, false, cond, ◌&&◌, ◌||◌, not, and-false}
use mathlib.Core.List.{List, [], ◌∷◌, map}
use native.Mathlib.Numerals.{add-one}
use native.Mathlib.Omega.{arith}
use lib.Dec.{eqb}
use lib.ListN.{get_or, length, take}
use lib.Seq.{get_or-take, length-take-le, take-suc, take_all}
use borrow.Author.Tests.{eq-eqb, eqb-false, eqb-true, ne_eqb}
use Rattle.buffer.specs.Lists.{all, any, cons_if, keep, pairs, tab}
use Rattle.buffer.proofs.Bools.{and_both, and_left, and_right, not-true-is-false, true-not-false}
use Rattle.buffer.proofs.Equivalence.{all-tab-more}
use Rattle.buffer.proofs.Tables.{tab-range}
use Rattle.buffer.proofs.Lists.{all-each, pairs-at, pairs-snoc}
use Rattle.machine.specs.GoodArea.{other_id}
use Rattle.machine.specs.State.{is_live}
use Rattle.machine.specs.declared.Process.{Process}
use Rattle.validation.specs.Columns.{differs, is_id, slot_id}

-- ---- a slot beside others
abbrev pub other : ℕ → ℕ → Bool
other id d = not (eqb d id)

-- one without an ID passes whatever stands there, one with an ID where no other has it
pub none-differs : (id : ℕ) (l : List ℕ) → id ≡ 0 → true ≡ all (λ d. differs d id) l
none-differs id l z = sym (all-each (λ d. differs d id) l 0 (λ i h. rw (eq-eqb id 0 z)))

pub some-differs : (id : ℕ) (l : List ℕ) → (id ≡ 0 → ⊥) → all (other id) l ≡ all (λ d. differs d id) l
some-differs id l n = rw (ne_eqb id 0 n)

-- ---- owners
-- 0 is among the slots, and no owner
pub owner-kept : (id : ℕ) (l : List ℕ) → not (eqb id 0) && any (eqb id) l ≡ any (eqb id) (keep is_id l)
unfolding any keep
owner-kept id [] = and-false (not (eqb id 0))
owner-kept id (x ∷ l) = go (eqb id 0) refl (eqb x 0) refl (owner-kept id l)
  where
    go : (b : Bool) → eqb id 0 ≡ b → (c : Bool) → eqb x 0 ≡ c → not b && any (eqb id) l ≡ any (eqb id) (keep is_id l)
        → not b && (eqb id x || any (eqb id) l) ≡ any (eqb id) (cons_if (not c) x (keep is_id l))
    go true p true q e = e
    go true p false q e =
        let z : id ≡ 0 = eqb-true id 0 p in
        rw (ne_eqb id x (λ s. eqb-false x 0 q (sym s ∙ z))) e
    go false p true q e =
        let z : x ≡ 0 = eqb-true x 0 q in
        rw (ne_eqb id x (λ s. eqb-false id 0 p (s ∙ z))) e
    go false p false q e = rw e

-- ---- turns of a loop over every two of a list: one more holds, or one fails
module _ {A : Type 0} (r : A → A → Bool) (l : List A) (i : ℕ) (d : A) (h : i < length l) where
  more : pairs r (take (i + 1) l) ≡ pairs r (take i l) && all (λ x. r x (get_or l i d)) (take i l)
  more = rw (add-one, take-suc l i d) (pairs-snoc r (take i l) (get_or l i d))

  pub pairs-take-next : pairs r (take i l) ≡ true → all (λ x. r x (get_or l i d)) (take i l) ≡ true → pairs r (take (i + 1) l) ≡ true
  pairs-take-next p q = more ∙ and_both p q

  pub pairs-take-stop : all (λ x. r x (get_or l i d)) (take i l) ≡ false → pairs r l ≡ false
  pairs-take-stop e =
      not-true-is-false (pairs r l)
      (λ t. true-not-false
      (all-each (λ x. r x (get_or l i d)) (take i l) d
      (λ j k.
      let m : j < i = omega (arith, length-take-le i l (omega arith)) in
      rw (get_or-take i l j d m) (pairs-at r l j i d m h t)))
      e)

-- ---- tests of the slots by number, as `all` over a range answers them
all-listed : {A : Type 0} (p : A → Bool) (f : ℕ → A) (l : List ℕ) → list_all (λ k. p (f k)) l ≡ all p (map f l)
unfolding all
all-listed p f [] = refl
all-listed p f (x ∷ l) = ap (λ b. p (f x) && b) (all-listed p f l)

pub all-range : {A : Type 0} (p : A → Bool) (f : ℕ → A) (n : ℕ) → list_all (λ k. p (f k)) (range_with_len 0 n) ≡ all p (tab f n)
all-range p f n = all-listed p f (range_with_len 0 n) ∙ ap (all p) (tab-range f n)

-- every two of a list, by the later of the two
module _ {A : Type 0} (r : A → A → Bool) (l : List A) (d : A) where
  abbrev later : ℕ → Bool
  later i = all (λ x. r x (get_or l i d)) (take i l)

  pairs-tab : (n : ℕ) → n ≤ length l → all later (tab (λ i. i) n) ≡ pairs r (take n l)
  unfolding all tab pairs
  pairs-tab zero h = refl
  pairs-tab (suc n) h =
      let step = ap (λ (b : Bool). b && later n) (pairs-tab n (omega arith)) in
      let told : all later (tab (λ i. i) (n + 1)) ≡ pairs r (take (n + 1) l) =
      all-tab-more later (λ i. i) n ∙ step ∙ sym (more r l n d (omega arith)) in
      rw add-one at told

  pub pairs-range : (n : ℕ) → n ≡ length l → list_all later (range_with_len 0 n) ≡ pairs r l
  pairs-range n h =
      all-range later (λ i. i) n ∙ pairs-tab n (omega arith) ∙ ap (pairs r) (take_all n l (omega arith))

-- ---- the IDs of good records
abbrev live_id : Process → ℕ
live_id p = p.id

-- where every live process has an ID that is not 0, those by slot say the same as those of the live processes
module _ (good : Process → Bool) (named : (p : Process) → good p ≡ true → is_live p ≡ true → p.id ≡ 0 → ⊥) where
  pub ids-kept : (l : List Process) → all good l ≡ true → keep is_id (map slot_id l) ≡ map live_id (keep is_live l)
  unfolding all keep slot_id
  ids-kept [] g = refl
  ids-kept (p ∷ l) g = go (is_live p) refl (ids-kept l (and_right (good p) (all good l) g))
    where
      go : (b : Bool) → is_live p ≡ b → keep is_id (map slot_id l) ≡ map live_id (keep is_live l)
          → cons_if (is_id (cond b p.id 0)) (cond b p.id 0) (keep is_id (map slot_id l)) ≡ map live_id (cons_if b p (keep is_live l))
      go true t e = rw (ne_eqb p.id 0 (named p (and_left (good p) (all good l) g) t), e)
      go false t e = e

  differ_same : (p q : Process) → good q ≡ true → differs (slot_id p) (slot_id q) ≡ other_id p q
  unfolding slot_id other_id
  differ_same p q g = go (is_live p) (is_live q) refl
    where
      go : (a b : Bool) → is_live q ≡ b → differs (cond a p.id 0) (cond b q.id 0) ≡ not (a && (b && eqb p.id q.id))
      go true true t = rw (ne_eqb q.id 0 (named q g t))
      go true false t = refl
      go false true t = rw (ne_eqb q.id 0 (named q g t), ne_eqb 0 q.id (λ e. named q g t (sym e)))
      go false false t = refl

  differ-all : (p : Process) (l : List Process) → all good l ≡ true → all (differs (slot_id p)) (map slot_id l) ≡ all (other_id p) l
  unfolding all
  differ-all p [] g = refl
  differ-all p (q ∷ l) g =
      rw (differ_same p q (and_left (good q) (all good l) g), differ-all p l (and_right (good q) (all good l) g))

  pub ids-distinct : (l : List Process) → all good l ≡ true → pairs differs (map slot_id l) ≡ pairs other_id l
  unfolding pairs all
  ids-distinct [] g = refl
  ids-distinct (p ∷ l) g =
      let r = and_right (good p) (all good l) g in
      rw (differ-all p l r, ids-distinct l r)
