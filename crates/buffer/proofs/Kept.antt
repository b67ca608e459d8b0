-- Laws of `any` and `keep`: what holds of some element, and the elements that a test keeps.
use Prim.Native.Nat.{ℕ, zero, suc, ◌+◌, ◌≤◌, ◌<◌}
use mathlib.Core.Path.{◌≡◌, refl, sym}
use mathlib.Core.Bool.{Bool, true, false, ◌||◌, not, or-false, or-true, or_assoc}
use mathlib.Core.List.{List, [], ◌∷◌, ◌++◌, map}
use native.Mathlib.Nat.{not-suc-le-zero, le_of_suc-le-suc}
use native.Mathlib.Numerals.{add-one}
use native.Mathlib.Omega.{arith}
use lib.ListN.{length, get_or, take}
use lib.Seq.{take-suc}
use borrow.Author.Tests.{not-true}
use Rattle.buffer.specs.Lists.{all, any, cons_if, keep, pairs}
use Rattle.buffer.proofs.Bools.{and_left, and_right, and_both, true-not-false}

-- ---- any
module _ {A : Type 0} (p : A → Bool) where
  pub any_snoc : (l : List A) (x : A) → any p (l ++ (x ∷ [])) ≡ any p l || p x
  unfolding any
  any_snoc [] x = or-false (p x)
  any_snoc (y ∷ l) x = rw (any_snoc l x) (sym (or_assoc (p y) (any p l) (p x)))

  -- one element is enough
  pub any_at : (l : List A) (i : ℕ) (d : A) → i < length l → p (get_or l i d) ≡ true → any p l ≡ true
  unfolding any
  any_at [] i d h e = absurd (not-suc-le-zero h)
  any_at (x ∷ l) zero d h e = rw e
  any_at (x ∷ l) (suc i) d h e = rw (any_at l i d (le_of_suc-le-suc h) e) (or-true (p x))

-- ---- keep
module _ {A : Type 0} (p : A → Bool) where
  pub keep_append : (l m : List A) → keep p (l ++ m) ≡ keep p l ++ keep p m
  unfolding keep
  keep_append [] m = refl
  keep_append (x ∷ l) m = rw (keep_append l m) (go (p x))
    where
      go : (b : Bool) → cons_if b x (keep p l ++ keep p m) ≡ cons_if b x (keep p l) ++ keep p m
      go true = refl
      go false = refl

  pub keep-length : (l : List A) → length (keep p l) ≤ length l
  unfolding keep
  keep-length [] = omega arith
  keep-length (x ∷ l) = go (p x) (keep-length l)
    where
      go : (b : Bool) → length (keep p l) ≤ length l → length (cons_if b x (keep p l)) ≤ suc (length l)
      go true h = omega arith
      go false h = omega arith

  -- one more element, which stays or goes
  pub keep-take-next : (l : List A) (i : ℕ) (d : A) → i < length l → keep p (take (i + 1) l) ≡ keep p (take i l)
      ++ cons_if (p (get_or l i d)) (get_or l i d) []
  unfolding keep
  keep-take-next l i d h = rw (add-one, take-suc l i d, keep_append (take i l) (get_or l i d ∷ []))

  -- what the test and another one give together holds of all that are kept
  pub all-kept : (q r : A → Bool) (l : List A) → ((x : A) → p x ≡ true → q x ≡ true → r x ≡ true) → all q l ≡ true → all r (keep p l) ≡ true
  unfolding all keep
  all-kept q r [] h e = refl
  all-kept q r (x ∷ l) h e = go (p x) refl (all-kept q r l h (and_right (q x) (all q l) e))
    where
      go : (b : Bool) → p x ≡ b → all r (keep p l) ≡ true → all r (cons_if b x (keep p l)) ≡ true
      go true k f = and_both (h x k (and_left (q x) (all q l) e)) f
      go false k f = f

  pub all_keep : (q : A → Bool) (l : List A) → all q l ≡ true → all q (keep p l) ≡ true
  all_keep q l e = all-kept q q l (λ x k h. h) e

  pub keep_all : (l : List A) → all p (keep p l) ≡ true
  unfolding all
  keep_all l = all-kept (λ x. true) p l (λ x k h. k) (all_true l)
    where
      all_true : (m : List A) → all (λ x. true) m ≡ true
      all_true [] = refl
      all_true (x ∷ m) = all_true m

  pub pairs-keep : (r : A → A → Bool) (l : List A) → pairs r l ≡ true → pairs r (keep p l) ≡ true
  unfolding pairs keep
  pairs-keep r [] e = refl
  pairs-keep r (x ∷ l) e = go (p x) (pairs-keep r l (and_right (all (r x) l) (pairs r l) e))
    where
      go : (b : Bool) → pairs r (keep p l) ≡ true → pairs r (cons_if b x (keep p l)) ≡ true
      go true h = and_both (all_keep (r x) l (and_left (all (r x) l) (pairs r l) e)) h
      go false h = h

  -- of those kept by a weaker test the same are kept
  pub keep-keep : (q : A → Bool) (l : List A) → ((x : A) → p x ≡ true → q x ≡ true) → keep p (keep q l) ≡ keep p l
  unfolding keep
  keep-keep q [] h = refl
  keep-keep q (x ∷ l) h = go (q x) refl (p x) refl (keep-keep q l h)
    where
      go : (b : Bool) → q x ≡ b → (a : Bool) → p x ≡ a → keep p (keep q l) ≡ keep p l
          → keep p (cons_if b x (keep q l)) ≡ cons_if a x (keep p l)
      go true k true m e = rw (m, e)
      go true k false m e = rw (m, e)
      go false k true m e = absurd (true-not-false (h x m) k)
      go false k false m e = e

  -- none is kept where the test holds of none
  pub keep-none : (l : List A) → all (λ x. not (p x)) l ≡ true → keep p l ≡ []
  unfolding all keep
  keep-none [] e = refl
  keep-none (x ∷ l) e =
      rw (not-true (p x) (and_left (not (p x)) (all (λ y. not (p y)) l) e)) (keep-none l (and_right (not (p x)) (all (λ y. not (p y)) l) e))

-- two tests in either order, where the first decides between the others
pub keep-swap : {A : Type 0} (p q r : A → Bool) (l : List A) → ((x : A) → p x ≡ true → q x ≡ r x) → keep p (keep q l) ≡ keep r (keep p l)
unfolding keep
keep-swap p q r [] h = refl
keep-swap {A} p q r (x ∷ l) h = go (p x) refl (r x) refl (keep-swap p q r l h)
  where
    go : (a : Bool) → p x ≡ a → (b : Bool) → r x ≡ b → keep p (keep q l) ≡ keep r (keep p l)
        → keep p (cons_if (q x) x (keep q l)) ≡ keep r (cons_if a x (keep p l))
    go true k true m e = rw (h x k, m, k, e)
    go true k false m e = rw (h x k, m, e)
    go false k b m e = either (q x)
      where
        either : (c : Bool) → keep p (cons_if c x (keep q l)) ≡ keep r (keep p l)
        either true = rw (k, e)
        either false = e

pub keep-map : {A B : Type 0} (p : B → Bool) (f : A → B) (l : List A) → keep p (map f l) ≡ map f (keep (λ x. p (f x)) l)
unfolding keep
keep-map p f [] = refl
keep-map p f (x ∷ l) = go (p (f x)) (keep-map p f l)
  where
    go : (b : Bool) → keep p (map f l) ≡ map f (keep (λ y. p (f y)) l)
        → cons_if b (f x) (keep p (map f l)) ≡ map f (cons_if b x (keep (λ y. p (f y)) l))
    go true e = rw e
    go false e = e
