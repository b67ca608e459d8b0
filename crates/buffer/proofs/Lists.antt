-- Laws of the tests on lists, and of the lists made from others.
use Rattle.std.specs.Prelude.{None, Some}
use Prim.Native.Nat.{ℕ, zero, suc, ◌+◌, ◌-◌, ◌<◌, ◌≤◌}
use mathlib.Core.Path.{◌≡◌, refl, sym, ap, ◌∙◌, subst}
use mathlib.Core.Bool.{Bool, true, false, ◌&&◌, and-false, and_assoc, and-true}
use mathlib.Core.List.{List, [], ◌∷◌, ◌++◌, map, map-append, append_assoc, append-nil}
use mathlib.Core.Logic.{⊎_elim}
use native.Mathlib.Nat.{not-suc-le-zero, le_of_suc-le-suc, eq-or-lt_of_le}
use native.Mathlib.Numerals.{add-one}
use native.Mathlib.Omega.{arith}
use lib.Dec.{eqb}
use lib.ListN.{length, get_or, take, drop, set, replicate, length-append, get_or-append}
use lib.Seq.{take-suc, take-suc-set, get_or_at}
use borrow.Author.Tests.{eq-eqb, eqb-true}
use Rattle.buffer.specs.Lists.{all, pairs, same, index, later, tab, flat, without}
use Rattle.buffer.proofs.Bools.{and_left, and_right, and_both, true-not-false, not-true-is-false}

-- ---- all
module _ {A : Type 0} (p : A → Bool) where
  pub all_snoc : (l : List A) (x : A) → all p (l ++ (x ∷ [])) ≡ all p l && p x
  unfolding all
  all_snoc [] x = and-true (p x)
  all_snoc (y ∷ l) x = rw (all_snoc l x) (sym (and_assoc (p y) (all p l) (p x)))

  pub all-at : (l : List A) (i : ℕ) (d : A) → i < length l → all p l ≡ true → p (get_or l i d) ≡ true
  unfolding all
  all-at [] i d h e = absurd (not-suc-le-zero h)
  all-at (x ∷ l) zero d h e = and_left (p x) (all p l) e
  all-at (x ∷ l) (suc i) d h e = all-at l i d (le_of_suc-le-suc h) (and_right (p x) (all p l) e)

  -- one element that fails it is enough
  pub all-stop : (l : List A) (i : ℕ) (d : A) → i < length l → p (get_or l i d) ≡ false → all p l ≡ false
  all-stop l i d h e = not-true-is-false (all p l) (λ t. true-not-false (all-at l i d h t) e)

  pub all-each : (l : List A) (d : A) → ((i : ℕ) → i < length l → p (get_or l i d) ≡ true) → all p l ≡ true
  unfolding all
  all-each [] d h = refl
  all-each (x ∷ l) d h = and_both (h 0 (omega arith)) (all-each l d (λ i k. h (suc i) (omega arith)))

  pub all_without : (l : List A) (i : ℕ) → all p l ≡ true → all p (without i l) ≡ true
  unfolding all
  all_without [] zero e = refl
  all_without [] (suc i) e = refl
  all_without (x ∷ l) zero e = and_right (p x) (all p l) e
  all_without (x ∷ l) (suc i) e = and_both (and_left (p x) (all p l) e) (all_without l i (and_right (p x) (all p l) e))

-- one more turn of a loop that tests each element
pub all-take-next : {A : Type 0} (p : A → Bool) (l : List A) (i : ℕ) (d : A) → i < length l → all p (take i l) ≡ true
    → p (get_or l i d) ≡ true → all p (take (i + 1) l) ≡ true
all-take-next p l i d h e v = rw (add-one, take-suc l i d, all_snoc p (take i l) (get_or l i d), e, v)

-- what holds of each by one test holds by a weaker one
pub all_weaker : {A : Type 0} (p q : A → Bool) (l : List A) → ((x : A) → p x ≡ true → q x ≡ true) → all p l ≡ true → all q l ≡ true
unfolding all
all_weaker p q [] h e = refl
all_weaker p q (x ∷ l) h e = and_both (h x (and_left (p x) (all p l) e)) (all_weaker p q l h (and_right (p x) (all p l) e))

-- what two tests give together
pub all_both : {A : Type 0} (p q r : A → Bool) (l : List A) → ((x : A) → p x ≡ true → q x ≡ true → r x ≡ true) → all p l ≡ true
    → all q l ≡ true → all r l ≡ true
unfolding all
all_both p q r [] h a b = refl
all_both p q r (x ∷ l) h a b =
    and_both (h x (and_left (p x) (all p l) a) (and_left (q x) (all q l) b))
    (all_both p q r l h (and_right (p x) (all p l) a) (and_right (q x) (all q l) b))

-- ---- pairs
module _ {A : Type 0} (r : A → A → Bool) where
  pub pairs-snoc : (l : List A) (x : A) → pairs r (l ++ (x ∷ [])) ≡ pairs r l && all (λ y. r y x) l
  unfolding pairs all
  pairs-snoc [] x = refl
  pairs-snoc (y ∷ l) x = rw (all_snoc (r y) l x, pairs-snoc l x) (shuffle (all (r y) l) (r y x) (pairs r l) (all (λ z. r z x) l))
    where
      shuffle : (a b c d : Bool) → (a && b) && (c && d) ≡ (a && c) && (b && d)
      shuffle true true c d = refl
      shuffle true false c d = sym (and-false c)
      shuffle false b c d = refl

  pub pairs-at : (l : List A) (i j : ℕ) (d : A) → i < j → j < length l → pairs r l ≡ true → r (get_or l i d) (get_or l j d) ≡ true
  unfolding pairs
  pairs-at [] i j d h k e = absurd (not-suc-le-zero k)
  pairs-at (x ∷ l) i zero d h k e = absurd (not-suc-le-zero h)
  pairs-at (x ∷ l) zero (suc j) d h k e = all-at (r x) l j d (le_of_suc-le-suc k) (and_left (all (r x) l) (pairs r l) e)
  pairs-at (x ∷ l) (suc i) (suc j) d h k e =
      pairs-at l i j d (le_of_suc-le-suc h) (le_of_suc-le-suc k) (and_right (all (r x) l) (pairs r l) e)

  pub pairs-without : (l : List A) (i : ℕ) → pairs r l ≡ true → pairs r (without i l) ≡ true
  unfolding pairs
  pairs-without [] zero e = refl
  pairs-without [] (suc i) e = refl
  pairs-without (x ∷ l) zero e = and_right (all (r x) l) (pairs r l) e
  pairs-without (x ∷ l) (suc i) e =
      and_both (all_without (r x) l i (and_left (all (r x) l) (pairs r l) e)) (pairs-without l i (and_right (all (r x) l) (pairs r l) e))

-- ---- same
pub pairs-each : {A : Type 0} (r : A → A → Bool) (l : List A) (d : A)
    → ((i j : ℕ) → i < j → j < length l → r (get_or l i d) (get_or l j d) ≡ true) → pairs r l ≡ true
unfolding pairs
pairs-each r [] d h = refl
pairs-each r (x ∷ l) d h =
    and_both (all-each (r x) l d (λ j m. h 0 (suc j) (omega arith) (omega arith)))
    (pairs-each r l d (λ i j n m. h (suc i) (suc j) (omega arith) (omega arith)))

pub same_refl : (l : List ℕ) → same l l ≡ true
unfolding same
same_refl [] = refl
same_refl (x ∷ l) = and_both (eq-eqb x x refl) (same_refl l)

pub same-eq : (l m : List ℕ) → same l m ≡ true → l ≡ m
unfolding same
same-eq [] [] e = refl
same-eq [] (y ∷ m) e = absurd (true-not-false e refl)
same-eq (x ∷ l) [] e = absurd (true-not-false e refl)
same-eq (x ∷ l) (y ∷ m) e =
    let p : x ≡ y = eqb-true x y (and_left (eqb x y) (same l m) e) in
    let q : l ≡ m = same-eq l m (and_right (eqb x y) (same l m) e) in
    cc

pub same-differ : (l m : List ℕ) → (l ≡ m → ⊥) → same l m ≡ false
same-differ l m h = not-true-is-false (same l m) (λ t. h (same-eq l m t))

-- ---- index
module _ {A : Type 0} (p : A → Bool) where
  -- found at i: the test holds there, and of nothing before
  pub index_is : (l : List A) (i : ℕ) (d : A) → i < length l → p (get_or l i d) ≡ true → ((k : ℕ) → k < i → p (get_or l k d) ≡ false)
      → index p l ≡ Some i
  unfolding index
  index_is [] i d h e f = absurd (not-suc-le-zero h)
  index_is (x ∷ l) zero d h e f = rw e
  index_is (x ∷ l) (suc i) d h e f =
      rw (f 0 (omega arith)) (ap later (index_is l i d (le_of_suc-le-suc h) e (λ k g. f (suc k) (omega arith))))

  pub index-miss : (l : List A) (d : A) → ((k : ℕ) → k < length l → p (get_or l k d) ≡ false) → index p l ≡ None
  unfolding index
  index-miss [] d f = refl
  index-miss (x ∷ l) d f = rw (f 0 (omega arith)) (ap later (index-miss l d (λ k g. f (suc k) (omega arith))))

-- ---- tab and flat
module _ {A : Type 0} (f : ℕ → A) where
  pub tab-length : (n : ℕ) → length (tab f n) ≡ n
  unfolding tab
  tab-length zero = refl
  tab-length (suc n) = length-append (tab f n) (f n ∷ []) ∙ ap (λ (k : ℕ). k + 1) (tab-length n) ∙ omega arith

  pub tab-at : (n i : ℕ) (d : A) → i < n → get_or (tab f n) i d ≡ f i
  unfolding tab
  tab-at zero i d h = absurd (not-suc-le-zero h)
  tab-at (suc n) i d h =
      ⊎_elim (λ (w : i ≡ n). rw w (get_or_at (tab f n) (f n) [] d n (tab-length n)))
      (λ (w : i < n). get_or-append (tab f n) (f n ∷ []) d i (subst (λ (k : ℕ). i < k) (sym (tab-length n)) w)
      ∙ tab-at n i d w) (eq-or-lt_of_le (le_of_suc-le-suc h))

  pub tab-more : (n : ℕ) → tab f (n + 1) ≡ tab f n ++ (f n ∷ [])
  unfolding tab
  tab-more n = rw add-one

  -- one more turn of a loop that fills a table
  pub tab-next : (l : List A) (i : ℕ) (x : A) → i < length l → take i l ≡ tab f i → x ≡ f i → take (i + 1) (set l i x) ≡ tab f (i + 1)
  unfolding tab
  tab-next l i x h e v = rw (add-one, take-suc-set, e, v)

pub tab-same : {A : Type 0} (f g : ℕ → A) (n : ℕ) → ((i : ℕ) → i < n → f i ≡ g i) → tab f n ≡ tab g n
unfolding tab
tab-same f g zero h = refl
tab-same f g (suc n) h = rw (tab-same f g n (λ i k. h i (omega arith)), h n (omega arith))

-- turns of a loop over a table: one more holds, or one fails
module _ {A : Type 0} (f : ℕ → A) (p : A → Bool) where
  pub all-tab-next : (i : ℕ) → all p (tab f i) ≡ true → p (f i) ≡ true → all p (tab f (i + 1)) ≡ true
  all-tab-next i h e = rw (tab-more f i, all_snoc p (tab f i) (f i), h, e)

  pub all-tab-stop : (i n : ℕ) → i < n → p (f i) ≡ false → all p (tab f n) ≡ false
  all-tab-stop i n h e = all-stop p (tab f n) i (f i) (subst (λ (k : ℕ). i < k) (sym (tab-length f n)) h) (rw (tab-at f n i (f i) h) e)

-- the same of a test between every two
module _ {A : Type 0} (f : ℕ → A) (r : A → A → Bool) where
  pub pairs-tab-next : (i : ℕ) → pairs r (tab f i) ≡ true → all (λ e. r e (f i)) (tab f i) ≡ true → pairs r (tab f (i + 1)) ≡ true
  pairs-tab-next i h e = rw (tab-more f i, pairs-snoc r (tab f i) (f i), h, e)

  pub pairs-tab-stop : (i n : ℕ) → i < n → all (λ e. r e (f i)) (tab f i) ≡ false → pairs r (tab f n) ≡ false
  pairs-tab-stop i n h e =
      not-true-is-false (pairs r (tab f n))
      (λ t. true-not-false
      (all-each (λ e. r e (f i)) (tab f i) (f i)
      (λ j k.
      let b : j < i = subst (λ (m : ℕ). j < m) (tab-length f i) k in
      let a : r (get_or (tab f n) j (f i)) (get_or (tab f n) i (f i)) ≡ true =
      pairs-at r (tab f n) j i (f i) b (subst (λ (m : ℕ). i < m) (sym (tab-length f n)) h) t in
      subst (λ (x : A). r x (f i) ≡ true) (tab-at f n j (f i) (omega arith) ∙ sym (tab-at f i j (f i) b))
      (subst (λ (y : A). r (get_or (tab f n) j (f i)) y ≡ true) (tab-at f n i (f i) h) a)))
      e)

pub map-tab : {A : Type 0} {B : Type 0} (g : A → B) (f : ℕ → A) (n : ℕ) → map g (tab f n) ≡ tab (λ i. g (f i)) n
unfolding tab
map-tab {A} {B} g f zero = refl
map-tab {A} {B} g f (suc n) = map-append g (tab f n) (f n ∷ []) ∙ ap (λ (l : List B). l ++ (g (f n) ∷ [])) (map-tab g f n)

module _ {A : Type 0} (a : A) where
  pub drop-replicate : (n m : ℕ) → drop m (replicate n a) ≡ replicate (n - m) a
  drop-replicate n zero = let e : n - 0 ≡ n = omega arith in rw e
  drop-replicate zero (suc m) = let e : 0 - suc m ≡ 0 = omega arith in rw e
  drop-replicate (suc n) (suc m) = let e : suc n - suc m ≡ n - m = omega arith in rw e (drop-replicate n m)

  pub take-replicate : (n m : ℕ) → m ≤ n → take m (replicate n a) ≡ replicate m a
  take-replicate n zero h = refl
  take-replicate zero (suc m) h = absurd (not-suc-le-zero h)
  take-replicate (suc n) (suc m) h = ap (λ (l : List A). a ∷ l) (take-replicate n m (le_of_suc-le-suc h))

pub flat-snoc : {A : Type 0} (f : A → List ℕ) (l : List A) (x : A) → flat f (l ++ (x ∷ [])) ≡ flat f l ++ f x
unfolding flat
flat-snoc f [] x = append-nil (f x)
flat-snoc f (y ∷ l) x = rw (flat-snoc f l x) (sym (append_assoc (f y) (flat f l) (f x)))

-- what is made of each element before one, of that one, and of each behind it
pub flat-around : {A : Type 0} (f : A → List ℕ) (l : List A) (x : A) (m : List A) → flat f (l ++ (x ∷ m)) ≡ flat f l ++ f x ++ flat f m
unfolding flat
flat-around f [] x m = refl
flat-around f (y ∷ l) x m = rw (flat-around f l x m) (simp append_assoc)

-- one more turn of a loop that joins what f makes of each
pub flat-tab-next : {A : Type 0} (f : A → List ℕ) (g : ℕ → A) (i : ℕ) → flat f (tab g (i + 1)) ≡ flat f (tab g i) ++ f (g i)
flat-tab-next f g i = rw (tab-more g i) (flat-snoc f (tab g i) (g i))
