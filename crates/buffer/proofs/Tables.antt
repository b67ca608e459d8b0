-- What a search in a list found; tests of tables; tables less one element.
use Rattle.std.specs.Prelude.{None, Option, Some}
use Rattle.std.specs.Option.{MatchOption}
use Prim.Native.Nat.{ℕ, zero, suc, ◌≤◌, ◌<◌}
use mathlib.Core.Path.{◌≡◌, refl, sym, ap, ◌∙◌, subst, subst₂}
use mathlib.Core.Bool.{Bool, true, false, ◌||◌}
use mathlib.Core.List.{List, [], ◌∷◌, ◌++◌, map, append_assoc, append-nil}
use mathlib.Core.Logic.{⊎_elim}
use native.Mathlib.Nat.{not-suc-le-zero, le_of_suc-le-suc, eq-or-lt_of_le}
use native.Mathlib.Numerals.{add-one}
use native.Mathlib.Omega.{arith}
use lib.ListN.{length, get_or, take, drop, length-append, drop_of_length-le}
use lib.Seq.{drop-append-le, take-append-le, take_at}
use Rattle.std.specs.List.{list_any, range_with_len}
use Rattle.std.proofs.lemmas.List.FromFn.{map-range_with_len_more}
use Rattle.buffer.specs.Lists.{all, any, pairs, index, here_or, tab, without}
use Rattle.buffer.proofs.Lists.{all-at, all-each, index_is, index-miss, pairs-at, tab-at, tab-length, tab-same}

-- ---- what a search found
module _ {A : Type 0} (p : A → Bool) (d : A) where
  pub record First (l : List A) (i : ℕ) : Type 0 where
    pub inside : i < length l
    pub holds : p (get_or l i d) ≡ true
    pub first : (k : ℕ) → k < i → p (get_or l k d) ≡ false

  pub index_at : (l : List A) (i : ℕ) → index p l ≡ Some i → First l i
  unfolding index
  index_at [] i e = absurd (let z : ◌≡◌ {A = ℕ} 0 1 = cc in omega arith)
  index_at (x ∷ l) i e = go (p x) refl (index p l) refl e (index_at l)
    where
      go : (b : Bool) → p x ≡ b → (f : Option ℕ) → index p l ≡ f → here_or b f ≡ Some i → ((j : ℕ) → index p l ≡ Some j → First l j)
          → First (x ∷ l) i
      go true t f g h r = let w : 0 ≡ i = cc in
          subst (λ (k : ℕ). First (x ∷ l) k) w (record { inside = omega arith; holds = t; first = λ k n. absurd (not-suc-le-zero n) })
      go false t None g h r = absurd (let z : ◌≡◌ {A = ℕ} 0 1 = cc in omega arith)
      go false t (Some j) g h r = let w : suc j ≡ i = cc in subst (λ (k : ℕ). First (x ∷ l) k) w (further (r j g))
        where
          before : First l j → (k : ℕ) → k < suc j → p (get_or (x ∷ l) k d) ≡ false
          before y zero n = t
          before y (suc k) n = y.first k (le_of_suc-le-suc n)

          further : First l j → First (x ∷ l) (suc j)
          further y = record { inside = omega (arith, y.inside); holds = y.holds; first = before y }

  pub index-none : (l : List A) → index p l ≡ None → (k : ℕ) → k < length l → p (get_or l k d) ≡ false
  unfolding index
  index-none [] e k h = absurd (not-suc-le-zero h)
  index-none (x ∷ l) e k h = go (p x) refl (index p l) refl e k h (index-none l)
    where
      go : (b : Bool) → p x ≡ b → (f : Option ℕ) → index p l ≡ f → here_or b f ≡ None
          → (k : ℕ) → k < length (x ∷ l) → (index p l ≡ None → (j : ℕ) → j < length l → p (get_or l j d) ≡ false)
          → p (get_or (x ∷ l) k d) ≡ false
      go true t f g y k n r = absurd (let z : ◌≡◌ {A = ℕ} 0 1 = cc in omega arith)
      go false t (Some j) g y k n r = absurd (let z : ◌≡◌ {A = ℕ} 0 1 = cc in omega arith)
      go false t None g y zero n r = t
      go false t None g y (suc k) n r = r g k (le_of_suc-le-suc n)

-- ---- tests of a list made from another, and of a table
pub all_map : {A B : Type 0} (p : B → Bool) (f : A → B) (l : List A) → all p (map f l) ≡ all (λ x. p (f x)) l
unfolding all
all_map p f [] = refl
all_map p f (x ∷ l) = rw (all_map p f l)

module _ {A : Type 0} (f : ℕ → A) (n : ℕ) where
  below : (i : ℕ) → i < n → i < length (tab f n)
  below i h = subst (λ (k : ℕ). i < k) (sym (tab-length f n)) h

  pub all-tab-at : (p : A → Bool) (i : ℕ) → i < n → all p (tab f n) ≡ true → p (f i) ≡ true
  all-tab-at p i h e = subst (λ (x : A). p x ≡ true) (tab-at f n i (f 0) h) (all-at p (tab f n) i (f 0) (below i h) e)

  of-each : (Q : A → Type 0) → ((i : ℕ) → i < n → Q (f i)) → (i : ℕ) → i < length (tab f n) → Q (get_or (tab f n) i (f 0))
  of-each Q h i k =
      let m : i < n = subst (λ (j : ℕ). i < j) (tab-length f n) k in
      rw (tab-at f n i (f 0) m) (h i m)

  pub all-tab-each : (p : A → Bool) → ((i : ℕ) → i < n → p (f i) ≡ true) → all p (tab f n) ≡ true
  all-tab-each p h = all-each p (tab f n) (f 0) (of-each (λ x. p x ≡ true) h)

  pub pairs-tab-at : (r : A → A → Bool) (i j : ℕ) → i < j → j < n → pairs r (tab f n) ≡ true → r (f i) (f j) ≡ true
  pairs-tab-at r i j h k e =
      subst₂ (λ (x y : A). r x y ≡ true) (tab-at f n i (f 0) (omega arith)) (tab-at f n j (f 0) k)
      (pairs-at r (tab f n) i j (f 0) h (below j k) e)

  -- the first in a table that a test holds of
  pub index-tab-at : (p : A → Bool) (i : ℕ) → index p (tab f n) ≡ Some i → (i < n) × (p (f i) ≡ true)
  index-tab-at p i e =
      let g = index_at p (f 0) (tab f n) i e in
      let h : i < n = subst (λ (m : ℕ). i < m) (tab-length f n) g.inside in
      (h, subst (λ (x : A). p x ≡ true) (tab-at f n i (f 0) h) g.holds)

  pub index-tab-none : (p : A → Bool) → index p (tab f n) ≡ None → (i : ℕ) → i < n → p (f i) ≡ false
  index-tab-none p e i h = subst (λ (x : A). p x ≡ false) (tab-at f n i (f 0) h) (index-none p (f 0) (tab f n) e i (below i h))

  pub index-tab-is : (p : A → Bool) (i : ℕ) → i < n → p (f i) ≡ true → ((k : ℕ) → k < i → p (f k) ≡ false) → index p (tab f n) ≡ Some i
  index-tab-is p i h e b = index_is p (tab f n) i (f 0) (below i h) (rw (tab-at f n i (f 0) h) e) (λ k g. before k g (omega arith))
    where
      before : (k : ℕ) → k < i → k < n → p (get_or (tab f n) k (f 0)) ≡ false
      before k g m = rw (tab-at f n k (f 0) m) (b k g)

  pub index-tab-miss : (p : A → Bool) → ((i : ℕ) → i < n → p (f i) ≡ false) → index p (tab f n) ≡ None
  index-tab-miss p h = index-miss p (tab f n) (f 0) (of-each (λ x. p x ≡ false) h)

  -- what a search over the numbers below n answers, in the words of std's `first_from_Range`
  pub index-tab-first : (p : A → Bool) (r : Option ℕ) → MatchOption r ((k : ℕ) → 0 ≤ k → k < n → p (f k) ≡ false)
      (λ i. (0 ≤ i) × (i < n) × (p (f i) ≡ true) × ((k : ℕ) → 0 ≤ k → k < i → p (f k) ≡ false)) → r ≡ index p (tab f n)
  index-tab-first p None h = sym (index-tab-miss p (λ i k. h i (omega arith) k))
  index-tab-first p (Some i) h = sym (index-tab-is p i h.1 h.2 (λ k l. h.3 k (omega arith) l))

-- ---- a test along the numbers below n, as `any` over a range answers it
pub tab-range : {A : Type 0} (f : ℕ → A) (n : ℕ) → map f (range_with_len 0 n) ≡ tab f n
unfolding tab
tab-range f zero = refl
tab-range f (suc n) = rw add-one at (map-range_with_len_more f 0 n n (omega arith)) ∙ ap (λ l. l ++ (f n ∷ [])) (tab-range f n)

any-listed : {A : Type 0} (p : A → Bool) (f : ℕ → A) (l : List ℕ) → list_any (λ k. p (f k)) l ≡ any p (map f l)
unfolding any
any-listed p f [] = refl
any-listed p f (x ∷ l) = ap (λ b. p (f x) || b) (any-listed p f l)

pub any-range : {A : Type 0} (p : A → Bool) (f : ℕ → A) (n : ℕ) → list_any (λ k. p (f k)) (range_with_len 0 n) ≡ any p (tab f n)
any-range p f n = any-listed p f (range_with_len 0 n) ∙ ap (any p) (tab-range f n)

-- ---- a table less its element at i
module _ {A : Type 0} where
  without-last : (l : List A) (x : A) (i : ℕ) → length l ≡ i → without i (l ++ (x ∷ [])) ≡ l
  without-last l x i e =
      let n : length (l ++ (x ∷ [])) ≤ suc i = simp length-append (omega arith) in
      rw (take_at l (x ∷ []) i e, drop_of_length-le (l ++ (x ∷ [])) {i = suc i} n) (append-nil l)

  without-earlier : (l : List A) (x : A) (i : ℕ) → i < length l → without i (l ++ (x ∷ [])) ≡ without i l ++ (x ∷ [])
  without-earlier l x i h =
      rw (take-append-le i l (x ∷ []) (omega arith), drop-append-le (suc i) l (x ∷ []) h)
      (sym (append_assoc (take i l) (drop (suc i) l) (x ∷ [])))

  -- the elements behind i move down by one
  pub tab-without : (f g : ℕ → A) (i n : ℕ) → i ≤ n → ((j : ℕ) → j < i → g j ≡ f j) → ((j : ℕ) → i ≤ j → j < n → g j ≡ f (suc j))
      → tab g n ≡ without i (tab f (suc n))
  unfolding tab
  tab-without f g i zero h a b = sym (without-last [] (f 0) i (omega arith))
  tab-without f g i (suc n) h a b = ⊎_elim last (earlier (λ k. tab-without f g i n k a (λ j x y. b j x (omega arith)))) (eq-or-lt_of_le h)
    where
      last : i ≡ suc n → tab g (suc n) ≡ without i (tab f (suc (suc n)))
      last w = tab-same g f (suc n) (λ j k. a j (omega arith))
          ∙ sym (without-last (tab f (suc n)) (f (suc n)) i (tab-length f (suc n) ∙ sym w))

      earlier : (i ≤ n → tab g n ≡ without i (tab f (suc n))) → i < suc n → tab g (suc n) ≡ without i (tab f (suc (suc n)))
      earlier r w =
          let k : i ≤ n = le_of_suc-le-suc w in
          rw (r k, b n k (omega arith))
          (sym (without-earlier (tab f (suc n)) (f (suc n)) i (subst (λ (m : ℕ). i < m) (sym (tab-length f (suc n))) w)))
