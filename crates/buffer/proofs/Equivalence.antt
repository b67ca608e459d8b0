-- Tests that say the same, and one more turn of a loop that joins tests and has no way out.
use Prim.Native.Nat.{ℕ, zero, suc, ◌+◌, ◌≤◌, ◌<◌}
use mathlib.Core.Path.{◌≡◌, refl, sym, ap₂, ◌∙◌}
use mathlib.Core.Bool.{Bool, true, false, ◌&&◌, ◌||◌, and-false}
use mathlib.Core.List.{List, [], ◌∷◌}
use native.Mathlib.Numerals.{add-one}
use native.Mathlib.Omega.{arith}
use lib.ListN.{length, get_or, take}
use lib.Seq.{take-suc}
use Rattle.buffer.specs.Lists.{all, any, tab}
use Rattle.buffer.proofs.Lists.{all_snoc, tab-more}
use Rattle.buffer.proofs.Kept.{any_snoc}

-- two tests are one where each implies the other
pub both_ways : (a b : Bool) → (a ≡ true → b ≡ true) → (b ≡ true → a ≡ true) → a ≡ b
both_ways true b h k = sym (h refl)
both_ways false true h k = k refl
both_ways false false h k = refl

-- ---- one more turn
module _ {A : Type 0} (p : A → Bool) where
  pub all-tab-more : (f : ℕ → A) (i : ℕ) → all p (tab f (i + 1)) ≡ all p (tab f i) && p (f i)
  all-tab-more f i = rw (tab-more f i, all_snoc p (tab f i) (f i))

  pub all-take-more : (l : List A) (i : ℕ) (d : A) → i < length l → all p (take (i + 1) l) ≡ all p (take i l) && p (get_or l i d)
  all-take-more l i d h = rw (add-one, take-suc l i d, all_snoc p (take i l) (get_or l i d))

  pub any-take-more : (l : List A) (i : ℕ) (d : A) → i < length l → any p (take (i + 1) l) ≡ any p (take i l) || p (get_or l i d)
  any-take-more l i d h = rw (add-one, take-suc l i d, any_snoc p (take i l) (get_or l i d))

-- ---- a loop that asks each of n elements: whether one of the first i was such
module _ {A : Type 0} (p : A → Bool) (f : ℕ → A) (n : ℕ) where
  pub record Asked (hit : Bool) (i : ℕ) : Type 0 where
    pub few : i ≤ n
    pub among : hit ≡ any p (tab f i)

  pub asked-none : Asked false 0
  unfolding any tab
  asked-none = record { few = omega arith; among = refl }

  pub asked-next : {hit b : Bool} {i : ℕ} → Asked hit i → i < n → b ≡ p (f i) → Asked (hit || b) (i + 1)
  asked-next {i = i} a h e =
      record { few = omega arith; among = rw (tab-more f i, any_snoc p (tab f i) (f i)) (ap₂ ◌||◌ a.among e) }

  pub asked-all : {hit : Bool} {i : ℕ} → Asked hit i → n ≤ i → hit ≡ any p (tab f n)
  asked-all {i = i} a h = let q : i ≡ n = omega (arith, a.few) in rw q at a.among

-- ---- the same test of every element
pub all-tab-same : {A B : Type 0} (p : A → Bool) (q : B → Bool) (f : ℕ → A) (g : ℕ → B) (n : ℕ)
    → ((i : ℕ) → i < n → p (f i) ≡ q (g i)) → all p (tab f n) ≡ all q (tab g n)
unfolding all tab
all-tab-same p q f g zero h = refl
all-tab-same p q f g (suc n) h =
    all_snoc p (tab f n) (f n)
    ∙ rw (all-tab-same p q f g n (λ i k. h i (omega arith)), h n (omega arith)) (sym (all_snoc q (tab g n) (g n)))

pub all_both : {A : Type 0} (p q : A → Bool) (l : List A) → all (λ x. p x && q x) l ≡ all p l && all q l
unfolding all
all_both p q [] = refl
all_both p q (x ∷ l) = rw (all_both p q l) (shuffle (p x) (q x) (all p l) (all q l))
  where
    shuffle : (a b c d : Bool) → (a && b) && (c && d) ≡ (a && c) && (b && d)
    shuffle true true c d = refl
    shuffle true false c d = sym (and-false c)
    shuffle false b c d = refl
