-- The two's complement of a signed number and back, over the width: what `from_bits` and `bits` ask.
-- A signed argument stands in a function's needs as `to_z w (of_z w z)`, the reading of its bits. Assumes nothing.
use Rattle.std.proofs.Common.{◌≡◌, ℕ, suc, ◌+◌, ◌-◌, ◌*◌, ◌/◌, ◌%◌, ◌^◌, ◌<◌, ◌≤◌, Bool, true, false, T, ltb, leb, ℤ, pos, negsuc, ◌+ℤ◌}
use Rattle.std.proofs.Common.{◌*ℤ◌, neg_ℤ, nat_abs, sym, refl, ap, ◌∙◌, subst, ap₂, add-zero, mod-eq_of_lt, mul-zero, mul-one, arith}
use Rattle.std.proofs.Common.{pow_pos, to_z-of_z, w8, w16, w32, w64, Fits, SFits, to_z, of_z, rules, ltb-false, ltb-true, le-ltb, lt-ltb}
use mathlib.Core.Path.{subst⁻¹}
use native.Mathlib.Nat.{add-mod_right, div-eq_of_lt, div-eq_of_lt-le, mod-eq-sub-mod}
use lib.IntN.{sub_ℕ}
use lib.Signed.{non_neg}
use mir.Syntax.{Width, w128}
use mir.Val.{bits, hbits}
use mir.Facts.{to_z_pos, to_z-neg, Fits-lt-pow, Fits-of_z, sfits_to_z, sfits_widen}
use mir.ValLaws.{half_full, pow-bits}

pub true-not-false : {X : Type 0} {b : Bool} → b ≡ true → b ≡ false → X
true-not-false p q = absurd (subst T (sym p ∙ q) tt)

-- a number of the width w as one of the width v
module _ (w v : Width) (h : T (leb (hbits w) (hbits v))) (z : ℤ) (f : SFits w z) where
  pub widens : SFits v (to_z w (of_z w z))
  widens = subst⁻¹ (SFits v) (to_z-of_z f) (sfits_widen h f)

  pub widened : to_z v (of_z v (to_z w (of_z w z))) ≡ z
  widened = ap (λ (y : ℤ). to_z v (of_z v y)) (to_z-of_z f) ∙ to_z-of_z (sfits_widen h f)

-- a sum known to be the natural number k, as one of the width v
module _ (v : Width) {y : ℤ} {k : ℕ} (e : y ≡ pos k) (h : k < 2 ^ hbits v) where
  pub natural-fits : SFits v y
  natural-fits = subst⁻¹ (SFits v) e (record { sfits = h })

  pub natural-read : to_z v (of_z v y) ≡ pos k
  natural-read = to_z-of_z natural-fits ∙ e

  pub natural_casts : T (non_neg (to_z v (of_z v y))) × Fits v (nat_abs (to_z v (of_z v y)))
  natural_casts = subst⁻¹ (λ (x : ℤ). T (non_neg x) × Fits v (nat_abs x)) natural-read
      (tt, Fits-of_z {z = pos k} (record { sfits = h }))

-- ---- bits n read as a number: the top bit counts −(2 ^ hbits w), the bits below it as they stand
abbrev top_weight : Width → ℕ → ℤ
top_weight w n = negsuc (2 ^ hbits w - 1) *ℤ to_z w (n / 2 ^ hbits w)

record Weighed (w : Width) (n : ℕ) : Type 0 where
  small : SFits w (top_weight w n)
  sum : to_z w (n % 2 ^ hbits w) +ℤ top_weight w n ≡ to_z w n

times_zero : (k : ℕ) → negsuc k *ℤ pos 0 ≡ pos 0
times_zero k = ap (λ (n : ℕ). neg_ℤ (pos n)) (mul-zero (suc k))

times-one : (k : ℕ) → negsuc k *ℤ pos 1 ≡ negsuc k
times-one k = ap (λ (n : ℕ). neg_ℤ (pos n)) (mul-one (suc k))

add-negsuc : (a k : ℕ) → a ≤ k → pos a +ℤ negsuc k ≡ negsuc (k - a)
add-negsuc a k h = rw (lt-ltb a (suc k) (omega arith)) (ap negsuc (omega arith))

one_below : (w : Width) → 1 < 2 ^ hbits w
one_below w8 = search rules
one_below w16 = search rules
one_below w32 = search rules
one_below w64 = search rules
one_below w128 = search rules

-- the weight of a top bit that the division gives as q
weight-of : (w : Width) (n q : ℕ) → n / 2 ^ hbits w ≡ q → q < 2 ^ hbits w → top_weight w n ≡ negsuc (2 ^ hbits w - 1) *ℤ pos q
weight-of w n q e h = ap (λ (z : ℤ). negsuc (2 ^ hbits w - 1) *ℤ z) (ap (to_z w) e ∙ to_z_pos w h)

module _ (w : Width) (n : ℕ) (f : Fits w n) where
  clear : n < 2 ^ hbits w → Weighed w n
  clear h =
      let weight : top_weight w n ≡ pos 0 = weight-of w n 0 (div-eq_of_lt h) (pow_pos (hbits w)) ∙ times_zero (2 ^ hbits w - 1) in
      record {
        small = subst⁻¹ (SFits w) weight (record { sfits = pow_pos (hbits w) });
        sum = ap₂ (λ (x y : ℤ). x +ℤ y) (ap (to_z w) (mod-eq_of_lt h) ∙ to_z_pos w h) weight ∙ ap pos (add-zero n) ∙ sym (to_z_pos w h);
      }

  set : 2 ^ hbits w ≤ n → Weighed w n
  set h =
      let p : 0 < 2 ^ hbits w = pow_pos (hbits w) in
      let m : 2 ^ bits w ≡ 2 ^ hbits w * 2 = pow-bits w in
      let full : n < 2 ^ bits w = Fits-lt-pow f in
      let rest : n - 2 ^ hbits w < 2 ^ hbits w = omega arith in
      let quotient : n / 2 ^ hbits w ≡ 1 = div-eq_of_lt-le {k = 1} (2 ^ hbits w) {m = n} (omega arith) (omega arith) in
      let remainder : n % 2 ^ hbits w ≡ n - 2 ^ hbits w = mod-eq-sub-mod h ∙ mod-eq_of_lt rest in
      let weight : top_weight w n ≡ negsuc (2 ^ hbits w - 1) = weight-of w n 1 quotient (one_below w) ∙ times-one (2 ^ hbits w - 1) in
      record {
        small = subst⁻¹ (SFits w) weight (record { sfits = omega arith });
        sum = ap₂ (λ (x y : ℤ). x +ℤ y) (ap (to_z w) remainder ∙ to_z_pos w rest) weight
            ∙ add-negsuc (n - 2 ^ hbits w) (2 ^ hbits w - 1) (omega arith) ∙ ap negsuc (omega arith)
            ∙ sym (to_z-neg w (2 ^ bits w - suc n) (omega arith)) ∙ ap (to_z w) (omega arith);
      }

  weighed : Weighed w n
  weighed = by (ltb n (2 ^ hbits w)) refl
    where
      by : (t : Bool) → ltb n (2 ^ hbits w) ≡ t → Weighed w n
      by true e = clear (ltb-true n (2 ^ hbits w) e)
      by false e = set (ltb-false n (2 ^ hbits w) e)

  pub weight-fits : SFits w (top_weight w n)
  weight-fits = weighed.small

  -- the code adds the weight as the product's bits give it
  sum_is : to_z w (n % 2 ^ hbits w) +ℤ to_z w (of_z w (top_weight w n)) ≡ to_z w n
  sum_is = ap (λ (z : ℤ). to_z w (n % 2 ^ hbits w) +ℤ z) (to_z-of_z weight-fits) ∙ weighed.sum

  pub sum_fits : SFits w (to_z w (n % 2 ^ hbits w) +ℤ to_z w (of_z w (top_weight w n)))
  sum_fits = subst⁻¹ (SFits w) sum_is (sfits_to_z f)

  pub sum-reads : to_z w (of_z w (to_z w (n % 2 ^ hbits w) +ℤ to_z w (of_z w (top_weight w n)))) ≡ to_z w n
  sum-reads = to_z-of_z sum_fits ∙ sum_is

-- ---- the bits of a number z: z + 2 ^ bits w is not negative, and modulo 2 ^ bits w it is those bits
pub sub-ge : (a b : ℕ) → b ≤ a → sub_ℕ a b ≡ pos (a - b)
sub-ge a b h = simp (le-ltb a b h)

abbrev lifted : Width → ℤ → ℕ
lifted w (pos n) = n + 2 ^ bits w
lifted w (negsuc n) = 2 ^ bits w - suc n

lifted-is : (w : Width) (z : ℤ) → SFits w z → z +ℤ pos (2 ^ bits w) ≡ pos (lifted w z)
lifted-is w (pos n) f = refl
lifted-is w (negsuc n) f = sub-ge (2 ^ bits w) (suc n) (half_full w f.sfits)

lifted-below : (w : Width) (z : ℤ) → SFits w z → lifted w z < 2 ^ hbits w + 2 ^ bits w
lifted-below w (pos n) f = let h : n < 2 ^ hbits w = f.sfits in omega arith
lifted-below w (negsuc n) f = let p : 0 < 2 ^ hbits w = pow_pos (hbits w) in omega arith

lifted-bits : (w : Width) (z : ℤ) → SFits w z → lifted w z % 2 ^ bits w ≡ of_z w z
lifted-bits w (pos n) f = add-mod_right n (2 ^ bits w) ∙ mod-eq_of_lt (half_full w f.sfits)
lifted-bits w (negsuc n) f = let p : 0 < 2 ^ bits w = pow_pos (bits w) in mod-eq_of_lt (omega arith)

-- the sum is taken in v, a wider width
module _ (w v : Width) (h : T (leb (hbits w) (hbits v))) (room : 2 ^ hbits w + 2 ^ bits w ≤ 2 ^ hbits v) (z : ℤ) (f : SFits w z) where
  abbrev lift : ℤ
  lift = to_z v (of_z v (to_z w (of_z w z))) +ℤ pos (2 ^ bits w)

  lift-is : lift ≡ pos (lifted w z)
  lift-is = ap (λ (y : ℤ). y +ℤ pos (2 ^ bits w)) (widened w v h z f) ∙ lifted-is w z f

  lift-below : lifted w z < 2 ^ hbits v
  lift-below = let k : lifted w z < 2 ^ hbits w + 2 ^ bits w = lifted-below w z f in omega arith

  pub lift-fits : SFits v lift
  lift-fits = natural-fits v lift-is lift-below

  pub lift-casts : T (non_neg (to_z v (of_z v lift))) × Fits v (nat_abs (to_z v (of_z v lift)))
  lift-casts = natural_casts v lift-is lift-below

  pub lift-bits : nat_abs (to_z v (of_z v lift)) % 2 ^ bits w ≡ of_z w z
  lift-bits = ap (λ (y : ℤ). nat_abs y % 2 ^ bits w) (natural-read v lift-is lift-below) ∙ lifted-bits w z f
