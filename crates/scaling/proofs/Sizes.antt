-- How large exact results are: a difference of two INTs, the product of two such, a quotient, and a sum. Assumes nothing.
use mathlib.Core.Path.{◌≡◌, refl, subst⁻¹}
use mathlib.Core.Bool.{Bool, true, false}
use Prim.Native.Nat.{ℕ, zero, suc, ◌+◌, ◌*◌, ◌/◌, ◌≤◌, ◌<◌, ◌^◌}
use native.Mathlib.Omega.{arith}
use native.Mathlib.Nat.{div-le_self, lt_of_le_of_lt}
use borrow.Author.Tests.{ltb-true}
use lib.Dec.{ltb}
use lib.IntN.{ℤ, pos, negsuc, neg_ℤ, nat_abs, sub_ℕ, ◌+ℤ◌, ◌-ℤ◌, ◌*ℤ◌}
use lib.Signed.{mag, quot_z}
use mir.Syntax.{Width, w16, w64}
use mir.Val.{SFits, hbits}
use Rattle.integer.proofs.Modular.{product-below}

size-negated : (z : ℤ) → nat_abs (neg_ℤ z) ≡ nat_abs z
size-negated (pos zero) = refl
size-negated (pos (suc n)) = refl
size-negated (negsuc n) = refl

size-of-gap : (a b : ℕ) → nat_abs (sub_ℕ a b) ≤ a + b
size-of-gap a b = by (ltb a b) refl
  where
    by : (t : Bool) → ltb a b ≡ t → nat_abs (sub_ℕ a b) ≤ a + b
    by true e = rw e (omega (arith, ltb-true a b e))
    by false e = rw e (omega arith)

size-of-sum : (x y : ℤ) → nat_abs (x +ℤ y) ≤ nat_abs x + nat_abs y
size-of-sum (pos a) (pos b) = omega arith
size-of-sum (pos a) (negsuc b) = size-of-gap a (suc b)
size-of-sum (negsuc a) (pos b) = omega (arith, size-of-gap b (suc a))
size-of-sum (negsuc a) (negsuc b) = omega arith

size-of-difference : (x y : ℤ) → nat_abs (x -ℤ y) ≤ nat_abs x + nat_abs y
size-of-difference x y = omega (arith, size-of-sum x (neg_ℤ y), size-negated y)

size-of-product : (x y : ℤ) → nat_abs (x *ℤ y) ≡ nat_abs x * nat_abs y
size-of-product (pos a) (pos b) = refl
size-of-product (pos a) (negsuc b) = size-negated (pos (a * suc b))
size-of-product (negsuc a) (pos b) = size-negated (pos (suc a * b))
size-of-product (negsuc a) (negsuc b) = refl

size-of-quotient : (x y : ℤ) → nat_abs (quot_z x y) ≤ nat_abs x
size-of-quotient (pos a) (pos b) = div-le_self a b
size-of-quotient (pos a) (negsuc b) = omega (arith, size-negated (pos (a / suc b)), div-le_self a (suc b))
size-of-quotient (negsuc a) (pos b) = omega (arith, size-negated (pos (suc a / b)), div-le_self (suc a) b)
size-of-quotient (negsuc a) (negsuc b) = div-le_self (suc a) (suc b)

mag-le : (z : ℤ) → mag z ≤ nat_abs z
mag-le (pos n) = omega arith
mag-le (negsuc n) = omega arith

-- a size below half the width's power fits
small-fits : (v : Width) (z : ℤ) → nat_abs z < 2 ^ hbits v → SFits v z
small-fits v z h = record { sfits = lt_of_le_of_lt (mag-le z) h }

size-of-int : (z : ℤ) → SFits w16 z → nat_abs z ≤ 32768
size-of-int (pos n) f = omega (arith, f.sfits)
size-of-int (negsuc n) f = omega (arith, f.sfits)

-- ---- of INTs, in 64 bits
module _ (x y : ℤ) (f : SFits w16 x) (g : SFits w16 y) where
  pub difference_below : nat_abs (x -ℤ y) < 2 ^ 17
  difference_below = omega (arith, size-of-difference x y, size-of-int x f, size-of-int y g)

  pub difference-fits : SFits w64 (x -ℤ y)
  difference-fits = small-fits w64 (x -ℤ y) (omega (arith, difference_below))

-- of two differences of INTs
module _ (x y : ℤ) (hx : nat_abs x < 2 ^ 17) (hy : nat_abs y < 2 ^ 17) where
  product-below-34 : nat_abs (x *ℤ y) < 2 ^ 34
  product-below-34 = subst⁻¹ (λ (n : ℕ). n < 2 ^ 34) (size-of-product x y) (product-below 17 hx hy)

  pub product-fits : SFits w64 (x *ℤ y)
  product-fits = small-fits w64 (x *ℤ y) (omega (arith, product-below-34))

  -- by a third
  module _ (z : ℤ) where
    pub quotient_fits : SFits w64 (quot_z (x *ℤ y) z)
    quotient_fits = small-fits w64 (quot_z (x *ℤ y) z) (omega (arith, product-below-34, size-of-quotient (x *ℤ y) z))

    pub sum_fits : (d : ℤ) → SFits w16 d → SFits w64 (quot_z (x *ℤ y) z +ℤ d)
    sum_fits d f =
        small-fits w64 (quot_z (x *ℤ y) z +ℤ d)
        (omega (arith, size-of-sum (quot_z (x *ℤ y) z) d, product-below-34, size-of-quotient (x *ℤ y) z, size-of-int d f))
