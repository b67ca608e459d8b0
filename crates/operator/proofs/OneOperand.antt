-- Negation, absolute value and whole root of CHAR and INT, and FLOATs converted to either: one law for both, over the width w, k the type.
-- Assumes nothing.
use Rattle.std.specs.Prelude.{Option, Some, None}
use mathlib.Core.Path.{◌≡◌, refl, sym, ◌∙◌, ap, subst, subst⁻¹}
use mathlib.Core.Bool.{true, false}
use Prim.Native.Nat.{ℕ, ◌<◌, ◌^◌}
use native.Mathlib.Nat.{le-mul_of_pos_right, lt_of_lt_of_le, lt_of_le_of_lt}
use lib.Ieee.{Float, nan, inf, fin}
use lib.IntN.{ℤ, pos, negsuc, neg_ℤ, nat_abs}
use lib.Pow.{pow_pos}
use lib.Signed.{mag, lt_z}
use mir.Syntax.{Width, w32, w64}
use mir.Val.{to_z, of_z, SFits, hbits}
use mir.Facts.{to_z-of_z, to_z_pos}
use Rattle.integer.specs.Modular.{wrapped}
use Rattle.integer.proofs.Modular.{reads-wrapped, wrapped_same}
use Rattle.integer.proofs.Representation.{true-not-false, widened}
use Rattle.root.specs.Root.{whole_root}
use Rattle.root.proofs.Squares.{root_below, root_is}
use Rattle.float.specs.Whole.{whole_of}
use Rattle.float.specs.declared.whole.Rounding.{Rounding}
use Rattle.float.proofs.Sizes.{whole-mag}
use Rattle.number.specs.declared.Number.{Number}
use Rattle.number.proofs.Signs.{not-negative, sign_read, size-negated, size_same}
use Rattle.operator.specs.Conversion.{value_or}
use Rattle.std.specs.Float.{float_with_sign}
use Rattle.operator.specs.Unary.{magnitude, whole_square_root}
use Rattle.operator.specs.Outcome.{Outcome}
use Rattle.std.specs.Prelude.{Ok, Err}
use Rattle.operator.specs.declared.ArithmeticError.TheVariants.{OutOfRange}

abbrev gives : Number → Outcome
gives a = Ok a

root-of-negative : (k : ℤ → Number) (x : ℤ) → lt_z x (pos 0) ≡ true → Err OutOfRange ≡ whole_square_root k x
root-of-negative k (pos n) h = not-negative n h
root-of-negative k (negsuc n) h = refl

root-of-size : (k : ℤ → Number) (x : ℤ) → lt_z x (pos 0) ≡ false → gives (k (pos (whole_root (nat_abs x)))) ≡ whole_square_root k x
root-of-size k (pos n) h = refl
root-of-size k (negsuc n) h = true-not-false refl h

module _ (w : Width) (k : ℤ → Number) (x : ℤ) (f : SFits w x) where
  pub negates : {r : ℤ} → r ≡ wrapped w (neg_ℤ (to_z w (of_z w x))) → k (to_z w (of_z w r)) ≡ k (wrapped w (neg_ℤ x))
  negates e = ap k (reads-wrapped w (neg_ℤ x) (e ∙ ap (λ (y : ℤ). wrapped w (neg_ℤ y)) (to_z-of_z f)))

  pub absolute-negative : lt_z (to_z w (of_z w x)) (pos 0) ≡ true → k (wrapped w (neg_ℤ x)) ≡ k (wrapped w (pos (nat_abs x)))
  absolute-negative h = ap (λ (z : ℤ). k (wrapped w z)) (size-negated x (sign_read w x f h))

  pub absolute-same : lt_z (to_z w (of_z w x)) (pos 0) ≡ false → k x ≡ k (wrapped w (pos (nat_abs x)))
  absolute-same h = ap k (sym (wrapped_same w x f) ∙ ap (wrapped w) (size_same x (sign_read w x f h)))

  pub root-negative : lt_z (to_z w (of_z w x)) (pos 0) ≡ true → Err OutOfRange ≡ whole_square_root k x
  root-negative h = root-of-negative k x (sign_read w x f h)

-- r is the root of a number that is not negative: it is no larger, and it is the answer
module _ (k : ℤ → Number) (x : ℤ) (h : lt_z x (pos 0) ≡ false) {r : ℕ} (er : r ≡ whole_root (nat_abs x)) where
  pub root-below : (w : Width) → SFits w x → r < 2 ^ hbits w
  root-below w f =
      subst⁻¹ (λ (m : ℕ). m < 2 ^ hbits w) er
      (root_below (2 ^ hbits w) (root_is (nat_abs x)) (lt_of_lt_of_le size_below (le-mul_of_pos_right (2 ^ hbits w) (pow_pos (hbits w)))))
    where
      size_below : nat_abs x < 2 ^ hbits w
      size_below = subst (λ (y : ℤ). mag y < 2 ^ hbits w) (size_same x h) f.sfits

  pub root-reads : gives (k (pos r)) ≡ whole_square_root k x
  root-reads = ap (λ (n : ℕ). gives (k (pos n))) er ∙ root-of-size k x h

-- the same of z in 64 bits
module _ (w : Width) (k : ℤ → Number) (z : ℤ) (f : SFits w z) (fz : SFits w64 z) (h : lt_z (to_z w64 (of_z w64 z)) (pos 0) ≡ false) {r : ℕ}
    (er : r ≡ whole_root (nat_abs (to_z w64 (of_z w64 z)))) where
  is-root : r ≡ whole_root (nat_abs z)
  is-root = er ∙ ap (λ (y : ℤ). whole_root (nat_abs y)) (to_z-of_z fz)

  below : (v : Width) → SFits v z → r < 2 ^ hbits v
  below v g = root-below k z (sign_read w64 z fz h) is-root v g

  pub root-fits : SFits w64 (pos r)
  root-fits = record { sfits = below w64 fz }

  pub root-given : {n : ℤ} {a : Number} → n ≡ wrapped w (to_z w64 r) → a ≡ k n → gives a ≡ whole_square_root k z
  root-given en ea =
      ap gives (ea ∙ ap k (en ∙ ap (wrapped w) (to_z_pos w64 (below w64 fz)) ∙ wrapped_same w (pos r) (record { sfits = below w f })))
      ∙ root-reads k z (sign_read w64 z fz h) is-root

-- a FLOAT as a whole number from −max − 1 to max, in 32 bits and wrapped to w: it fits
module _ (w : Width) {max : ℕ} (small : SFits w (pos max)) (r : Rounding) (x : Float) {o : Option ℤ} (eo : o ≡ whole_of r max x) where
  pub narrowed : (k : ℤ → Number) (z : ℤ) → o ≡ Some z → SFits w32 z → {n : ℤ} {a : Number}
      → n ≡ wrapped w (to_z w64 (of_z w64 (to_z w32 (of_z w32 z)))) → a ≡ k n → gives a ≡ value_or k (whole_of r max x)
  narrowed k z ez f en ea =
      ap gives (ea ∙ ap k (en ∙ ap (wrapped w) (widened w32 w64 tt z f)
      ∙ wrapped_same w z (record { sfits = lt_of_le_of_lt (whole-mag r max x (sym ez ∙ eo)) small.sfits })))
      ∙ ap (value_or k) (sym ez ∙ eo)

  pub beyond : o ≡ None → (k : ℤ → Number) → Err OutOfRange ≡ value_or k (whole_of r max x)
  beyond e k = ap (value_or k) (sym e ∙ eo)

-- the library's size of a FLOAT
pub magnitude-is : (x : Float) → float_with_sign false x ≡ magnitude x
unfolding float_with_sign magnitude
magnitude-is nan = refl
magnitude-is (inf s) = refl
magnitude-is (fin s m e) = refl
