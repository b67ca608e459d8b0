-- What a conversion answers is in the type's range; and OPEN's size out of such an answer. Assumes nothing.
use Rattle.std.specs.Prelude.{None, Some}
use Rattle.std.proofs.Common.{◌≡◌, ℕ, zero, suc, ◌*◌, ◌^◌, ◌<◌, ◌≤◌, true, false, T, ℤ, pos, negsuc, nat_abs, refl, ap, ◌∙◌, subst}
use Rattle.std.proofs.Common.{lt_of_le_of_lt, arith, to_z-of_z, w16, w32, Fits, SFits, to_z, of_z, lt-ltb}
use mathlib.Core.Path.{subst⁻¹}
use lib.Ieee.{Float, nan, inf, fin, down, up}
use lib.Signed.{lt_z, mag, non_neg}
use mir.Syntax.{Width}
use mir.Val.{hbits}
use Rattle.float.specs.Whole.{signed, sized, size_of, whole_of, whole_size}
use Rattle.float.specs.declared.whole.Rounding.{Rounding}
use Rattle.float.specs.declared.whole.Rounding.TheVariants.{TowardZero}
use Rattle.float.proofs.Ranges.{within-mag}
use Rattle.float.proofs.Tests.{true-false}

no_whole : {X : Type 0} {z : ℤ} → Some z ≡ None → X
no_whole e = let clash : ◌≡◌ {A = ℕ} 0 1 = cc in absurd (none clash)
  where
    none : ◌≡◌ {A = ℕ} 0 1 → ⊥
    none c = omega arith

pub whole-mag : (r : Rounding) (max : ℕ) (x : Float) {z : ℤ} → Some z ≡ whole_of r max x → mag z ≤ max
unfolding whole_of
whole-mag r max nan e = no_whole e
whole-mag r max (inf s) e = no_whole e
whole-mag r max (fin s m e) h = within-mag max (signed s (whole_size r s (m * up e) (down e))) h

-- the answer fits the type of w bits, whose greatest whole is max
pub whole-fits : (w : Width) (r : Rounding) (max : ℕ) (x : Float) {z : ℤ} → max < 2 ^ hbits w → Some z ≡ whole_of r max x → SFits w z
whole-fits w r max x h e = record { sfits = lt_of_le_of_lt (whole-mag r max x e) h }

-- ---- OPEN's size
module _ (z : ℤ) (f : SFits w32 z) where
  pub size-cast : lt_z (pos 0) (to_z w32 (of_z w32 z)) ≡ true → mag z < 65536 → T (non_neg (to_z w32 (of_z w32 z)))
      × Fits w16 (nat_abs (to_z w32 (of_z w32 z)))
  size-cast h l = subst⁻¹ (λ (y : ℤ). T (non_neg y)
      × Fits w16 (nat_abs y)) (to_z-of_z f) (by z (subst (λ (y : ℤ). lt_z (pos 0) y ≡ true) (to_z-of_z f) h) l)
    where
      by : (y : ℤ) → lt_z (pos 0) y ≡ true → mag y < 65536 → T (non_neg y) × Fits w16 (nat_abs y)
      by (pos n) h l = (tt, record { fits = l })
      by (negsuc n) h l = true-false h refl

  module _ (max : ℕ) (x : Float) (e : Some z ≡ whole_of TowardZero max x) where
    pub size-some : lt_z (pos 0) (to_z w32 (of_z w32 z)) ≡ true → Some (nat_abs (to_z w32 (of_z w32 z))) ≡ size_of max x
    unfolding size_of
    size-some h = ap (λ (y : ℤ). Some (nat_abs y)) (to_z-of_z f) ∙ by z (subst (λ (y : ℤ). lt_z (pos 0) y ≡ true) (to_z-of_z f) h)
        ∙ ap sized e
      where
        by : (y : ℤ) → lt_z (pos 0) y ≡ true → Some (nat_abs y) ≡ sized (Some y)
        by (pos zero) h = true-false h refl
        by (pos (suc n)) h = refl
        by (negsuc n) h = true-false h refl

    pub size_none : lt_z (pos 0) (to_z w32 (of_z w32 z)) ≡ false → None ≡ size_of max x
    unfolding size_of
    size_none h = by z (subst (λ (y : ℤ). lt_z (pos 0) y ≡ false) (to_z-of_z f) h) ∙ ap sized e
      where
        by : (y : ℤ) → lt_z (pos 0) y ≡ false → None ≡ sized (Some y)
        by (pos zero) h = refl
        by (pos (suc n)) h = true-false (lt-ltb 0 (suc n) (omega arith)) h
        by (negsuc n) h = refl

pub size-out : (max : ℕ) (x : Float) → None ≡ whole_of TowardZero max x → None ≡ size_of max x
unfolding size_of
size-out max x e = ap sized e
