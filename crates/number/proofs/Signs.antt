-- The sign of a whole number and its size, from the number and from its bits, over the width. Assumes nothing.
use Rattle.std.proofs.Common.{◌≡◌, ℕ, ◌<◌, Bool, true, false, ℤ, pos, negsuc, neg_ℤ, nat_abs, sym, refl, ap, ◌∙◌, arith}
use Rattle.std.proofs.Common.{to_z-of_z, SFits, to_z, of_z, ltb-true}
use lib.Signed.{lt_z}
use mir.Syntax.{Width}
use Rattle.integer.proofs.Representation.{true-not-false}

pub not-negative : {X : Type 0} (n : ℕ) → lt_z (pos n) (pos 0) ≡ true → X
not-negative n h = absurd (below (ltb-true n 0 h))
  where
    below : n < 0 → ⊥
    below k = omega arith

pub size-negated : (x : ℤ) → lt_z x (pos 0) ≡ true → neg_ℤ x ≡ pos (nat_abs x)
size-negated (pos n) h = not-negative n h
size-negated (negsuc n) h = refl

pub size_same : (x : ℤ) → lt_z x (pos 0) ≡ false → x ≡ pos (nat_abs x)
size_same (pos n) h = refl
size_same (negsuc n) h = true-not-false refl h

module _ (w : Width) (x : ℤ) (f : SFits w x) where
  pub sign_read : {t : Bool} → lt_z (to_z w (of_z w x)) (pos 0) ≡ t → lt_z x (pos 0) ≡ t
  sign_read h = ap (λ (z : ℤ). lt_z z (pos 0)) (sym (to_z-of_z f)) ∙ h
