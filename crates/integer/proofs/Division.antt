-- Negation, the quotient cut toward zero and its remainder, over the width: what the standard library's wrapping operations read.
-- Assumes nothing.
use Rattle.std.proofs.Common.{◌≡◌, ℕ, zero, suc, ◌-◌, ◌/◌, ◌%◌, ◌^◌, ◌<◌, ◌≤◌, ℤ, pos, negsuc, neg_ℤ, nat_abs, sym, refl, ap, ◌∙◌}
use Rattle.std.proofs.Common.{lt_of_le_of_lt, mod-eq_of_lt, div-le_self, arith, to_z-of_z, SFits, to_z, of_z}
use Rattle.std.specs.Int.{int_wrapping_div, int_wrapping_neg}
use native.Mathlib.Nat.{mod_self, div-lt_self, zero-mod}
use lib.Signed.{mag, quot_z, rem_z, mag_rem}
use mir.Syntax.{Width}
use mir.Val.{bits, hbits}
use mir.ValLaws.{half_full, pow-bits, sfits_le}
use Rattle.integer.specs.Modular.{residue, wrapped}
use Rattle.integer.proofs.Modular.{size-of-fitting, reads-sized, reads-wrapped}

pub size-negated : (z : ℤ) → nat_abs (neg_ℤ z) ≡ nat_abs z
size-negated (pos zero) = refl
size-negated (pos (suc n)) = refl
size-negated (negsuc n) = refl

pub size-of-quotient : (x y : ℤ) → nat_abs (quot_z x y) ≤ nat_abs x
size-of-quotient (pos a) (pos b) = div-le_self a b
size-of-quotient (pos a) (negsuc b) = omega (arith, size-negated (pos (a / suc b)), div-le_self a (suc b))
size-of-quotient (negsuc a) (pos b) = omega (arith, size-negated (pos (suc a / b)), div-le_self (suc a) b)
size-of-quotient (negsuc a) (negsuc b) = div-le_self (suc a) (suc b)

mag-negated : (k : ℕ) → mag (neg_ℤ (pos k)) ≤ k - 1
mag-negated zero = omega arith
mag-negated (suc k) = omega arith

module _ (w : Width) where
  pub positive-bits : (b : ℤ) → SFits w b → (b ≡ pos 0 → ⊥) → 0 < of_z w b
  positive-bits (pos zero) f h = absurd (h refl)
  positive-bits (pos (suc n)) f h = omega arith
  positive-bits (negsuc n) f h = omega (arith, f.sfits, pow-bits w)

  -- every quotient fits but that by −1
  pub quotient_fits : (a b : ℤ) → SFits w a → (b ≡ negsuc 0 → ⊥) → mag (quot_z a b) < 2 ^ hbits w
  quotient_fits (pos a) (pos b) f h = omega (arith, div-le_self a b, f.sfits)
  quotient_fits (pos a) (negsuc b) f h = omega (arith, mag-negated (a / suc b), div-le_self a (suc b), f.sfits)
  quotient_fits (negsuc a) (pos b) f h = omega (arith, mag-negated (suc a / b), div-le_self (suc a) b, f.sfits)
  quotient_fits (negsuc a) (negsuc zero) f h = absurd (h refl)
  quotient_fits (negsuc a) (negsuc (suc b)) f h =
      omega (arith, div-lt_self {n = suc a} {k = suc (suc b)} (omega arith) (omega arith), f.sfits)

  -- the bits of the negative: those of the least number are its own
  negated-bits : (a : ℤ) → SFits w a → (2 ^ bits w - of_z w a) % 2 ^ bits w ≡ residue (2 ^ bits w) (neg_ℤ a)
  negated-bits (pos zero) f = ap (λ (u : ℕ). u % 2 ^ bits w) (omega arith) ∙ mod_self (2 ^ bits w) ∙ sym (zero-mod (2 ^ bits w))
  negated-bits (pos (suc n)) f =
      let small : suc n < 2 ^ bits w = half_full w f.sfits in
      let same : n % 2 ^ bits w ≡ n = mod-eq_of_lt (omega arith) in
      mod-eq_of_lt (omega arith) ∙ ap (λ (u : ℕ). 2 ^ bits w - suc u) (sym same)
  negated-bits (negsuc n) f =
      let small : suc n < 2 ^ bits w = size-of-fitting w (negsuc n) f in
      ap (λ (u : ℕ). u % 2 ^ bits w) (omega arith)

module _ (w : Width) (a : ℤ) (fa : SFits w a) where
  -- an operation of the operands as the machine reads them
  pub on-operands : (b : ℤ) → SFits w b → {A : Type 0} (g : ℤ → ℤ → A) → g (to_z w (of_z w a)) (to_z w (of_z w b)) ≡ g a b
  on-operands b fb g = ap (λ (y : ℤ). g y (to_z w (of_z w b))) (to_z-of_z fa) ∙ ap (g a) (to_z-of_z fb)

  pub negate-reads : {r : ℤ} → r ≡ int_wrapping_neg w (to_z w (of_z w a)) → to_z w (of_z w r) ≡ wrapped w (neg_ℤ a)
  unfolding wrapped
  negate-reads e = reads-wrapped w (neg_ℤ a) (e ∙ ap (int_wrapping_neg w) (to_z-of_z fa) ∙ ap (to_z w) (negated-bits w a fa))

  -- by −1 too: the size of a quotient is no more than the dividend's
  module _ (b : ℤ) (fb : SFits w b) where
    pub quotient-reads : {r : ℤ} → r ≡ int_wrapping_div w (to_z w (of_z w a)) (to_z w (of_z w b))
        → to_z w (of_z w r) ≡ wrapped w (quot_z a b)
    quotient-reads e =
        reads-wrapped w (quot_z a b)
        (e ∙ on-operands b fb (int_wrapping_div w)
        ∙ reads-sized w (quot_z a b) (lt_of_le_of_lt (size-of-quotient a b) (size-of-fitting w a fa)))

    pub remainder-reads : {r : ℤ} → r ≡ rem_z (to_z w (of_z w a)) (to_z w (of_z w b)) → to_z w (of_z w r) ≡ wrapped w (rem_z a b)
    remainder-reads e =
        ap (λ (z : ℤ). to_z w (of_z w z)) (e ∙ on-operands b fb rem_z)
        ∙ reads-sized w (rem_z a b) (size-of-fitting w (rem_z a b) (sfits_le (mag_rem a b) fa))
