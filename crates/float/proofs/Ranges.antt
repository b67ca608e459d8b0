-- The range of a whole type: which sizes with a sign are in it. Assumes nothing.
use Rattle.std.specs.Prelude.{None, Some}
use Rattle.std.proofs.Common.{◌≡◌, ℕ, zero, suc, ◌+◌, ◌-◌, ◌<◌, ◌≤◌, Bool, true, false, cond, leb, ℤ, pos, negsuc, ◌-ℤ◌, neg_ℤ, sym, refl}
use Rattle.std.proofs.Common.{ap, ◌∙◌, arith, to_z-of_z, w32, SFits, to_z, of_z, le-leb, leb-true}
use mathlib.Core.Path.{subst⁻¹}
use borrow.Author.Tests.{lt-leb}
use lib.IntN.{+ℤ_idl}
use lib.Signed.{mag}
use mir.Facts.{to_z_pos}
use Rattle.float.specs.Whole.{in_range, signed, within}
use Rattle.float.proofs.Tests.{and-true}

in-range-mag : (max : ℕ) (z : ℤ) → in_range max z ≡ leb (mag z) max
in-range-mag max (pos n) = refl
in-range-mag max (negsuc n) = and-true (leb n max)

mag-negative : (q : ℕ) → mag (neg_ℤ (pos q)) ≡ q - 1
mag-negative zero = refl
mag-negative (suc n) = omega arith

module _ (max : ℕ) (z : ℤ) where
  pub is_within : mag z ≤ max → Some z ≡ within max z
  is_within h = ap (λ (b : Bool). cond b (Some z) None) (sym (in-range-mag max z ∙ le-leb (mag z) max h))

  pub is-beyond : max < mag z → None ≡ within max z
  is-beyond h = ap (λ (b : Bool). cond b (Some z) None) (sym (in-range-mag max z ∙ lt-leb (mag z) max h))

  -- what a conversion answers is in the range
  pub within-mag : {y : ℤ} → Some y ≡ within max z → mag y ≤ max
  within-mag {y} e = by (in_range max z) refl
    where
      by : (b : Bool) → in_range max z ≡ b → mag y ≤ max
      by true r =
          let same : y ≡ z = cc in
          subst⁻¹ (λ (x : ℤ). mag x ≤ max) same (leb-true (mag z) max (sym (in-range-mag max z) ∙ r))
      by false r = let clash : ◌≡◌ {A = ℕ} 0 1 = cc in omega arith

-- ---- a size with its sign, as an i32
module _ (s : Bool) (q max : ℕ) where
  pub beyond-negative : s ≡ true → max + 1 < q → None ≡ within max (signed s q)
  beyond-negative e h =
      is-beyond max (neg_ℤ (pos q)) (subst⁻¹ (λ (n : ℕ). max < n) (mag-negative q) (omega arith))
      ∙ ap (λ (b : Bool). within max (signed b q)) (sym e)

  pub beyond-positive : s ≡ false → max < q → None ≡ within max (signed s q)
  beyond-positive e h = is-beyond max (pos q) h ∙ ap (λ (b : Bool). within max (signed b q)) (sym e)

pub too_large : (s : Bool) (q max : ℕ) → max + 1 < q → None ≡ within max (signed s q)
too_large true q max h = beyond-negative true q max refl h
too_large false q max h = beyond-positive false q max refl (omega arith)

module _ (q : ℕ) (small : q ≤ 65536) where
  negated : pos 0 -ℤ to_z w32 q ≡ neg_ℤ (pos q)
  negated = ap (λ (y : ℤ). pos 0 -ℤ y) (to_z_pos w32 {n = q} (omega arith)) ∙ +ℤ_idl (neg_ℤ (pos q))

  pub negated_fits : SFits w32 (pos 0 -ℤ to_z w32 q)
  negated_fits = subst⁻¹ (SFits w32) negated (record { sfits = subst⁻¹ (λ (n : ℕ). n < 2147483648) (mag-negative q) (omega arith) })

  pub is_negative : (s : Bool) (max : ℕ) → s ≡ true → q ≤ max + 1 → Some (to_z w32 (of_z w32 (pos 0 -ℤ to_z w32 q)))
      ≡ within max (signed s q)
  is_negative s max e h =
      ap Some (to_z-of_z negated_fits ∙ negated) ∙ is_within max (signed true q) (subst⁻¹ (λ (n : ℕ). n ≤ max) (mag-negative q) (omega
      arith))
      ∙ ap (λ (b : Bool). within max (signed b q)) (sym e)

  pub is_positive : (s : Bool) (max : ℕ) → s ≡ false → q ≤ max → Some (to_z w32 q) ≡ within max (signed s q)
  is_positive s max e h = ap Some (to_z_pos w32 {n = q} (omega arith)) ∙ is_within max (pos q) h
      ∙ ap (λ (b : Bool). within max (signed b q)) (sym e)
