-- Patterns of 32 bits: NaN's, and what value the three fields of another one make. Assumes nothing.
use Rattle.std.proofs.Common.{◌≡◌, ℕ, zero, suc, ◌+◌, ◌-◌, ◌*◌, ◌/◌, ◌%◌, ◌^◌, Bool, true, false, cond, T, eqb, leb, ◌⊎◌}
use Rattle.std.proofs.Common.{sym, refl, ap, ◌∙◌, subst, inl, inr, arith, ne_eqb, eqb-true}
use mathlib.Core.Path.{subst⁻¹}
use borrow.Author.Tests.{eqb-false}
use lib.Ieee.{Float, nan, inf, binary32, fits, odd, of_bits, of_fields, to_bits}
use lib.Ieee.Bits.{of_bits-to_bits}
use lib.Ieee.Exact.{HasValue, odd_sign}
use lib.Ieee.Scale.{finite}
use Rattle.float.specs.Decode.{IsFinite}

-- Document 01: "A NaN result is stored as hex 7FC00000."
pub nan_pattern : to_bits binary32 nan ≡ 2143289344
unfolding to_bits
nan_pattern = refl

-- ---- the fields of a pattern b
pub read_back : (x : Float) (b : ℕ) → fits binary32 x ≡ true → b ≡ to_bits binary32 x → of_bits binary32 b ≡ x
read_back x b f e = ap (of_bits binary32) e ∙ of_bits-to_bits binary32 x (subst T (sym f) tt)

pub finite-same : {x y : Float} {s : Bool} {t k : ℕ} → y ≡ x → IsFinite y s t k → IsFinite x s t k
finite-same {x} {y} {s} {t} {k} e d = subst (λ (z : Float). IsFinite z s t k) e d

module _ (b : ℕ) where
  pub field-inf : b % 2147483648 / 8388608 ≡ 255 → b % 8388608 ≡ 0 → of_bits binary32 b ≡ inf (leb 2147483648 b)
  unfolding of_bits of_fields
  field-inf p q = ap (λ (x : ℕ). of_fields binary32 (leb 2147483648 b) x (b % 8388608)) p
      ∙ ap (λ (t : ℕ). of_fields binary32 (leb 2147483648 b) 255 t) q

  pub field-nan : b % 2147483648 / 8388608 ≡ 255 → (b % 8388608 ≡ 0 → ⊥) → of_bits binary32 b ≡ nan
  unfolding of_bits of_fields
  field-nan p q =
      ap (λ (x : ℕ). of_fields binary32 (leb 2147483648 b) x (b % 8388608)) p
      ∙ ap (λ (t : Bool). cond t (inf (leb 2147483648 b)) nan) (ne_eqb _ _ q)

  pub field-subnormal : b % 2147483648 / 8388608 ≡ 0 → IsFinite (of_bits binary32 b) (leb 2147483648 b) (b % 8388608) 0
  unfolding of_bits of_fields
  field-subnormal p = record {
    value = subst⁻¹ (λ (x : ℕ).
        HasValue (of_fields binary32 (leb 2147483648 b) x (b % 8388608)) (leb 2147483648 b) (b % 8388608 * 1) (2 ^ 149)) p
        (odd_sign 24 (leb 2147483648 b) (b % 8388608) 0 149);
    short = omega arith;
    near = omega arith;
    full = λ h. omega arith;
  }

  normal : (s : Bool) (n t : ℕ) → (n ≡ 255 → ⊥) → (n ≡ 0 → ⊥)
      → HasValue (of_fields binary32 s n t) s ((t + 8388608) * 2 ^ (n - 1)) (2 ^ 149)
  unfolding of_fields
  normal s zero t h k = absurd (k refl)
  normal s (suc n) t h k =
      subst⁻¹ (λ (d : Bool).
      HasValue (cond d (cond (eqb t 0) (inf s) nan) (odd 24 s (8388608 + t) n 149)) s ((t + 8388608) * 2 ^ (suc n - 1)) (2 ^ 149))
      (ne_eqb (suc n) 255 h)
      (subst (λ (a : ℕ). HasValue (odd 24 s (8388608 + t) n 149) s a (2 ^ 149))
      (ap (λ (a : ℕ). a * 2 ^ n) (omega arith) ∙ ap (λ (j : ℕ). (t + 8388608) * 2 ^ j) (omega arith)) (odd_sign 24 s (8388608 + t) n 149))

  pub field-normal : (b % 2147483648 / 8388608 ≡ 255 → ⊥) → (b % 2147483648 / 8388608 ≡ 0 → ⊥)
      → IsFinite (of_bits binary32 b) (leb 2147483648 b) (b % 8388608 + 8388608) (b % 2147483648 / 8388608 - 1)
  unfolding of_bits
  field-normal h k = record {
    value = normal (leb 2147483648 b) (b % 2147483648 / 8388608) (b % 8388608) h k;
    short = omega arith;
    near = omega arith;
    full = λ l. omega arith;
  }

-- ---- every finite value has such parts
eq-or-ne : (a b : ℕ) → (a ≡ b) ⊎ (a ≡ b → ⊥)
eq-or-ne a b = by (eqb a b) refl
  where
    by : (t : Bool) → eqb a b ≡ t → (a ≡ b) ⊎ (a ≡ b → ⊥)
    by true e = inl (eqb-true a b e)
    by false e = inr (eqb-false a b e)

abbrev pub Parts : Float → Type 0
Parts x = (s : Bool) × (t : ℕ) × (k : ℕ) × IsFinite x s t k

pub parts : (x : Float) → T (fits binary32 x) → T (finite x) → Parts x
parts x f h = subst Parts (of_bits-to_bits binary32 x f)
    (by (to_bits binary32 x) (subst⁻¹ (λ (y : Float). T (finite y)) (of_bits-to_bits binary32 x f) h))
  where
    by : (b : ℕ) → T (finite (of_bits binary32 b)) → Parts (of_bits binary32 b)
    by b h = elim (eq-or-ne (b % 2147483648 / 8388608) 255) [
      | inl e ↦ elim (eq-or-ne (b % 8388608) 0) [
        | inl z ↦ absurd (subst (λ (y : Float). T (finite y)) (field-inf b e z) h)
        | inr z ↦ absurd (subst (λ (y : Float). T (finite y)) (field-nan b e z) h)
      ]
      | inr n ↦ elim (eq-or-ne (b % 2147483648 / 8388608) 0) [
        | inl z ↦ (leb 2147483648 b, b % 8388608, 0, field-subnormal b z)
        | inr z ↦ (leb 2147483648 b, b % 8388608 + 8388608, b % 2147483648 / 8388608 - 1, field-normal b n z)
      ]
    ]
