-- The definitions of Whole and Print at a value that equals a fraction a / c. Assumes nothing.
use Rattle.std.specs.Prelude.{None, Option, ℤ}
use Rattle.std.proofs.Common.{◌≡◌, ℕ, ◌-◌, ◌*◌, ◌%◌, ◌^◌, ◌<◌, ◌≤◌, Bool, true, false, cond, not, ◌&&◌, eqb, ltb, sym, refl, ap, ◌∙◌, subst}
use Rattle.std.proofs.Common.{le_trans, lt_of_lt_of_le, mul_assoc, mul-le-mul, le-div_iff_mul-le, arith, pow_pos, pow_mono, shl_exact}
use Rattle.std.proofs.Common.{le-ltb, lt-ltb, ne_eqb}
use lib.Ieee.{Float, nan, inf, fin, down, up}
use lib.Ieee.Exact.{HasValue}
use lib.Ieee.Fits.{down_pos, up_pos}
use Rattle.float.specs.Decode.{IsDecoded, IsFinite}
use Rattle.float.specs.Print.{printed_fraction, printed_of}
use Rattle.float.specs.Whole.{half_away, signed, whole_of, whole_size, within}
use Rattle.float.specs.declared.decode.Decoded.{Decoded}
use Rattle.float.specs.declared.decode.Decoded.TheVariants.{NotANumber, Infinite, Finite}
use Rattle.float.specs.declared.print.Printed.TheVariants as printed
use Rattle.float.specs.declared.whole.Rounding.{Rounding}
use Rattle.float.specs.declared.whole.Rounding.TheVariants.{HalfAway}
use Rattle.float.proofs.Fractions.{cut-least, fraction-le, whole_same, whole-shifted-left, whole-shifted-right}
use Rattle.float.proofs.Ranges.{too_large}
use Rattle.float.proofs.Tests.{and-true, ltb-same, zero-product}

-- ---- from a significand and an exponent to a size
module _ (a k : ℕ) {q : ℕ} where
  pub size-left : (r : Rounding) (s : Bool) → a < 2 ^ 32 → k < 158 → 149 ≤ k → q ≡ a * 2 ^ (k - 149) % 2 ^ 64
      → q ≡ whole_size r s (a * 2 ^ k) (2 ^ 149)
  size-left r s h l m e = e ∙ shl_exact 32 (k - 149) 64 h (omega arith) ∙ whole-shifted-left r s a k 149 m

  pub size-right : (r t : Rounding) (s : Bool) → r ≡ t → k ≤ 149 → q ≡ whole_size t s a (2 ^ (149 - k))
      → q ≡ whole_size r s (a * 2 ^ k) (2 ^ 149)
  size-right r t s e l h = h ∙ whole-shifted-right t s a k 149 l ∙ ap (λ (v : Rounding). whole_size v s (a * 2 ^ k) (2 ^ 149)) (sym e)

-- ---- a value x that is ±a / c
module _ (s : Bool) (a c : ℕ) (hc : 0 < c) where
  pub whole-of-value : (r : Rounding) (max : ℕ) (x : Float) → HasValue x s a c
      → within max (signed s (whole_size r s a c)) ≡ whole_of r max x
  unfolding whole_of
  whole-of-value r max nan v = absurd v
  whole-of-value r max (inf t) v = absurd v
  whole-of-value r max (fin t m e) v =
      ap (λ (b : Bool). within max (signed b (whole_size r b a c))) (sym v.0)
      ∙ ap (λ (q : ℕ). within max (signed t q)) (sym (whole_same r t (m * up e) (down e) a c (down_pos e) hc v.1))

  pub printed-of-value : (x : Float) → HasValue x s a c → printed_fraction (s && not (eqb a 0)) a c ≡ printed_of x
  unfolding printed_of
  printed-of-value nan v = absurd v
  printed-of-value (inf t) v = absurd v
  printed-of-value (fin t m e) v =
      sym (ap (λ (b : Bool). printed_fraction (b && not (eqb m 0)) (m * up e) (down e)) v.0
      ∙ ap (λ (b : Bool). printed_fraction (s && not b) (m * up e) (down e)) zeros
      ∙ ap (λ (b : Bool). cond b (printed.Overflow below) (printed.Hundredths below (half_away (100 * (m * up e)) (down e)))) overs
      ∙ ap (λ (h : ℕ). cond (ltb (4294967040 * c) a) (printed.Overflow below) (printed.Hundredths below h)) hundreds)
    where
      below : Bool
      below = s && not (eqb a 0)

      zeros : eqb m 0 ≡ eqb a 0
      zeros =
          sym (zero-product m (up e) (up_pos e)) ∙ sym (zero-product (m * up e) c hc) ∙ ap (λ (n : ℕ). eqb n 0) v.1
          ∙ zero-product a (down e) (down_pos e)

      overs : ltb (4294967040 * down e) (m * up e) ≡ ltb (4294967040 * c) a
      overs =
          ltb-same (4294967040 * down e) (m * up e) (4294967040 * c) a
          (fraction-le a c (m * up e) (down e) 4294967040 (down_pos e) (sym v.1))
          (fraction-le (m * up e) (down e) a c 4294967040 hc v.1)

      hundreds : half_away (100 * (m * up e)) (down e) ≡ half_away (100 * a) c
      hundreds =
          whole_same HalfAway s (100 * (m * up e)) (down e) (100 * a) c (down_pos e) hc
          (mul_assoc 100 (m * up e) c ∙ ap (λ (n : ℕ). 100 * n) v.1 ∙ sym (mul_assoc 100 a (down e)))

-- ---- a finite value with an exponent below 158 is at most 4294967040, and one with 158 or more is above it
module _ {x : Float} {s : Bool} {t k : ℕ} (d : IsFinite x s t k) where
  pub at_most : k < 158 → t * 2 ^ k ≤ 4294967040 * 2 ^ 149
  at_most h = mul-le-mul {n₂ = 16777215} {m₂ = 2 ^ 157} (omega (arith, d.short)) (pow_mono {j = 157} (omega arith))

  at_least : 158 ≤ k → 4294967296 * 2 ^ 149 ≤ t * 2 ^ k
  at_least h = mul-le-mul {n₁ = 8388608} {m₁ = 2 ^ 158} (d.full (omega arith)) (pow_mono h)

  pub whole-finite : (r : Rounding) (max : ℕ) {q : ℕ} {o : Option ℤ} → q ≡ whole_size r s (t * 2 ^ k) (2 ^ 149)
      → o ≡ within max (signed s q)
      → o ≡ whole_of r max x
  whole-finite r max e h = h ∙ ap (λ (n : ℕ). within max (signed s n)) e
      ∙ whole-of-value s (t * 2 ^ k) (2 ^ 149) (pow_pos 149) r max x d.value

  pub whole-large : (r : Rounding) (max : ℕ) → max < 65536 → 158 ≤ k → None ≡ whole_of r max x
  whole-large r max m h =
      whole-finite r max refl (too_large s (whole_size r s (t * 2 ^ k) (2 ^ 149)) max (lt_of_lt_of_le (omega arith) beyond))
    where
      beyond : 4294967296 ≤ whole_size r s (t * 2 ^ k) (2 ^ 149)
      beyond = le_trans ((le-div_iff_mul-le {k = 2 ^ 149} {x = 4294967296} (pow_pos 149)).1 (at_least h))
          (cut-least (t * 2 ^ k) (2 ^ 149) (pow_pos 149) r s)

  at_value : printed_fraction (s && not (eqb t 0)) (t * 2 ^ k) (2 ^ 149) ≡ printed_of x
  at_value =
      ap (λ (b : Bool). printed_fraction (s && not b) (t * 2 ^ k) (2 ^ 149)) (sym (zero-product t (2 ^ k) (pow_pos k)))
      ∙ printed-of-value s (t * 2 ^ k) (2 ^ 149) (pow_pos 149) x d.value

  printed-hundredths : (b : Bool) {h : ℕ} → k < 158 → b ≡ (s && not (eqb t 0)) → h ≡ half_away (100 * t * 2 ^ k) (2 ^ 149)
      → printed.Hundredths b h ≡ printed_of x
  printed-hundredths b l e u =
      ap (λ (n : ℕ). printed.Hundredths b n) (u ∙ ap (λ (n : ℕ). half_away n (2 ^ 149)) (mul_assoc 100 t (2 ^ k)))
      ∙ ap (λ (y : Bool). printed.Hundredths y (half_away (100 * (t * 2 ^ k)) (2 ^ 149))) e
      ∙ ap (λ (y : Bool). cond y (printed.Overflow (s && not (eqb t 0)))
      (printed.Hundredths (s && not (eqb t 0)) (half_away (100 * (t * 2 ^ k)) (2 ^ 149))))
      (sym (le-ltb _ _ (at_most l)))
      ∙ at_value

  pub printed-minus : {h : ℕ} → k < 158 → s ≡ true → h ≡ half_away (100 * t * 2 ^ k) (2 ^ 149)
      → printed.Hundredths (not (eqb t 0)) h ≡ printed_of x
  printed-minus l e u = printed-hundredths (not (eqb t 0)) l (ap (λ (b : Bool). b && not (eqb t 0)) (sym e)) u

  pub printed-plus : {h : ℕ} → k < 158 → s ≡ false → h ≡ half_away (100 * t * 2 ^ k) (2 ^ 149) → printed.Hundredths s h ≡ printed_of x
  printed-plus l e u = printed-hundredths s l (e ∙ ap (λ (b : Bool). b && not (eqb t 0)) (sym e)) u

  pub printed-overflow : 158 ≤ k → printed.Overflow s ≡ printed_of x
  printed-overflow h =
      ap printed.Overflow (sym (full-sign s t (d.full (omega arith))))
      ∙ ap (λ (y : Bool). cond y (printed.Overflow (s && not (eqb t 0)))
      (printed.Hundredths (s && not (eqb t 0)) (half_away (100 * (t * 2 ^ k)) (2 ^ 149))))
      (sym (lt-ltb _ _ (lt_of_lt_of_le more (at_least h))))
      ∙ at_value
    where
      few : (n : ℕ) → 0 < n → 4294967040 * n < 4294967296 * n
      few n p = omega arith

      more : 4294967040 * 2 ^ 149 < 4294967296 * 2 ^ 149
      more = few (2 ^ 149) (pow_pos 149)

      full-sign : (b : Bool) (t : ℕ) → 8388608 ≤ t → (b && not (eqb t 0)) ≡ b
      full-sign b t l = ap (λ (y : Bool). b && not y) (ne_eqb t 0 (omega arith)) ∙ and-true b

-- ---- what `decode` answers
module _ (x : Float) {p : Decoded} (d : IsDecoded x p) where
  pub finite : {s : Bool} {t k : ℕ} → p ≡ Finite s t k → IsFinite x s t k
  finite e = subst (IsDecoded x) e d

  pub whole_nan : (r : Rounding) (max : ℕ) → p ≡ NotANumber → None ≡ whole_of r max x
  unfolding whole_of
  whole_nan r max e = ap (whole_of r max) (sym (subst (IsDecoded x) e d))

  pub whole-infinite : (r : Rounding) (max : ℕ) (s : Bool) → p ≡ Infinite s → None ≡ whole_of r max x
  unfolding whole_of
  whole-infinite r max s e = ap (whole_of r max) (sym (subst (IsDecoded x) e d))

  pub printed-nan : p ≡ NotANumber → printed.NotANumber ≡ printed_of x
  unfolding printed_of
  printed-nan e = ap printed_of (sym (subst (IsDecoded x) e d))

  pub printed-infinite : (s : Bool) → p ≡ Infinite s → printed.Infinite s ≡ printed_of x
  unfolding printed_of
  printed-infinite s e = ap printed_of (sym (subst (IsDecoded x) e d))
