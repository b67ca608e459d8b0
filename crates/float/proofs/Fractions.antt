-- Whole numbers out of a fraction depend on the fraction alone; and those out of a number times one power of two over another. Assumes
-- nothing.
use Rattle.std.proofs.Common.{◌≡◌, ℕ, zero, suc, ◌+◌, ◌-◌, ◌*◌, ◌/◌, ◌%◌, ◌^◌, ◌<◌, ◌≤◌, Bool, true, false, not, sym, refl, ap, ◌∙◌, subst}
use Rattle.std.proofs.Common.{le_trans, le_of_eq, le_refl, lt_of_lt_of_le, mul-le-mul_right, mul_assoc, mul_comm, div-lt_iff_lt-mul}
use Rattle.std.proofs.Common.{add-mul, le_antisymm, pow-suc, mul-add, mul_right_comm, le_of_mul-le-mul_right, mul_left_comm, arith, pow_pos}
use Rattle.std.proofs.Common.{pow_mono, pow-add}
use mathlib.Core.Path.{subst⁻¹}
use native.Mathlib.Nat.{add-div_right, div-div-eq-div-mul, div-eq_of_lt}
use native.Mathlib.Nat.{mul-div-mul_left}
use lib.Ieee.Nearest.{div_mono, div_same}
use Rattle.float.specs.Whole.{directed, half_away, whole_size}
use Rattle.float.specs.declared.whole.Rounding.{Rounding}
use Rattle.float.specs.declared.whole.Rounding.TheVariants.{TowardZero, HalfAway, Down, Up}

-- Document 01: "ROUND goes half away from zero": k + 1/2 becomes k + 1.
pub half-away : (k : ℕ) → half_away (2 * k + 1) 2 ≡ k + 1
half-away k = omega arith

-- ---- n / d rounds up to at most k exactly where n is at most k * d
up_le : (n d k : ℕ) → 0 < d → n ≤ k * d → directed true n d ≤ k
up_le n d k h l = under
    ((div-lt_iff_lt-mul {k = d} {x = n + (d - 1)} {y = k + 1} h).1 (subst⁻¹ (λ (a : ℕ). n + (d - 1) < a) (add-mul k 1 d) (omega arith)))
  where
    under : directed true n d < k + 1 → directed true n d ≤ k
    under z = omega arith

le_up : (n d k : ℕ) → 0 < d → directed true n d ≤ k → n ≤ k * d
le_up n d k h l = omega (
  arith,
  subst (λ (a : ℕ). n + (d - 1) < a) (add-mul k 1 d) ((div-lt_iff_lt-mul {k = d} {x = n + (d - 1)} {y = k + 1} h).0 (omega
      arith)),
)

-- ---- n / d is a / c
pub fraction-le : (n d a c k : ℕ) → 0 < c → n * c ≡ a * d → a ≤ k * c → n ≤ k * d
fraction-le n d a c k hc e h =
    le_of_mul-le-mul_right (le_trans (le_of_eq e) (le_trans (mul-le-mul_right d h) (le_of_eq (mul_right_comm k c d)))) hc

up-mono : (n d a c : ℕ) → 0 < d → 0 < c → n * c ≡ a * d → directed true n d ≤ directed true a c
up-mono n d a c hd hc e =
    up_le n d (directed true a c) hd
    (fraction-le n d a c (directed true a c) hc e (le_up a c (directed true a c) hc (le_refl (directed true a c))))

up_same : (n d a c : ℕ) → 0 < d → 0 < c → n * c ≡ a * d → directed true n d ≡ directed true a c
up_same n d a c hd hc e = le_antisymm (up-mono n d a c hd hc e) (up-mono a c n d hc hd (sym e))

half-same : (n d a c : ℕ) → 0 < d → 0 < c → n * c ≡ a * d → half_away n d ≡ half_away a c
half-same n d a c hd hc e =
    div_same (2 * n + d) (2 * d) (2 * a + c) (2 * c) (omega arith) (omega arith)
    (expand n d c ∙ ap (λ (x : ℕ). 2 * (2 * x) + 2 * (d * c)) e ∙ ap (λ (x : ℕ). 2 * (2 * (a * d)) + 2 * x) (mul_comm d c)
    ∙ sym (expand a c d))
  where
    expand : (n d c : ℕ) → (2 * n + d) * (2 * c) ≡ 2 * (2 * (n * c)) + 2 * (d * c)
    expand n d c =
        mul_left_comm (2 * n + d) 2 c ∙ ap (λ (x : ℕ). 2 * x) (add-mul (2 * n) d c ∙ ap (λ (x : ℕ). x + d * c) (mul_assoc 2 n c))
        ∙ mul-add 2 (2 * (n * c)) (d * c)

directed-same : (up : Bool) (n d a c : ℕ) → 0 < d → 0 < c → n * c ≡ a * d → directed up n d ≡ directed up a c
directed-same true n d a c hd hc e = up_same n d a c hd hc e
directed-same false n d a c hd hc e = div_same n d a c hd hc e

pub whole_same : (r : Rounding) (s : Bool) (n d a c : ℕ) → 0 < d → 0 < c → n * c ≡ a * d → whole_size r s n d ≡ whole_size r s a c
whole_same TowardZero s n d a c hd hc e = directed-same false n d a c hd hc e
whole_same HalfAway s n d a c hd hc e = half-same n d a c hd hc e
whole_same Down s n d a c hd hc e = directed-same s n d a c hd hc e
whole_same Up s n d a c hd hc e = directed-same (not s) n d a c hd hc e

-- ---- no rounding goes below the cut quotient
module _ (n d : ℕ) (h : 0 < d) where
  directed-least : (up : Bool) → n / d ≤ directed up n d
  directed-least true = div_mono n d (n + (d - 1)) d h h (mul-le-mul_right d (omega arith))
  directed-least false = le_refl (n / d)

  pub cut-least : (r : Rounding) (s : Bool) → n / d ≤ whole_size r s n d
  cut-least TowardZero s = directed-least false
  cut-least HalfAway s =
      div_mono n d (2 * n + d) (2 * d) h (omega arith)
      (le_trans (le_of_eq (mul_left_comm n 2 d ∙ sym (mul_assoc 2 n d))) (mul-le-mul_right d (omega arith)))
  cut-least Down s = directed-least s
  cut-least Up s = directed-least (not s)

directed-one : (up : Bool) (n : ℕ) → directed up n 1 ≡ n
directed-one true n = omega arith
directed-one false n = omega arith

whole-one : (r : Rounding) (s : Bool) (n : ℕ) → whole_size r s n 1 ≡ n
whole-one TowardZero s n = directed-one false n
whole-one HalfAway s n = omega arith
whole-one Down s n = directed-one s n
whole-one Up s n = directed-one (not s) n

-- ---- a * 2 ^ k / 2 ^ l
pub power-split : (k l : ℕ) → l ≤ k → 2 ^ k ≡ 2 ^ (k - l) * 2 ^ l
power-split k l h = ap (λ (n : ℕ). 2 ^ n) (omega arith) ∙ pow-add 2 (k - l) l

module _ (r : Rounding) (s : Bool) (a k l : ℕ) where
  pub whole-shifted-left : l ≤ k → a * 2 ^ (k - l) ≡ whole_size r s (a * 2 ^ k) (2 ^ l)
  whole-shifted-left h =
      sym (whole_same r s (a * 2 ^ k) (2 ^ l) (a * 2 ^ (k - l)) 1 (pow_pos l) (omega arith)
      (omega (arith, ap (λ (n : ℕ). a * n) (power-split k l h) ∙ sym (mul_assoc a (2 ^ (k - l)) (2 ^ l))))
      ∙ whole-one r s (a * 2 ^ (k - l)))

  pub whole-shifted-right : k ≤ l → whole_size r s a (2 ^ (l - k)) ≡ whole_size r s (a * 2 ^ k) (2 ^ l)
  whole-shifted-right h =
      whole_same r s a (2 ^ (l - k)) (a * 2 ^ k) (2 ^ l) (pow_pos (l - k)) (pow_pos l)
      (ap (λ (n : ℕ). a * n) (power-split l k h ∙ mul_comm (2 ^ (l - k)) (2 ^ k)) ∙ sym (mul_assoc a (2 ^ k) (2 ^ (l - k))))

-- ---- the three quotients by 2 ^ s
pub no-digit-left : (a s w : ℕ) → a < 2 ^ w → w ≤ s → 0 ≡ a / 2 ^ s
no-digit-left a s w h k = sym (div-eq_of_lt (lt_of_lt_of_le h (pow_mono k)))

-- half away by way of the quotient with one binary digit more
half-digit : (a d : ℕ) → 0 < d → a / d / 2 + a / d % 2 ≡ half_away a (d * 2)
half-digit a d h =
    up (a / d) ∙ ap (λ (n : ℕ). n / 2) (sym (add-div_right a h)) ∙ div-div-eq-div-mul (a + d) d 2
    ∙ sym (mul-div-mul_left {m = 2} (a + d) (d * 2) (omega arith)) ∙ ap (λ (n : ℕ). n / (2 * (d * 2))) (omega arith)
  where
    up : (q : ℕ) → q / 2 + q % 2 ≡ (q + 1) / 2
    up q = omega arith

pub nearest-digit : (a s : ℕ) → (s ≡ 0 → ⊥) → a / 2 ^ (s - 1) / 2 + a / 2 ^ (s - 1) % 2 ≡ half_away a (2 ^ s)
nearest-digit a zero h = absurd (h refl)
nearest-digit a (suc j) h =
    ap (λ (n : ℕ). a / 2 ^ n / 2 + a / 2 ^ n % 2) (omega arith) ∙ half-digit a (2 ^ j) (pow_pos j) ∙ ap (half_away a) (sym (pow-suc 2 j))

pub nearest-whole : (a s : ℕ) → s ≡ 0 → a ≡ half_away a (2 ^ s)
nearest-whole a s e = sym (ap (λ (n : ℕ). half_away a (2 ^ n)) e ∙ whole-one HalfAway false a)

module _ (up : Bool) (a s : ℕ) where
  pub up-zero : up ≡ true → a ≡ 0 → 0 ≡ directed up a (2 ^ s)
  up-zero e z =
      le_antisymm (omega arith) (up_le a (2 ^ s) 0 (pow_pos s) (omega arith)) ∙ ap (λ (b : Bool). directed b a (2 ^ s)) (sym e)

  pub up_more : {q : ℕ} → up ≡ true → (a ≡ 0 → ⊥) → q ≡ (a - 1) / 2 ^ s → q + 1 ≡ directed up a (2 ^ s)
  up_more e z h =
      ap (λ (n : ℕ). n + 1) h ∙ sym (ap (λ (n : ℕ). n / 2 ^ s) (omega (arith, pow_pos s)) ∙ add-div_right (a - 1) (pow_pos s))
      ∙ ap (λ (b : Bool). directed b a (2 ^ s)) (sym e)

  pub not-up : {q : ℕ} → up ≡ false → q ≡ a / 2 ^ s → q ≡ directed up a (2 ^ s)
  not-up e h = h ∙ ap (λ (b : Bool). directed b a (2 ^ s)) (sym e)
