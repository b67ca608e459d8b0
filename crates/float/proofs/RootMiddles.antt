-- In units of the least value: the middle of the rounded root and a value below it lies below the root, and with a value above it above.
-- Assumes nothing.
use Rattle.std.proofs.Common.{◌≡◌, ℕ, ◌+◌, ◌-◌, ◌*◌, ◌%◌, ◌^◌, ◌<◌, ◌≤◌, ◌⊎◌, sym, ap, ◌∙◌, subst, inl, inr, le_trans, le_of_eq}
use Rattle.std.proofs.Common.{lt_of_lt_of_le, lt_of_le_of_lt, le_of_lt, mul-le-mul_right, mul_assoc, mul_comm, add-mul, mul-le-mul}
use Rattle.std.proofs.Common.{lt_of_mul-lt-mul_right, eq-or-lt_of_le, mul-lt-mul_of_pos_right, mul-pos, mul_left_comm, arith, pow_mono}
use Rattle.std.proofs.Common.{pow-add}
use mathlib.Core.Path.{subst⁻¹}
use native.Mathlib.Nat.{mul-mul-mul_comm}
use Rattle.root.specs.Root.{IsRoot}
use Rattle.root.proofs.Squares.{square-mono}
use Rattle.float.proofs.Fractions.{power-split}
use Rattle.float.proofs.LastDigit.{odd-square}
use Rattle.float.proofs.Tests.{lt-or-le}

-- ---- A binary32 value of y units, beside c * (2 * p) units with p = 2 ^ g: it is a multiple of 2 * p, or it has fewer than 24 digits
-- above p.
abbrev pub OnGrid : ℕ → ℕ → Type 0
OnGrid y p = ((h : ℕ) × (y ≡ h * (2 * p))) ⊎ (y ≤ 16777215 * p)

pub on-grid : (t k g : ℕ) → t < 16777216 → OnGrid (t * 2 ^ k) (2 ^ g)
on-grid t k g h = elim (lt-or-le g k) [
  | inl l ↦ inl (t * 2 ^ (k - (1 + g)), multiple (omega arith))
  | inr l ↦ inr (mul-le-mul {n₂ = 16777215} {m₂ = 2 ^ g} (omega arith) (pow_mono l))
]
  where
    multiple : 1 + g ≤ k → t * 2 ^ k ≡ t * 2 ^ (k - (1 + g)) * (2 * 2 ^ g)
    multiple l =
        ap (λ (n : ℕ). t * n) (power-split k (1 + g) l) ∙ sym (mul_assoc t (2 ^ (k - (1 + g))) (2 ^ (1 + g)))
        ∙ ap (λ (n : ℕ). t * 2 ^ (k - (1 + g)) * n) (pow-add 2 1 g)

-- h < c, in multiples of d
next_multiple : (h c d : ℕ) → h * d < c * d → h * d + d ≤ c * d
next_multiple h c d l = le_trans (le_of_eq (omega (arith, add-mul h 1 d))) (mul-le-mul_right d (more (lt_of_mul-lt-mul_right d l)))
  where
    more : h < c → h + 1 ≤ c
    more l = omega arith

module _ (c p y : ℕ) (from : 8388608 ≤ c) (grid : OnGrid y p) where
  enough : 16777216 * p ≤ c * (2 * p)
  enough = omega (arith, mul-le-mul_right (2 * p) from)

  gap-above : c * (2 * p) < y → c * (2 * p) + 2 * p ≤ y
  gap-above l = elim grid [
    | inl m ↦ subst⁻¹ (λ (n : ℕ). c * (2 * p) + 2 * p ≤ n) m.1
        (next_multiple c m.0 (2 * p) (subst (λ (n : ℕ). c * (2 * p) < n) m.1 l))
    | inr s ↦ omega (arith, enough)
  ]

  -- just below a power of two the values lie twice as close
  gap_below : y < c * (2 * p) → (y + 2 * p ≤ c * (2 * p)) ⊎ ((c ≡ 8388608) × (y + p ≤ c * (2 * p)))
  gap_below l = elim grid [
    | inl m ↦ inl (subst⁻¹ (λ (n : ℕ). n + 2 * p ≤ c * (2 * p)) m.1
        (next_multiple m.0 c (2 * p) (subst (λ (n : ℕ). n < c * (2 * p)) m.1 l)))
    | inr s ↦ elim (eq-or-lt_of_le from) [
      | inl e ↦ inr (sym e, omega (arith, enough))
      | inr m ↦ inl (omega (arith, mul-le-mul_right (2 * p) m, add-mul 8388608 1 (2 * p)))
    ]
  ]

-- ---- m is the even radicand, q its whole root, and 2 * c the even one of q and q + 1: the root lies above 2 * c - 1, which is a, and
-- below 2 * c + 1
module _ (m q c a : ℕ) (i : IsRoot m q) (even : m % 2 ≡ 0) (near : (q ≤ 2 * c) × (2 * c ≤ q + 1)) (before : 2 * c ≡ a + 1) where
  less-square : a < q → a * a < q * q
  less-square l = lt_of_le_of_lt (mul-le-mul_right a (le_of_lt l))
      (subst (λ (n : ℕ). n < q * q) (mul_comm a q) (mul-lt-mul_of_pos_right l (omega arith)))

  middle-under : a * a < m
  middle-under = elim (lt-or-le a q) [
    | inl l ↦ lt_of_lt_of_le (less-square l) i.low
    | inr h ↦ let same : q ≡ a = omega arith in subst (λ (n : ℕ). n * n < m) same (omega (arith, i.low, odd-square q (omega arith), even))
  ]

  middle-over : m < (2 * c + 1) * (2 * c + 1)
  middle-over = lt_of_lt_of_le i.high (square-mono (omega arith))

-- ---- a sum s of two values against twice the root of m * p ^ 2, by a multiple w * p
module _ (s w p m : ℕ) (hp : 0 < p) where
  sum-under : s ≤ w * p → w * w < 4 * m → s * s < 4 * (m * (p * p))
  sum-under h l =
      lt_of_le_of_lt (square-mono h)
      (lt_of_le_of_lt (le_of_eq (mul-mul-mul_comm w p w p))
      (lt_of_lt_of_le (mul-lt-mul_of_pos_right l (mul-pos hp hp)) (le_of_eq (mul_assoc 4 m (p * p)))))

  sum_over : w * p ≤ s → 4 * m < w * w → 4 * (m * (p * p)) < s * s
  sum_over h l =
      lt_of_le_of_lt (le_of_eq (sym (mul_assoc 4 m (p * p))))
      (lt_of_lt_of_le (mul-lt-mul_of_pos_right l (mul-pos hp hp)) (le_trans (le_of_eq (sym (mul-mul-mul_comm w p w p))) (square-mono h)))

double-square : (a : ℕ) → 2 * a * (2 * a) ≡ 4 * (a * a)
double-square a = mul-mul-mul_comm 2 a 2 a

module _ (m q c p y : ℕ) (hp : 0 < p) (i : IsRoot m q) (even : m % 2 ≡ 0) (near : (q ≤ 2 * c) × (2 * c ≤ q + 1)) (from : 8388608 ≤ c)
    (least : 281474976710656 ≤ m) (grid : OnGrid y p) where
  pub units-below : y < c * (2 * p) → (c * (2 * p) + y) * (c * (2 * p) + y) < 4 * (m * (p * p))
  units-below l = elim (gap_below c p y from grid l) [
    | inl h ↦ one_apart (2 * c - 1) (omega arith) h
    | inr h ↦ sum-under (c * (2 * p) + y) 33554431 p m hp (omega (arith, h.1, ap (λ (n : ℕ). n * (2 * p)) h.0)) (omega arith)
  ]
    where
      one_apart : (a : ℕ) → 2 * c ≡ a + 1 → y + 2 * p ≤ c * (2 * p) → (c * (2 * p) + y) * (c * (2 * p) + y) < 4 * (m * (p * p))
      one_apart a e h =
          sum-under (c * (2 * p) + y) (2 * a) p m hp
          (omega (arith, mul_left_comm c 2 p, mul_assoc 2 c p, ap (λ (n : ℕ). n * p) e, add-mul a 1 p, mul_assoc 2 a p))
          (omega (arith, double-square a, middle-under m q c a i even near e))

  pub units-above : c * (2 * p) < y → 4 * (m * (p * p)) < (c * (2 * p) + y) * (c * (2 * p) + y)
  units-above l =
      sum_over (c * (2 * p) + y) (2 * (2 * c + 1)) p m hp
      (omega (arith, gap-above c p y from grid l, mul_left_comm c 2 p, mul_assoc 2 (2 * c + 1) p, add-mul (2 * c) 1 p, mul_assoc 2 c p))
      (omega (arith, double-square (2 * c + 1), middle-over m q c (2 * c - 1) i even near (omega arith)))
