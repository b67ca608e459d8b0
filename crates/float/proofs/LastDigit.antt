-- A root with one binary digit too many, to the nearest: `closest` rounds the digit off, and no tie occurs. Assumes nothing.
use Rattle.std.proofs.Common.{◌≡◌, ℕ, zero, suc, ◌+◌, ◌-◌, ◌*◌, ◌/◌, ◌%◌, ◌<◌, ◌≤◌, sym, ap, ◌∙◌, subst, ⊎_elim, le_trans, le_of_eq}
use Rattle.std.proofs.Common.{lt_of_lt_of_le, le_of_suc-le-suc, not-suc-le-zero, lt_of_le_of_lt, mul-le-mul_right, mul_assoc, add-mul}
use Rattle.std.proofs.Common.{eq-zero-or-pos, mul-lt-mul_of_pos_right, mul-pos, mul_left_comm, arith}
use Prim.Native.Nat.compare
use Prim.Native.Nat.{Ordering}
use Prim.Native.Nat.{compare}
use native.Mathlib.Nat.{eq_of_mul-eq-mul_right}
use native.Mathlib.Nat.{mul-mul-mul_comm}
use lib.Arith.{digits_div, digits_mod}
use lib.Ieee.{nearest}
use lib.Ieee.Nearest.{closest}
use Rattle.root.specs.Root.{IsRoot}
use Rattle.root.proofs.Squares.{root_below, square-reflects}

-- ---- the root of m * p ^ 2 is from q * p up and below (q + 1) * p
module _ (m p q r : ℕ) (hp : 0 < p) (i : IsRoot m q) (j : IsRoot (m * (p * p)) r) where
  pub root-from : q * p ≤ r
  root-from = under (square-reflects (q * p) (r + 1)
      (lt_of_le_of_lt (le_trans (le_of_eq (mul-mul-mul_comm q p q p)) (mul-le-mul_right (p * p) i.low)) j.high))
    where
      under : q * p < r + 1 → q * p ≤ r
      under h = omega arith

  pub root-to : r < q * p + p
  root-to =
      subst (λ (n : ℕ). r < n) (add-mul q 1 p ∙ ap (λ (n : ℕ). q * p + n) (omega arith))
      (root_below ((q + 1) * p) j
      (lt_of_lt_of_le (mul-lt-mul_of_pos_right i.high (mul-pos hp hp)) (le_of_eq (sym (mul-mul-mul_comm (q + 1) p (q + 1) p)))))

-- ---- `closest` of h whole ones and a rest
compare-lt : (a b : ℕ) → a < b → compare a b ≡ Ordering.lt
compare-lt a zero h = absurd (not-suc-le-zero h)
compare-lt zero (suc b) h = compare.zero-suc b
compare-lt (suc a) (suc b) h = compare.suc-suc a b ∙ compare-lt a b (le_of_suc-le-suc h)

compare-gt : (a b : ℕ) → b < a → compare a b ≡ Ordering.gt
compare-gt zero b h = absurd (not-suc-le-zero h)
compare-gt (suc a) zero h = compare.suc-zero a
compare-gt (suc a) (suc b) h = compare.suc-suc a b ∙ compare-gt a b (le_of_suc-le-suc h)

module _ (h rest d : ℕ) (less : rest < d) where
  closest-is : closest (h * d + rest) d ≡ nearest h (compare (rest * 2) d)
  closest-is =
      ap (λ (n : ℕ). nearest n (compare ((h * d + rest) % d * 2) d)) (digits_div h {m = d} {r = rest} less)
      ∙ ap (λ (n : ℕ). nearest h (compare (n * 2) d)) (digits_mod h {m = d} {r = rest} less)

  closest-down : rest * 2 < d → closest (h * d + rest) d ≡ h
  closest-down l = closest-is ∙ ap (nearest h) (compare-lt (rest * 2) d l)

  closest-up : d < rest * 2 → closest (h * d + rest) d ≡ suc h
  closest-up l = closest-is ∙ ap (nearest h) (compare-gt (rest * 2) d l)

pub odd-square : (q : ℕ) → q ≡ 2 * (q / 2) + 1 → q * q ≡ 2 * (q / 2 * q + q / 2) + 1
odd-square q e = ap (λ (n : ℕ). n * q) e ∙ add-mul (2 * (q / 2)) 1 q ∙ omega (arith, mul_assoc 2 (q / 2) q)

-- ---- (2 * r + s) / (4 * p) is (q + 1) / 2 to the nearest; s is 0 only where r is exact, so that there is no tie
module _ (m p q r s : ℕ) (hp : 0 < p) (i : IsRoot m q) (j : IsRoot (m * (p * p)) r) (hs : s ≤ 1) (ex : s ≡ 0
    → r * r ≡ m * (p * p)) (even : m % 2 ≡ 0) where
  from : q * p ≤ r
  from = root-from m p q r hp i j

  to : r < q * p + p
  to = root-to m p q r hp i j

  four : (h : ℕ) → h * (2 * (2 * p)) ≡ 4 * (h * p)
  four h = mul_left_comm h 2 (2 * p) ∙ ap (λ (n : ℕ). 2 * n) (mul_left_comm h 2 p) ∙ omega arith

  even-root : q ≡ 2 * (q / 2) → closest (2 * r + s) (2 * (2 * p)) ≡ (q + 1) / 2
  even-root e =
      ap (λ (n : ℕ). closest n (2 * (2 * p))) split
      ∙ closest-down (q / 2) (2 * (r - q * p) + s) (2 * (2 * p)) (omega (arith, from, to)) (omega (arith, from, to))
      ∙ omega arith
    where
      split : 2 * r + s ≡ q / 2 * (2 * (2 * p)) + (2 * (r - q * p) + s)
      split = omega (arith, from, to, four (q / 2), ap (λ (n : ℕ). n * p) e ∙ mul_assoc 2 (q / 2) p)

  -- an odd q is no exact root of an even m
  not-exact : q ≡ 2 * (q / 2) + 1 → 2 * (r - q * p) + s ≡ 0 → ⊥
  not-exact e z =
      let exact : q * q ≡ m = eq_of_mul-eq-mul_right (p * p) (mul-pos hp hp) (q * q) m (sym (mul-mul-mul_comm q p q p)
      ∙ ap (λ (n : ℕ). n * n) (same from z) ∙ ex (none z)) in
      omega (arith, exact, odd-square q e, even)
    where
      same : q * p ≤ r → 2 * (r - q * p) + s ≡ 0 → q * p ≡ r
      same f z = omega arith

      none : 2 * (r - q * p) + s ≡ 0 → s ≡ 0
      none z = omega arith

  odd-root : q ≡ 2 * (q / 2) + 1 → closest (2 * r + s) (2 * (2 * p)) ≡ (q + 1) / 2
  odd-root e =
      ap (λ (n : ℕ). closest n (2 * (2 * p))) split
      ∙ closest-up (q / 2) (2 * p + (2 * (r - q * p) + s)) (2 * (2 * p)) (omega (arith, from, to)) (omega (arith, over)) ∙ omega arith
    where
      over : 0 < 2 * (r - q * p) + s
      over = ⊎_elim (λ (z : 2 * (r - q * p) + s ≡ 0). absurd (not-exact e z)) (λ (z : 0 < 2 * (r - q * p) + s). z)
          (eq-zero-or-pos (2 * (r - q * p) + s))

      split : 2 * r + s ≡ q / 2 * (2 * (2 * p)) + (2 * p + (2 * (r - q * p) + s))
      split = omega (
        arith,
        from,
        to,
        four (q / 2),
        ap (λ (n : ℕ). n * p) e ∙ add-mul (2 * (q / 2)) 1 p
            ∙ ap (λ (n : ℕ). n + 1 * p) (mul_assoc 2 (q / 2) p),
      )

  pub last-digit : closest (2 * r + s) (2 * (2 * p)) ≡ (q + 1) / 2
  last-digit = ⊎_elim (λ (z : q % 2 ≡ 0). even-root (omega arith)) (λ (z : 0 < q % 2). odd-root (omega arith)) (eq-zero-or-pos (q % 2))
