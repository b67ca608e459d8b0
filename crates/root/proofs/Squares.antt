-- Squares and whole roots: `whole_root n` is the one whole root of n. Assumes nothing.
use mathlib.Core.Path.{◌≡◌, subst, subst⁻¹}
use mathlib.Core.Bool.{Bool, true, false, not, cond}
use Prim.Native.Nat.{ℕ, zero, suc, ◌+◌, ◌*◌, ◌/◌, ◌^◌, ◌<◌, ◌≤◌}
use native.Mathlib.Omega.{arith}
use native.Mathlib.Nat.{mul-mul-mul_comm, mul-le-mul, le_antisymm, lt_of_le_of_lt, lt_of_lt_of_le, lt_of_not-le, not-le_of_lt}
use native.Mathlib.Nat.{div-lt_iff_lt-mul, pow-suc}
use lib.Dec.{T, leb, leb→le, nleb→lt}
use lib.Ieee.{size}
use lib.Ieee.Digits.{size-lt}
use Rattle.root.specs.Root.{IsRoot, root_digits, whole_root}

pub square-mono : {a b : ℕ} → a ≤ b → a * a ≤ b * b
square-mono h = mul-le-mul h h

pub square-reflects : (a b : ℕ) → a * a < b * b → a < b
square-reflects a b h = lt_of_not-le (λ (k : b ≤ a). not-le_of_lt h (square-mono k))

-- a root of n is below b where n is below b * b
pub root_below : {n r : ℕ} (b : ℕ) → IsRoot n r → n < b * b → r < b
root_below {n} {r} b i h = square-reflects r b (lt_of_le_of_lt i.low h)

pub root-unique : {n r s : ℕ} → IsRoot n r → IsRoot n s → r ≡ s
root-unique {n} {r} {s} i j = le_antisymm (under (root_below (s + 1) i j.high)) (under (root_below (r + 1) j i.high))
  where
    under : {a b : ℕ} → a < b + 1 → a ≤ b
    under h = omega arith

-- ---- `whole_root`
twice-square : (p : ℕ) → 2 * p * (2 * p) ≡ 4 * (p * p)
twice-square p = mul-mul-mul_comm 2 p 2 p

next-digit : (n p : ℕ) → IsRoot (n / 4) p → IsRoot n (cond (leb ((2 * p + 1) * (2 * p + 1)) n) (2 * p + 1) (2 * p))
next-digit n p i = by (leb ((2 * p + 1) * (2 * p + 1)) n) (leb→le ((2 * p + 1) * (2 * p + 1)) n) (nleb→lt ((2 * p + 1) * (2 * p + 1)) n)
  where
    next : 2 * (p + 1) ≡ 2 * p + 1 + 1
    next = omega arith

    over : n < (2 * p + 1 + 1) * (2 * p + 1 + 1)
    over = subst (λ (a : ℕ). n < a * a) next (omega (arith, twice-square (p + 1), i.high))

    by : (b : Bool) → (T b → (2 * p + 1) * (2 * p + 1) ≤ n) → (T (not b) → n < (2 * p + 1) * (2 * p + 1))
        → IsRoot n (cond b (2 * p + 1) (2 * p))
    by true y k = record { low = y tt; high = over }
    by false y k = record { low = omega (arith, twice-square p, i.low); high = k tt }

digits-root : (d n : ℕ) → n < 4 ^ d → IsRoot n (root_digits d n)
unfolding root_digits
digits-root zero n h = record { low = omega arith; high = omega arith }
digits-root (suc d) n h =
    next-digit n (root_digits d (n / 4))
    (digits-root d (n / 4) ((div-lt_iff_lt-mul {k = 4} {x = n} {y = 4 ^ d} (omega arith)).1 (subst (λ (a : ℕ). n < a) (pow-suc 4 d) h)))

pub root_is : (n : ℕ) → IsRoot n (whole_root n)
unfolding whole_root
root_is n = digits-root (size n) n (lt_of_lt_of_le (size-lt n) (wider (size n)))
  where
    wider : (d : ℕ) → 2 ^ d ≤ 4 ^ d
    wider zero = omega arith
    wider (suc d) = omega (arith, pow-suc 2 d, pow-suc 4 d, wider d)

pub root-met : {n r : ℕ} → IsRoot n r → r ≡ whole_root n
root-met {n} i = root-unique i (root_is n)

pub met-root : {n r : ℕ} → r ≡ whole_root n → IsRoot n r
met-root {n} e = subst⁻¹ (IsRoot n) e (root_is n)
