-- The rounded root by way of the whole root of the scaled operand: of the 25 digits of that root the last one is rounded off. Assumes
-- nothing.
use Rattle.std.proofs.Common.{◌≡◌, ℕ, suc, ◌+◌, ◌-◌, ◌*◌, ◌/◌, ◌^◌, ◌<◌, ◌≤◌, Bool, true, false, cond, T, eqb, sym, refl, ap, ◌∙◌, subst}
use Rattle.std.proofs.Common.{⊎_elim, le_trans, le_of_eq, lt_of_lt_of_le, lt_of_le_of_lt, mul-le-mul_right, mul_assoc, suc-mul, mul_comm}
use Rattle.std.proofs.Common.{mul-le-mul, le_antisymm, eq-or-lt_of_le, mul-pos, pow-suc, lt_of_not-le, not-le_of_lt, mul-div_cancel, arith}
use Rattle.std.proofs.Common.{eqb→eq, pow_pos, pow_mono, pow-add, shl_lt}
use mathlib.Core.Path.{subst⁻¹}
use native.Mathlib.Nat.{mul-div-mul_left}
use lib.Ieee.{Float, nan, inf, fin, binary32, down, fits, of_bits, round, size, to_bits, top}
use lib.Ieee.Bits.{of_bits-to_bits}
use lib.Ieee.Digits.{size-le, size-lt}
use lib.Ieee.Exact.{HasValue}
use lib.Ieee.Fits.{down_pos, round-fits}
use lib.Ieee.Nearest.{closest, closest_same}
use lib.Ieee.Order.{drop}
use lib.Ieee.Scale.{grid, round_val}
use lib.Pow.{pow-lt, shl-shr}
use Rattle.root.specs.Root.{IsRoot, whole_root}
use Rattle.root.proofs.Squares.{root_below, root_is, square-reflects}
use Rattle.float.specs.Scale.{IsScaled}
use Rattle.float.specs.Sqrt.{root_of_units, sticky}
use Rattle.float.proofs.LastDigit.{last-digit, root-from, root-to}

-- ---- the digits of a number
size_exact : (a n : ℕ) → 2 ^ a ≤ n → n < 2 ^ suc a → size n ≡ suc a
size_exact a n lo hi =
    le_antisymm (size-le n (suc a) hi) (lt_of_not-le (λ (h : size n ≤ a). not-le_of_lt (lt_of_lt_of_le (size-lt n) (pow_mono h)) lo))

-- ---- `round`'s grid: n / 2 ^ (l + 1) in units of 2 ^ -l is n / 2
halve : (n l : ℕ) → n * 2 ^ l / 2 ^ suc l ≡ n / 2
halve n l = ap (λ (a : ℕ). a / 2 ^ suc l) (mul_comm n (2 ^ l)) ∙ ap (λ (a : ℕ). 2 ^ l * n / a) (pow-suc 2 l)
    ∙ mul-div-mul_left n 2 (pow_pos l)

cancel : (n l g : ℕ) → closest (n * 2 ^ l) (2 ^ suc l * 2 ^ (g + 1)) ≡ closest n (2 * (2 * 2 ^ g))
cancel n l g =
    closest_same (n * 2 ^ l) (2 ^ suc l * 2 ^ (g + 1)) n (2 * (2 * 2 ^ g)) (mul-pos (pow_pos (suc l)) (pow_pos (g + 1)))
    (omega (arith, pow_pos g))
    (ap (λ (a : ℕ). n * 2 ^ l * a) (shape (2 ^ g)) ∙ mul_assoc n (2 ^ l) (2 * (2 ^ g * 2))
    ∙ ap (λ (a : ℕ). n * a)
    (sym (mul_assoc (2 ^ l) 2 (2 ^ g * 2)) ∙ ap (λ (a : ℕ). a * (2 ^ g * 2)) (sym (pow-suc 2 l))
    ∙ ap (λ (a : ℕ). 2 ^ suc l * a) (sym (pow-suc 2 g) ∙ ap (λ (a : ℕ). 2 ^ a) (omega arith))))
  where
    shape : (p : ℕ) → 2 * (2 * p) ≡ 2 * (p * 2)
    shape p = omega arith

-- ---- the bits of a value that is a / 2 ^ 149
bits-value : (y : Float) (a : ℕ) → HasValue y false a (2 ^ 149) → to_bits binary32 y ≡ (size a - 24) * 8388608 + a / 2 ^ (size a - 24)
unfolding to_bits
bits-value nan a v = absurd v
bits-value (inf t) a v = absurd v
bits-value (fin t m e) a v =
    ap (λ (n : ℕ). cond t (top binary32) 0 + (size n - 24) * 8388608 + n / 2 ^ (size n - 24)) (ap (λ (n : ℕ). n / down e) v.1
    ∙ mul-div_cancel a (down_pos e))
    ∙ ap (λ (b : Bool). cond b (top binary32) 0 + (size a - 24) * 8388608 + a / 2 ^ (size a - 24)) v.0 ∙ omega arith

module _ (c j : ℕ) where
  bits_at : (a : ℕ) → c * 2 ^ j ≡ a → 8388608 ≤ c → c < 16777216 → (size a - 24) * 8388608 + a / 2 ^ (size a - 24) ≡ j * 8388608 + c
  bits_at a e lo hi =
      ap (λ (n : ℕ). (size n - 24) * 8388608 + n / 2 ^ (size n - 24)) (sym e) ∙ ap (λ (n : ℕ). n * 8388608 + c * 2 ^ j / 2 ^ n) dropped
      ∙ ap (λ (n : ℕ). j * 8388608 + n) (shl-shr c j)
    where
      dropped : size (c * 2 ^ j) - 24 ≡ j
      dropped =
          ap (λ (n : ℕ). n - 24)
          (size_exact (23 + j) (c * 2 ^ j) (le_trans (le_of_eq (pow-add 2 23 j)) (mul-le-mul_right (2 ^ j) lo))
          (subst (λ (n : ℕ). c * 2 ^ j < 2 ^ n) (omega arith) (shl_lt 24 j hi)))
          ∙ omega arith

bits_of : (c j : ℕ) → 8388608 ≤ c → c ≤ 16777216
    → (size (c * 2 ^ j) - 24) * 8388608 + c * 2 ^ j / 2 ^ (size (c * 2 ^ j) - 24) ≡ j * 8388608 + c
bits_of c j lo hi = ⊎_elim full (bits_at c j (c * 2 ^ j) refl lo) (eq-or-lt_of_le hi)
  where
    full : c ≡ 16777216 → (size (c * 2 ^ j) - 24) * 8388608 + c * 2 ^ j / 2 ^ (size (c * 2 ^ j) - 24) ≡ j * 8388608 + c
    full e = bits_at 8388608 (j + 1) (c * 2 ^ j) (omega (arith, ap (λ (n : ℕ). n * 2 ^ j) e, pow-add 2 j 1)) (omega arith) (omega arith)
        ∙ omega arith

-- ---- what a sticky bit says
sticky-le : (b : Bool) → cond {0} b 0 1 ≤ 1
sticky-le true = omega arith
sticky-le false = omega arith

sticky-exact : (b : Bool) → ◌≡◌ {A = ℕ} (cond b 0 1) 0 → T b
sticky-exact true e = tt
sticky-exact false e = absurd (none e)
  where
    none : ◌≡◌ {A = ℕ} 1 0 → ⊥
    none e = omega arith

-- ---- the root of t * 2 ^ k units, scaled to m * 4 ^ g
module _ (t k m g q : ℕ) (d : IsScaled t (k + 149) m g) (i : IsRoot m q) where
  pub root-25 : (16777216 ≤ q) × (q < 33554432)
  root-25 = (under (square-reflects 16777216 (q + 1) (lt_of_le_of_lt d.least i.high)), root_below 33554432 i d.most)
    where
      under : 16777216 < q + 1 → 16777216 ≤ q
      under h = omega arith

  pub half-24 : (8388608 ≤ (q + 1) / 2) × ((q + 1) / 2 ≤ 16777216)
  half-24 = omega (arith, root-25.0, root-25.1)

  pub radicand : m * (2 ^ g * 2 ^ g) ≡ t * 2 ^ k * 2 ^ 149
  radicand = d.same ∙ ap (λ (n : ℕ). t * n) (pow-add 2 k 149) ∙ sym (mul_assoc t (2 ^ k) (2 ^ 149))

  module _ (r s : ℕ) (j : IsRoot (m * (2 ^ g * 2 ^ g)) r) (hs : s ≤ 1) (ex : s ≡ 0 → r * r ≡ m * (2 ^ g * 2 ^ g)) where
    root-size : size r ≡ 25 + g
    root-size =
        size_exact (24 + g) r
        (le_trans (le_of_eq (pow-add 2 24 g))
        (le_trans (mul-le-mul_right (2 ^ g) root-25.0) (root-from m (2 ^ g) q r (pow_pos g) i j)))
        (subst (λ (n : ℕ). r < n) (sym (ap (λ (n : ℕ). 2 ^ n) (omega arith) ∙ pow-add 2 25 g))
        (lt_of_lt_of_le (root-to m (2 ^ g) q r (pow_pos g) i j) (le_trans (le_of_eq next) (mul-le-mul_right (2 ^ g) root-25.1))))
        ∙ omega arith
      where
        next : q * 2 ^ g + 2 ^ g ≡ suc q * 2 ^ g
        next = sym (suc-mul q (2 ^ g))

    dropped : drop 24 ((2 * r + s) * 2 ^ 149) (2 ^ 150) ≡ g + 1
    dropped = ap (λ (n : ℕ). size n - 24) (halve (2 * r + s) 149 ∙ omega arith) ∙ ap (λ (n : ℕ). n - 24) root-size ∙ omega arith

    on-grid : grid binary32 (2 * r + s) (2 ^ 150) ≡ (q + 1) / 2 * 2 ^ (g + 1)
    on-grid =
        ap (λ (k : ℕ). closest ((2 * r + s) * 2 ^ 149) (2 ^ 150 * 2 ^ k) * 2 ^ k) dropped
        ∙ ap (λ (n : ℕ). n * 2 ^ (g + 1)) (cancel (2 * r + s) 149 g ∙ last-digit m (2 ^ g) q r s (pow_pos g) i j hs ex d.even)

    in_reach : (q + 1) / 2 * 2 ^ (g + 1) < 2 ^ 277
    in_reach =
        lt_of_le_of_lt (mul-le-mul {n₂ = 16777216} {m₂ = 2 ^ 201} half-24.1 (pow_mono {j = 201} (omega (arith, d.near))))
        (pow-lt {i = 225} {j = 277} (omega arith))

    rounded-value : HasValue (round binary32 false (2 * r + s) (2 ^ 150)) false ((q + 1) / 2 * 2 ^ (g + 1)) (2 ^ 149)
    rounded-value =
        subst (λ (n : ℕ). HasValue (round binary32 false (2 * r + s) (2 ^ 150)) false n (2 ^ 149)) on-grid
        (round_val binary32 (2 * r + s) (2 ^ 150) (subst⁻¹ (λ (n : ℕ). n < 2 ^ 277) on-grid in_reach))

  pub root-value : HasValue (root_of_units (t * 2 ^ k)) false ((q + 1) / 2 * 2 ^ (g + 1)) (2 ^ 149)
  unfolding root_of_units
  root-value =
      let n = t * 2 ^ k * 2 ^ 149 in
      let r = whole_root n in
      rounded-value r (sticky r n) (subst⁻¹ (λ (a : ℕ). IsRoot a r) radicand (root_is n)) (sticky-le (eqb (r * r) n))
      (λ e. eqb→eq (r * r) n (sticky-exact (eqb (r * r) n) e) ∙ sym radicand)

  pub root-fits : T (fits binary32 (root_of_units (t * 2 ^ k)))
  unfolding root_of_units
  root-fits = let n = t * 2 ^ k * 2 ^ 149 in round-fits binary32 false (2 * whole_root n + sticky (whole_root n) n) (2 ^ 150)

  pub root-bits : of_bits binary32 ((g + 1) * 8388608 + (q + 1) / 2) ≡ root_of_units (t * 2 ^ k)
  root-bits =
      ap (of_bits binary32)
      (sym (bits-value (root_of_units (t * 2 ^ k)) ((q + 1) / 2 * 2 ^ (g + 1)) root-value
      ∙ bits_of ((q + 1) / 2) (g + 1) half-24.0 half-24.1))
      ∙ of_bits-to_bits binary32 (root_of_units (t * 2 ^ k)) root-fits
