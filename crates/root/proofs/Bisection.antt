-- The loop of `whole_root`: the root stays between low and low + width. Assumes nothing.
use mathlib.Core.Path.{◌≡◌, subst, subst⁻¹}
use Prim.Native.Nat.{ℕ, ◌+◌, ◌-◌, ◌*◌, ◌/◌, ◌^◌, ◌<◌, ◌≤◌}
use native.Mathlib.Omega.{arith}
use native.Mathlib.Nat.{lt_of_lt_of_le, mul-lt-mul_of_pos_right, mul-le-mul_left, lt_of_le_of_lt, le_of_lt}
use lib.Pow.{pow_pos, pow-add}
use Rattle.root.specs.Root.{whole_root}
use Rattle.root.proofs.Squares.{square-mono, root-met}

-- the product of two numbers of k bits has at most k + k
pub product-below : (k : ℕ) {a b : ℕ} → a < 2 ^ k → b < 2 ^ k → a * b < 2 ^ (k + k)
product-below k {a} {b} ha hb =
    subst⁻¹ (λ (n : ℕ). a * b < n) (pow-add 2 k k)
    (lt_of_le_of_lt (mul-le-mul_left a (le_of_lt hb)) (mul-lt-mul_of_pos_right ha (pow_pos k)))

pub record Between (n low width : ℕ) : Type 0 where
  pub from : low * low ≤ n
  pub to : n < (low + width) * (low + width)
  pub reach : low + width ≤ 4294967296
  pub some : 1 ≤ width

module _ (n low width : ℕ) (i : Between n low width) (more : 1 < width) {next : ℕ} where
  pub upper-half : next ≡ low + width / 2 → (low + width / 2) * (low + width / 2) ≤ n → Between n next (width - width / 2)
  upper-half e h =
      subst⁻¹ (λ (l : ℕ). Between n l (width - width / 2)) e
      (record { from = h; to = subst (λ (a : ℕ). n < a * a) (omega arith) i.to; reach = omega (arith, i.reach); some = omega arith })

  pub lower-half : next ≡ low → n < (low + width / 2) * (low + width / 2) → Between n next (width - width / 2)
  lower-half e h =
      subst⁻¹ (λ (l : ℕ). Between n l (width - width / 2)) e
      (record { from = i.from; to = lt_of_lt_of_le h (square-mono (omega arith)); reach = omega (arith, i.reach); some = omega arith })

pub single : (n low width : ℕ) → Between n low width → width ≤ 1 → low ≡ whole_root n
single n low width i h =
    root-met (record { low = i.from; high = subst (λ (w : ℕ). n < (low + w) * (low + w)) (omega (arith, i.some)) i.to })
