-- The whole square root of a natural number. Definitions only.
use Rattle.std.specs.Prelude.{ℕ, zero, suc, ◌+◌, ◌*◌, ◌/◌, ◌≤◌, ◌<◌, cond, leb}
use Rattle.std.specs.Float.Ieee.{size}

-- r is the whole root of n: r * r ≤ n < (r + 1) * (r + 1). Every n has one such r, and it is `whole_root n`
-- (proofs/Squares.antt).
pub record IsRoot (n r : ℕ) : Type 0 where
  pub low : r * r ≤ n
  pub high : n < (r + 1) * (r + 1)

-- the root of an n below 4 ^ d, by its d binary digits: it is twice the root of n / 4, or one more
unfoldable pub root_digits : ℕ → ℕ → ℕ
root_digits zero n = 0
root_digits (suc d) n = let r = 2 * root_digits d (n / 4) in cond (leb ((r + 1) * (r + 1)) n) (r + 1) r

-- Document 01: "of a whole number it is the whole root". `size n` counts the binary digits of n.
unfoldable pub whole_root : ℕ → ℕ
unfolding root_digits size
whole_root n = root_digits (size n) n
