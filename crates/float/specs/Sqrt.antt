-- The square root of a FLOAT, correctly rounded. Definitions only.
use Rattle.std.specs.Prelude.{ℕ, zero, suc, ◌+◌, ◌*◌, ◌/◌, ◌^◌, ◌<◌, Bool, true, false, cond, T, ◌==◌, Float}
use Rattle.std.specs.Float.{nan, inf, fin, binary32}
use Rattle.std.specs.Float.Ieee.{down, fits, lt, round, up}
use Rattle.std.specs.Float.Ieee.Positive.{den, num, positive}
use Rattle.root.specs.Root.{whole_root}

-- 0 where r is the exact root of n, else 1
abbrev pub sticky : ℕ → ℕ → ℕ
sticky r n = cond (r * r == n) 0 1

-- The root of a units, of 2 ^ -149 each, as `round` rounds it. In units it is √n, and r is its whole part. Where √n is
-- not r it lies between r and r + 1, and r + 1/2 stands for it: √n has 75 binary digits or more, so every value and
-- every middle of two is a whole number of units, and r + 1/2 rounds as √n.
unfoldable pub root_of_units : ℕ → Float
unfolding whole_root
root_of_units a =
    let n = a * 2 ^ 149 in
    let r = whole_root n in
    round binary32 false (2 * r + sticky r n) (2 ^ 150)

-- Document 01: "SQRT of a FLOAT is correctly rounded". Below zero it is a NaN, and of -0 it is -0, as IEEE 754 has it.
unfoldable pub sqrt_of : Float → Float
unfolding root_of_units
sqrt_of nan = nan
sqrt_of (inf true) = nan
sqrt_of (inf false) = inf false
sqrt_of (fin s zero e) = fin s zero e
sqrt_of (fin true (suc m) e) = nan
sqrt_of (fin false (suc m) e) = root_of_units (suc m * up e * 2 ^ 149 / down e)

-- ---- The same without the way to it (proofs/NearestRoot.antt): of the binary32 values r is the nearest to the root of
-- x, and none is as near. The middle of r and a y below it lies below the root, and that of r and a y above it lies
-- above: (r + y) ^ 2 < 4 x, and 4 x < (r + y) ^ 2, as fractions num / den. A y below zero is farther from the root than
-- 0 is.
abbrev pub not_negative : Float → Bool
not_negative nan = false
not_negative (inf s) = false
not_negative (fin true m e) = false
not_negative (fin false m e) = true

-- (r + y) ^ 2 times the square of both denominators
abbrev pub sum_squared : Float → Float → ℕ
sum_squared r y = (num r * den y + num y * den r) * (num r * den y + num y * den r)

abbrev pub den_squared : Float → Float → ℕ
den_squared r y = den r * den y * (den r * den y)

pub record IsNearestRoot (x r : Float) : Type 0 where
  pub representable : T (fits binary32 r)
  pub above_zero : T (positive r)
  pub middle-below : (y : Float) → T (fits binary32 y) → T (not_negative y) → T (lt y r)
      → sum_squared r y * den x < 4 * num x * den_squared r y
  pub middle-above : (y : Float) → T (fits binary32 y) → T (not_negative y) → T (lt r y)
      → 4 * num x * den_squared r y < sum_squared r y * den x

-- Document 01: "SQRT of a FLOAT is correctly rounded".
abbrev pub CorrectlyRounded : Type 0
CorrectlyRounded = (x : Float) → T (fits binary32 x) → T (positive x) → IsNearestRoot x (sqrt_of x)
