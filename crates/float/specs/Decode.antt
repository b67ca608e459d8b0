-- A binary32 value taken apart. Definitions only.
use Rattle.std.specs.Prelude.{◌≡◌, ℕ, ◌*◌, ◌^◌, ◌<◌, ◌≤◌, Bool, Float}
use Rattle.std.specs.Float.{nan, inf}
use Rattle.std.specs.Float.Ieee.Exact.{HasValue}
use Rattle.float.specs.declared.decode.Decoded.{Decoded}
use Rattle.float.specs.declared.decode.Decoded.TheVariants.{NotANumber, Infinite, Finite}

-- x is ±t * 2 ^ k / 2 ^ 149, and t has at most 24 digits; where k is above 0 it has all 24.
pub record IsFinite (x : Float) (s : Bool) (t k : ℕ) : Type 0 where
  pub value : HasValue x s (t * 2 ^ k) (2 ^ 149)
  pub short : t < 16777216
  pub near : k < 254
  pub full : 0 < k → 8388608 ≤ t

-- What an answer says of x: all that callers use of it.
abbrev pub IsDecoded : Float → Decoded → Type 0
IsDecoded x NotANumber = x ≡ nan
IsDecoded x (Infinite s) = x ≡ inf s
IsDecoded x (Finite s t k) = IsFinite x s t k
