-- What the code of the root makes of its operand first. Definitions only.
use Rattle.std.specs.Prelude.{◌≡◌, ℕ, ◌*◌, ◌%◌, ◌^◌, ◌<◌, ◌≤◌}

-- t * 2 ^ e is m * 4 ^ g, and the even m has 49 or 50 binary digits
pub record IsScaled (t e m g : ℕ) : Type 0 where
  pub same : m * (2 ^ g * 2 ^ g) ≡ t * 2 ^ e
  pub least : 281474976710656 ≤ m
  pub most : m < 1125899906842624
  pub even : m % 2 ≡ 0
  pub near : g ≤ 200
