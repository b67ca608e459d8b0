-- Whole operands as the machine reads them, over the width: `to_z w (of_z w x)` stands for x wherever a call or an operation takes it.
-- Assumes nothing.
use Rattle.std.proofs.Common.{◌≡◌, ℕ, suc, ◌-◌, ◌^◌, ◌<◌, ℤ, pos, negsuc, sym, ap, arith}
use Rattle.std.proofs.Common.{pow_pos, SFits, of_z}
use mir.Syntax.{Width}
use mir.Val.{bits, hbits}
use mir.ValLaws.{pow-bits}

module _ (w : Width) where
  -- the bits of a number from 0 up differ from those of one below 0
  apart : (a b : ℕ) → a < 2 ^ hbits w → b < 2 ^ hbits w → a ≡ 2 ^ bits w - suc b → ⊥
  apart a b ha hb e = omega (arith, pow-bits w)

  pub zero_bits : (y : ℤ) → SFits w y → of_z w y ≡ 0 → y ≡ pos 0
  zero_bits (pos n) f e = ap pos e
  zero_bits (negsuc n) f e = absurd (apart 0 n (pow_pos (hbits w)) f.sfits (sym e))
