-- Whole numbers kept modulo a power of two and read in two's complement.
use Rattle.std.specs.Prelude.{ℕ, suc, ◌-◌, ◌%◌, ◌^◌, ℤ, pos, negsuc}
use Rattle.std.specs.Int.{Width}
use mir.Val.{to_z, bits}

-- z modulo m, from 0 to m − 1; `negsuc n` is −(n + 1)
abbrev pub residue : ℕ → ℤ → ℕ
residue m (pos n) = n % m
residue m (negsuc n) = m - suc (n % m)

-- Document 01: "otherwise the exact whole result is kept modulo 65,536, or 256 for CHAR".
-- The number of width w that differs from z by a multiple of 2 ^ bits w; `to_z w n` reads the bits n as a signed
-- number.
unfoldable pub wrapped : Width → ℤ → ℤ
wrapped w z = to_z w (residue (2 ^ bits w) z)
