-- A number's bytes: how many, where they stand, and that the number comes back from them. Assumes nothing.
use Rattle.std.proofs.Common.{◌≡◌, ℕ, ◌/◌, ◌%◌, T, length, refl, ap, ◌∙◌, div-add-mod', arith, to_z-of_z, w8, w16, SFits, to_z, of_z}
use lib.Ieee.{binary32, fits, to_bits, of_bits}
use lib.Ieee.Bits.{of_bits-to_bits}
use Rattle.float.specs.Bits.{joined}
use Rattle.number.specs.Value.{number_of, type_of, value_bytes}
use Rattle.number.specs.declared.Number.{Number}
use Rattle.number.specs.declared.Number.TheVariants.{Char, Int, Float}

-- what holds of every number that the code holds
abbrev pub Fits : Number → Type 0
Fits (Char x) = SFits w8 x
Fits (Int x) = SFits w16 x
Fits (Float x) = T (fits binary32 x)

pub value-length : (a : Number) → length (value_bytes a) ≡ type_of a
value-length (Char x) = refl
value-length (Int x) = refl
value-length (Float x) = refl

joined_bytes : (n : ℕ) → joined (n / 16777216) (n / 65536 % 256) (n / 256 % 256) (n % 256) ≡ n
joined_bytes n = omega arith

pub decoded-encoded : (a : Number) → Fits a → number_of (type_of a) (value_bytes a) ≡ a
unfolding number_of
decoded-encoded (Char x) f = ap Char (to_z-of_z f)
decoded-encoded (Int x) f = ap Int (ap (to_z w16) (div-add-mod' (of_z w16 x) 256) ∙ to_z-of_z f)
decoded-encoded (Float x) f = ap Float (ap (of_bits binary32) (joined_bytes (to_bits binary32 x)) ∙ of_bits-to_bits binary32 x f)
