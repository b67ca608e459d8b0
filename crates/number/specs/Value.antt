-- A number as its bytes and its type byte, and whether it is zero.
use Rattle.std.specs.Prelude.{ℕ, ◌+◌, ◌*◌, ◌/◌, ◌%◌, Bool, cond, List, [], ◌∷◌, ◌++◌, pos, ◌==◌, from_bits, slice_index}
use Rattle.std.specs.Float.{binary32}
use Rattle.std.specs.Int.{w8, w16}
use Rattle.std.proofs.Common.{to_z, of_z}
use Rattle.float.specs.Bits.{float_bytes, joined}
use Rattle.float.specs.Compare.{is_zero as is_zero_float}
use Rattle.number.specs.Whole.{equal}
use Rattle.number.specs.declared.Number.{Number}
use Rattle.number.specs.declared.Number.TheVariants.{Char, Int, Float}
use Rattle.number.specs.declared.value.Encoded.{Encoded}

-- Document 01: "then its type 1, 2 or 4".
abbrev pub type_of : Number → ℕ
type_of (Char x) = 1
type_of (Int x) = 2
type_of (Float x) = 4

-- Document 01: "A value lies as its bytes, high byte first".
abbrev pub value_bytes : Number → List ℕ
value_bytes (Char x) = of_z w8 x ∷ []
value_bytes (Int x) = of_z w16 x / 256 ∷ of_z w16 x % 256 ∷ []
value_bytes (Float x) = float_bytes x

-- zeros up to four bytes
abbrev pub padding : Number → List ℕ
padding (Char x) = 0 ∷ 0 ∷ 0 ∷ []
padding (Int x) = 0 ∷ 0 ∷ []
padding (Float x) = []

unfoldable pub encoded : Number → Encoded
encoded a = record { bytes = value_bytes a ++ padding a; kind = type_of a }

-- The number of a type and its bytes. Type 3, a STRING, is never asked.
unfoldable pub number_of : ℕ → List ℕ → Number
number_of kind bytes =
    cond (kind == 1) (Char (to_z w8 (slice_index bytes 0)))
    (cond (kind == 2) (Int (to_z w16 (slice_index bytes 0 * 256 + slice_index bytes 1)))
    (Float
    (from_bits binary32
    (joined (slice_index bytes 0) (slice_index bytes 1) (slice_index bytes 2) (slice_index bytes 3)))))

-- Document 01: "NaN counts as not zero, −0 as zero."
abbrev pub is_zero : Number → Bool
is_zero (Char x) = equal x (pos 0)
is_zero (Int x) = equal x (pos 0)
is_zero (Float x) = is_zero_float x
