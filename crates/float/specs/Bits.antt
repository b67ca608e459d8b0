-- A FLOAT as its four bytes. Definitions only.
use Rattle.std.specs.Prelude.{ℕ, ◌+◌, ◌*◌, ◌/◌, ◌%◌, List, [], ◌∷◌, to_bits, Float}
use Rattle.std.specs.Float.{binary32}

-- Document 01: "A value lies as its bytes, high byte first".
abbrev pub big_endian : ℕ → List ℕ
big_endian n = n / 16777216 ∷ n / 65536 % 256 ∷ n / 256 % 256 ∷ n % 256 ∷ []

abbrev pub joined : ℕ → ℕ → ℕ → ℕ → ℕ
joined a b c d = ((a * 256 + b) * 256 + c) * 256 + d

-- Document 01: "A NaN result is stored as hex 7FC00000", which is what `to_bits` gives of `nan` (proofs/Patterns.antt).
abbrev pub float_bytes : Float → List ℕ
float_bytes x = big_endian (to_bits binary32 x)
