-- MAP.
use Rattle.std.specs.Prelude.{ℤ, pos, ◌+ℤ◌, ◌-ℤ◌, ◌*ℤ◌, Float as Binary32}
use Rattle.std.specs.Int.Signed.{quot_z}
use Rattle.std.specs.Float.{binary32}
use Rattle.std.specs.Float.Ieee.{of_int, add, sub, mul, div}
use Rattle.std.specs.Int.{Width, w8, w16}
use Rattle.integer.specs.Modular.{wrapped}
use Rattle.number.specs.declared.Number.{Number}
use Rattle.number.specs.declared.Number.TheVariants.{Char, Int, Float}
use Rattle.operator.specs.Arithmetic.{divisible}
use Rattle.operator.specs.Outcome.{Outcome}
use Rattle.std.specs.Prelude.{Ok}
use Rattle.scaling.specs.declared.map.Kind.{Kind}
use Rattle.scaling.specs.declared.map.Kind.TheVariants.{Chars, Ints, Floats}

-- the type, or that of the number if it is wider
abbrev pub wider : Kind → Number → Kind
wider k (Char x) = k
wider Chars (Int x) = Ints
wider Ints (Int x) = Ints
wider Floats (Int x) = Floats
wider k (Float x) = Floats

abbrev pub widest : Number → Number → Number → Number → Number → Kind
widest a b c d e = wider (wider (wider (wider (wider Chars a) b) c) d) e

-- a whole number as it is; a FLOAT is never asked
abbrev pub exact : Number → ℤ
exact (Char x) = x
exact (Int x) = x
exact (Float x) = pos 0

abbrev pub real : Number → Binary32
real (Char x) = of_int binary32 x
real (Int x) = of_int binary32 x
real (Float x) = x

-- Document 02, Q-3: "MAP of a, b, c, d, e is (a − b) × (e − d) / (c − b) + d: on whole numbers exact, the quotient cut
-- toward zero".
unfoldable pub map_exact : ℤ → ℤ → ℤ → ℤ → ℤ → ℤ
map_exact a b c d e = quot_z ((a -ℤ b) *ℤ (e -ℤ d)) (c -ℤ b) +ℤ d

-- "the result reduced to the widest type; there equal b and c give fault 7." The type is k, of the width w.
abbrev pub map_whole : Width → (ℤ → Number) → ℤ → ℤ → ℤ → ℤ → ℤ → Outcome
map_whole w k a b c d e = divisible (c -ℤ b) (Ok (k (wrapped w (map_exact a b c d e))))

-- "With a FLOAT all five become FLOAT and each operation rounds once, as written."
unfoldable pub map_real : Binary32 → Binary32 → Binary32 → Binary32 → Binary32 → Binary32
map_real a b c d e =
    add binary32 (div binary32 (mul binary32 (sub binary32 a b) (sub binary32 e d)) (sub binary32 c b)) d

abbrev pub mapped_as : Kind → Number → Number → Number → Number → Number → Outcome
mapped_as Chars a b c d e = map_whole w8 Char (exact a) (exact b) (exact c) (exact d) (exact e)
mapped_as Ints a b c d e = map_whole w16 Int (exact a) (exact b) (exact c) (exact d) (exact e)
mapped_as Floats a b c d e = Ok (Float (map_real (real a) (real b) (real c) (real d) (real e)))

unfoldable pub mapped : Number → Number → Number → Number → Number → Outcome
mapped a b c d e = mapped_as (widest a b c d e) a b c d e
