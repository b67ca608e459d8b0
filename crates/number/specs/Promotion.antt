-- The two operands at one type, the wider of the two.
use Rattle.std.specs.Float.{binary32}
use Rattle.std.specs.Float.Ieee.{of_int}
use Rattle.number.specs.declared.Number.{Number}
use Rattle.number.specs.declared.Number.TheVariants.{Char, Int, Float}
use Rattle.number.specs.declared.promotion.Pair.{Pair}
use Rattle.number.specs.declared.promotion.Pair.TheVariants.{Chars, Ints, Floats}

-- Document 01: "With a FLOAT operand both become FLOAT"; the guide, table 3: the result has the wider type.
-- A CHAR and an INT are whole numbers, so a CHAR becomes an INT as it is.
abbrev pub promoted : Number → Number → Pair
promoted (Char x) (Char y) = Chars x y
promoted (Char x) (Int y) = Ints x y
promoted (Char x) (Float y) = Floats (of_int binary32 x) y
promoted (Int x) (Char y) = Ints x y
promoted (Int x) (Int y) = Ints x y
promoted (Int x) (Float y) = Floats (of_int binary32 x) y
promoted (Float x) (Char y) = Floats x (of_int binary32 y)
promoted (Float x) (Int y) = Floats x (of_int binary32 y)
promoted (Float x) (Float y) = Floats x y

abbrev pub first : Pair → Number
first (Chars x y) = Char x
first (Ints x y) = Int x
first (Floats x y) = Float x

abbrev pub second : Pair → Number
second (Chars x y) = Char y
second (Ints x y) = Int y
second (Floats x y) = Float y
