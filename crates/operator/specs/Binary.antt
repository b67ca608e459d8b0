-- The operators of two operands: comparisons, logical and bitwise operators, MIN and MAX, and all together.
use Rattle.std.specs.Prelude.{Bool, not, cond, ◌&&◌, ◌||◌, ℤ, Float as Binary32}
use Rattle.std.specs.Bool.{beq}
use Rattle.std.specs.Int.Signed.{lt_z, le_z}
use Rattle.std.specs.Int.Bits.{bit_and, bit_or, bit_xor}
use Rattle.std.specs.Float.Ieee.{lt, le, eq, ne}
use Rattle.std.specs.Int.{Width, w8, w16}
use Rattle.std.proofs.Common.{to_z, of_z}
use Rattle.operator.specs.Arithmetic.{arithmetic}
use Rattle.operator.specs.Outcome.{flag}
use Rattle.number.specs.Promotion.{promoted, first, second}
use Rattle.number.specs.Value.{is_zero}
use Rattle.number.specs.Whole.{equal}
use Rattle.number.specs.declared.Number.{Number}
use Rattle.number.specs.declared.Number.TheVariants.{Char, Int}
use Rattle.operator.specs.Outcome.{Outcome}
use Rattle.std.specs.Prelude.{Ok, Err}
use Rattle.operator.specs.declared.ArithmeticError.TheVariants.{OutOfRange}
use Rattle.operator.specs.declared.operators.Binary.{Binary}
use Rattle.operator.specs.declared.operators.Binary.TheVariants.{Arithmetic, Comparison as Comparing, Logical}
use Rattle.operator.specs.declared.operators.Binary.TheVariants.{Bitwise, Extremum as Choosing}
use Rattle.operator.specs.declared.operators.Comparison.{Comparison}
use Rattle.operator.specs.declared.operators.Comparison.TheVariants.{Equals, NotEquals, LessThan, LessOrEqual}
use Rattle.operator.specs.declared.operators.Comparison.TheVariants.{GreaterThan, GreaterOrEqual}
use Rattle.operator.specs.declared.operators.Connective.{Connective}
use Rattle.operator.specs.declared.operators.Connective.TheVariants.{And, Or, Xor}
use Rattle.operator.specs.declared.operators.Extremum.{Extremum}
use Rattle.operator.specs.declared.operators.Extremum.TheVariants.{Min, Max}
use Rattle.number.specs.declared.promotion.Pair.{Pair}
use Rattle.number.specs.declared.promotion.Pair.TheVariants.{Chars, Ints, Floats}

unfoldable pub ordered : Comparison → ℤ → ℤ → Bool
ordered Equals x y = equal x y
ordered NotEquals x y = not (equal x y)
ordered LessThan x y = lt_z x y
ordered LessOrEqual x y = le_z x y
ordered GreaterThan x y = lt_z y x
ordered GreaterOrEqual x y = le_z y x

-- with a NaN only `ne` holds
unfoldable pub ordered_floats : Comparison → Binary32 → Binary32 → Bool
ordered_floats Equals x y = eq x y
ordered_floats NotEquals x y = ne x y
ordered_floats LessThan x y = lt x y
ordered_floats LessOrEqual x y = le x y
ordered_floats GreaterThan x y = lt y x
ordered_floats GreaterOrEqual x y = le y x

abbrev pub compared : Comparison → Pair → Bool
compared o (Chars x y) = ordered o x y
compared o (Ints x y) = ordered o x y
compared o (Floats x y) = ordered_floats o x y

unfoldable pub connected : Connective → Bool → Bool → Bool
connected And x y = x && y
connected Or x y = x || y
connected Xor x y = not (beq x y)

-- on the bits of two whole numbers of the width w
unfoldable pub whole_bits : Width → Connective → ℤ → ℤ → ℤ
whole_bits w And x y = to_z w (bit_and (of_z w x) (of_z w y))
whole_bits w Or x y = to_z w (bit_or (of_z w x) (of_z w y))
whole_bits w Xor x y = to_z w (bit_xor (of_z w x) (of_z w y))

-- Document 01: "Bitwise and MODULUS refuse FLOAT": the pop refuses it first, so two FLOATs are never asked here.
abbrev pub bitwise : Connective → Pair → Outcome
bitwise o (Chars x y) = Ok (Char (whole_bits w8 o x y))
bitwise o (Ints x y) = Ok (Int (whole_bits w16 o x y))
bitwise o (Floats x y) = Err OutOfRange

-- Document 01: "MIN gives the operand pushed first unless the second is less, MAX unless it is greater."
abbrev pub replaces : Extremum → Pair → Bool
replaces Min pair = compared GreaterThan pair
replaces Max pair = compared LessThan pair

abbrev pub extremum : Extremum → Pair → Number
extremum o pair = cond (replaces o pair) (second pair) (first pair)

-- Each operator of two operands; a was pushed first.
unfoldable pub binary : Binary → Number → Number → Outcome
binary (Arithmetic o) a b = arithmetic o (promoted a b)
binary (Comparing o) a b = flag (compared o (promoted a b))
binary (Logical o) a b = flag (connected o (not (is_zero a)) (not (is_zero b)))
binary (Bitwise o) a b = bitwise o (promoted a b)
binary (Choosing o) a b = Ok (extremum o (promoted a b))
