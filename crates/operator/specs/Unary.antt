-- The operators of one operand.
use Rattle.std.specs.Prelude.{ℤ, pos, negsuc, neg_ℤ, nat_abs, false, Float as Binary32}
use Rattle.std.specs.Float.{nan, inf, fin}
use Rattle.std.specs.Float.Ieee.{neg}
use Rattle.std.specs.Int.{w8, w16}
use Rattle.integer.specs.Modular.{wrapped}
use Rattle.root.specs.Root.{whole_root}
use Rattle.float.specs.Sqrt.{sqrt_of}
use Rattle.operator.specs.Binary.{binary}
use Rattle.operator.specs.Conversion.{converted}
use Rattle.operator.specs.Outcome.{flag}
use Rattle.number.specs.Value.{is_zero}
use Rattle.number.specs.declared.Number.{Number}
use Rattle.number.specs.declared.Number.TheVariants.{Char, Int, Float}
use Rattle.operator.specs.Outcome.{Outcome}
use Rattle.std.specs.Prelude.{Ok, Err}
use Rattle.operator.specs.declared.ArithmeticError.TheVariants.{OutOfRange}
use Rattle.operator.specs.declared.operators.Arithmetic.TheVariants.{Plus, Minus, Times}
use Rattle.operator.specs.declared.operators.Binary.TheVariants.{Arithmetic, Bitwise}
use Rattle.operator.specs.declared.operators.Connective.TheVariants.{Xor}
use Rattle.operator.specs.declared.operators.Unary.{Unary}
use Rattle.operator.specs.declared.operators.Unary.TheVariants.{Increment, Decrement, UnaryMinus, LogicalNot}
use Rattle.operator.specs.declared.operators.Unary.TheVariants.{BitwiseNot, Convert, Abs, Sq, Sqrt}

-- of a FLOAT 0 it is −0, as IEEE 754 negates
abbrev pub negated : Number → Number
negated (Char x) = Char (wrapped w8 (neg_ℤ x))
negated (Int x) = Int (wrapped w16 (neg_ℤ x))
negated (Float x) = Float (neg x)

unfoldable pub magnitude : Binary32 → Binary32
magnitude nan = nan
magnitude (inf s) = inf false
magnitude (fin s m e) = fin false m e

abbrev pub absolute : Number → Number
absolute (Char x) = Char (wrapped w8 (pos (nat_abs x)))
absolute (Int x) = Int (wrapped w16 (pos (nat_abs x)))
absolute (Float x) = Float (magnitude x)

-- Document 01: "of a whole number it is the whole root"; "8 [..] negative whole root".
abbrev pub whole_square_root : (ℤ → Number) → ℤ → Outcome
whole_square_root k (pos n) = Ok (k (pos (whole_root n)))
whole_square_root k (negsuc n) = Err OutOfRange

-- Document 01: "SQRT of a FLOAT is correctly rounded".
abbrev pub square_root : Number → Outcome
square_root (Char x) = whole_square_root Char x
square_root (Int x) = whole_square_root Int x
square_root (Float x) = Ok (Float (sqrt_of x))

-- Document 01: "INCREMENT adds 1." A CHAR operand leaves the other's type as it is, and CHAR −1 has every bit set at
-- either width.
unfoldable pub unary : Unary → Number → Outcome
unary Increment a = binary (Arithmetic Plus) a (Char (pos 1))
unary Decrement a = binary (Arithmetic Minus) a (Char (pos 1))
unary UnaryMinus a = Ok (negated a)
unary LogicalNot a = flag (is_zero a)
unary BitwiseNot a = binary (Bitwise Xor) a (Char (negsuc 0))
unary (Convert o) a = converted o a
unary Abs a = Ok (absolute a)
unary Sq a = binary (Arithmetic Times) a a
unary Sqrt a = square_root a
