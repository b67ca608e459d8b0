-- POW.
use Rattle.std.specs.Prelude.{None, Option, Some}
use Rattle.std.specs.Prelude.{ℕ, zero, suc, cond, leb, ℤ, pos, negsuc, Float as Binary32}
use Rattle.std.proofs.Math.IntN.{pow}
use Rattle.std.specs.Float.{binary32}
use Rattle.std.specs.Float.Ieee.{of_int, mul}
use Rattle.std.specs.Int.{w8, w16}
use Rattle.integer.specs.Modular.{wrapped}
use Rattle.number.specs.Promotion.{promoted}
use Rattle.number.specs.declared.Number.{Number}
use Rattle.number.specs.declared.Number.TheVariants.{Char, Int, Float}
use Rattle.number.specs.declared.promotion.Pair.{Pair}
use Rattle.number.specs.declared.promotion.Pair.TheVariants.{Chars, Ints, Floats}
use Rattle.operator.specs.Outcome.{Outcome}
use Rattle.std.specs.Prelude.{Ok, Err}
use Rattle.operator.specs.declared.ArithmeticError.TheVariants.{OutOfRange}

-- Document 02, Q-3: "POW takes a whole y from 0 to 15, else fault 8".
abbrev pub max_exponent : ℕ
max_exponent = 15

abbrev pub whole_exponent : ℤ → Option ℕ
whole_exponent (pos n) = cond (leb n max_exponent) (Some n) None
whole_exponent (negsuc n) = None

-- "a FLOAT y is fault 6": the pop refuses it, so a FLOAT is never asked here.
abbrev pub exponent : Number → Option ℕ
exponent (Char y) = whole_exponent y
exponent (Int y) = whole_exponent y
exponent (Float y) = None

-- "multiplying from the left starting at 1": of whole numbers the library's power; of FLOATs one rounding for each
-- product
unfoldable pub power_real : Binary32 → ℕ → Binary32
power_real x zero = of_int binary32 (pos 1)
power_real x (suc n) = mul binary32 (power_real x n) x

-- "in the wider operand's type": the pair is both operands at it
abbrev pub raised : Pair → ℕ → Number
raised (Chars x y) n = Char (wrapped w8 (pow x n))
raised (Ints x y) n = Int (wrapped w16 (pow x n))
raised (Floats x y) n = Float (power_real x n)

abbrev pub raised_by : Pair → Option ℕ → Outcome
raised_by pair (Some n) = Ok (raised pair n)
raised_by pair None = Err OutOfRange

unfoldable pub power : Number → Number → Outcome
power x y = raised_by (promoted x y) (exponent y)
