-- PLUS, MINUS, TIMES, DIVIDEDBY and MODULUS.
use Rattle.std.specs.Prelude.{zero, suc, ℤ, pos, negsuc, ◌+ℤ◌, ◌-ℤ◌, ◌*ℤ◌, Float as Binary32}
use Rattle.std.specs.Int.Signed.{quot_z, rem_z}
use Rattle.std.specs.Float.{binary32}
use Rattle.std.specs.Float.Ieee.{add, sub, mul, div}
use Rattle.std.specs.Int.{Width, w8, w16}
use Rattle.integer.specs.Modular.{wrapped}
use Rattle.number.specs.declared.Number.{Number}
use Rattle.number.specs.declared.Number.TheVariants.{Char, Int, Float}
use Rattle.operator.specs.Outcome.{Outcome}
use Rattle.std.specs.Prelude.{Ok, Err}
use Rattle.operator.specs.declared.ArithmeticError.TheVariants.{DivisionByZero, OutOfRange}
use Rattle.operator.specs.declared.operators.Arithmetic.{Arithmetic}
use Rattle.operator.specs.declared.operators.Arithmetic.TheVariants.{Plus, Minus, Times, DividedBy, Modulus}
use Rattle.number.specs.declared.promotion.Pair.{Pair}
use Rattle.number.specs.declared.promotion.Pair.TheVariants.{Chars, Ints, Floats}

-- Document 01: "7 whole divisor zero".
abbrev pub divisible : ℤ → Outcome → Outcome
divisible (pos zero) o = Err DivisionByZero
divisible (pos (suc n)) o = o
divisible (negsuc n) o = o

-- Document 01: "otherwise the exact whole result is kept modulo 65,536, or 256 for CHAR. DIVIDEDBY on whole numbers
-- cuts toward zero; MODULUS has the dividend's sign." Two whole numbers of the width w; k is the type of the result.
unfoldable pub whole : Width → (ℤ → Number) → Arithmetic → ℤ → ℤ → Outcome
whole w k Plus x y = Ok (k (wrapped w (x +ℤ y)))
whole w k Minus x y = Ok (k (wrapped w (x -ℤ y)))
whole w k Times x y = Ok (k (wrapped w (x *ℤ y)))
whole w k DividedBy x y = divisible y (Ok (k (wrapped w (quot_z x y))))
whole w k Modulus x y = divisible y (Ok (k (wrapped w (rem_z x y))))

-- Two FLOATs. Document 01: "Bitwise and MODULUS refuse FLOAT": the pop refuses it first, so MODULUS is never asked
-- here.
unfoldable pub real : Arithmetic → Binary32 → Binary32 → Outcome
real Plus x y = Ok (Float (add binary32 x y))
real Minus x y = Ok (Float (sub binary32 x y))
real Times x y = Ok (Float (mul binary32 x y))
real DividedBy x y = Ok (Float (div binary32 x y))
real Modulus x y = Err OutOfRange

abbrev pub arithmetic : Arithmetic → Pair → Outcome
arithmetic o (Chars x y) = whole w8 Char o x y
arithmetic o (Ints x y) = whole w16 Int o x y
arithmetic o (Floats x y) = real o x y
