-- What an operator answers.
use Rattle.std.specs.Prelude.{ℕ, Bool, true, false, pos}
use Rattle.number.specs.declared.Number.{Number}
use Rattle.number.specs.declared.Number.TheVariants.{Char}
use Rattle.std.specs.Prelude.{Result, Ok, Err}
use Rattle.operator.specs.declared.ArithmeticError.{ArithmeticError}
use Rattle.operator.specs.declared.ArithmeticError.TheVariants.{DivisionByZero, OutOfRange}

abbrev pub Outcome : Type 0
Outcome = Result Number ArithmeticError

-- Document 01: "7 whole divisor zero; 8 conversion of NaN or to a whole outside the type's range, negative whole root".
-- 0: no fault.
abbrev pub fault_of : Outcome → ℕ
fault_of (Ok a) = 0
fault_of (Err DivisionByZero) = 7
fault_of (Err OutOfRange) = 8

-- The guide, tables 2 and 3: comparisons and logical operators push a CHAR; appendix C: 1 where it holds, else 0.
abbrev pub flag : Bool → Outcome
flag true = Ok (Char (pos 1))
flag false = Ok (Char (pos 0))
