-- Document 01 on the two zeros of FLOAT: which of them MIN gives, and that neither is printed with '-'. Assumes nothing.
use mathlib.Core.Path.{◌≡◌, refl}
use mathlib.Core.List.{[], ◌∷◌}
use lib.Ieee.{Float as Binary32, binary32, lt, of_bits}
use Rattle.decimal.specs.Decimal.{last_digits}
use Rattle.float.specs.Print.{printed_of}
use Rattle.operator.specs.Binary.{binary, ordered_floats}
use Rattle.number.specs.Text.{text_of}
use Rattle.number.specs.declared.Number.TheVariants.{Float}
use Rattle.std.specs.Prelude.{Ok}
use Rattle.operator.specs.declared.operators.Binary.TheVariants.{Extremum}
use Rattle.operator.specs.declared.operators.Extremum.TheVariants.{Min}

zero : Binary32
unfolding of_bits
zero = of_bits binary32 0

minus_zero : Binary32
unfolding of_bits
minus_zero = of_bits binary32 2147483648

-- "MIN gives the operand pushed first unless the second is less": of 0 and −0 the first
min-of-zeros : binary (Extremum Min) (Float zero) (Float minus_zero) ≡ Ok (Float zero)
unfolding binary ordered_floats lt zero minus_zero of_bits
min-of-zeros = refl

-- "'-' if below zero": −0 is not
minus-zero : text_of (Float minus_zero) ≡ 48 ∷ 46 ∷ 48 ∷ 48 ∷ []
unfolding text_of printed_of minus_zero of_bits last_digits
minus-zero = refl
