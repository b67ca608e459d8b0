-- Document 02, Q-3: rows computed of the definitions.
use Rattle.std.specs.Prelude.{ℕ, false, List, [], ◌∷◌, ◌≡◌, pos, negsuc}
use Rattle.std.specs.Float.{binary32, inf, nan}
use Rattle.std.specs.Float.Ieee.{of_bits}
use Rattle.number.specs.declared.Number.{Number}
use Rattle.number.specs.declared.Number.TheVariants.{Char, Int, Float}
use Rattle.operator.specs.Outcome.{Outcome}
use Rattle.std.specs.Prelude.{Ok, Err}
use Rattle.operator.specs.declared.ArithmeticError.TheVariants.{DivisionByZero, OutOfRange}
use Rattle.scaling.specs.Constrain.{constrained}
use Rattle.scaling.specs.Map.{mapped}
use Rattle.scaling.specs.Power.{power}

-- CHARs, INTs, and FLOATs by their bits
abbrev char : ℕ → Number
char n = Char (pos n)

abbrev int : ℕ → Number
int n = Int (pos n)

abbrev float : ℕ → Number
float n = Float (of_bits binary32 n)

-- what an operator answers, and what is written beside it
abbrev pub Rows : List (Outcome × Outcome) → Type 0
Rows [] = Unit {0}
Rows (row ∷ rows) = (row.0 ≡ row.1) × Rows rows

abbrev pub constrain_rows : List (Outcome × Outcome)
constrain_rows =
    -- mixed types: the widest of the three, whichever is given
    (Ok (constrained (char 5) (char 1) (int 3)), Ok (int 3)) ∷
    (Ok (constrained (int 50) (char 10) (char 100)), Ok (int 50)) ∷
    (Ok (constrained (Char (negsuc 4)) (float 1065353216) (char 7)), Ok (float 1065353216)) ∷
    -- with a above b the answer is b
    (Ok (constrained (char 5) (int 300) (char 7)), Ok (int 7)) ∷
    -- NaN x gives NaN; NaN a or b is passed over: the upper bound 3 alone, the lower bound 7 alone
    (Ok (constrained (Float nan) (char 1) (char 3)), Ok (Float nan)) ∷
    (Ok (constrained (char 5) (Float nan) (char 3)), Ok (float 1077936128)) ∷
    (Ok (constrained (char 5) (char 7) (Float nan)), Ok (float 1088421888)) ∷ []

abbrev pub map_rows : List (Outcome × Outcome)
map_rows =
    -- "the quotient cut toward zero": −7 / 2
    (mapped (Int (negsuc 6)) (int 0) (int 2) (int 0) (int 1), Ok (Int (negsuc 2))) ∷
    -- "exact": 65,535 × 65,535 between
    (mapped (int 32767) (Int (negsuc 32767)) (int 32767) (Int (negsuc 32767)) (int 32767), Ok (int 32767)) ∷
    -- "the result reduced to the widest type": 200 of five CHARs, and where one is an INT
    (mapped (char 100) (char 0) (char 1) (char 0) (char 2), Ok (Char (negsuc 55))) ∷
    (mapped (char 100) (char 0) (char 1) (int 0) (char 2), Ok (int 200)) ∷
    -- "there equal b and c give fault 7", and with a FLOAT infinity and NaN
    (mapped (char 1) (char 4) (int 4) (char 0) (char 1), Err DivisionByZero) ∷
    (mapped (float 1065353216) (char 0) (char 0) (char 0) (char 1), Ok (Float (inf false))) ∷
    (mapped (char 0) (char 0) (char 0) (float 0) (char 1), Ok (Float nan)) ∷
    -- "each operation rounds once, as written": 3 × 5 / 9 + 1; with one rounding, or divided first, 1076538027
    (mapped (float 1077936128) (char 0) (char 9) (char 1) (char 6), Ok (float 1076538026)) ∷ []

abbrev pub power_rows : List (Outcome × Outcome)
power_rows =
    -- −2 to the power of 15 in INT and in CHAR, 0 to the power of 0
    (power (Int (negsuc 1)) (char 15), Ok (Int (negsuc 32767))) ∷
    (power (Char (negsuc 1)) (char 15), Ok (char 0)) ∷
    (power (char 0) (char 0), Ok (char 1)) ∷
    -- "in the wider operand's type"
    (power (char 2) (char 7), Ok (Char (negsuc 127))) ∷
    (power (char 2) (int 7), Ok (int 128)) ∷
    -- "a whole y from 0 to 15, else fault 8"
    (power (char 1) (Char (negsuc 0)), Err OutOfRange) ∷
    (power (char 1) (char 16), Err OutOfRange) ∷
    -- 1.2 four times; by squares it is 1074050525
    (power (float 1067030938) (char 4), Ok (float 1074050526)) ∷
    (power (Float nan) (char 0), Ok (float 1065353216)) ∷ []

unfoldable pub ScalingRows : Type 0
ScalingRows = Rows constrain_rows × Rows map_rows × Rows power_rows
