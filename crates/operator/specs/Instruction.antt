-- Which instruction is which operator; the sets of types that a pop may take, and which of them an operator takes at
-- which place.
use Rattle.std.specs.Prelude.{ℕ, Bool, cond, ◌||◌, List, [], ◌∷◌, eqb}
use Rattle.std.specs.Prelude.{None, Option, Some}
use Rattle.operator.specs.declared.instruction.Types.{Types}
use Rattle.operator.specs.declared.instruction.Types.TheVariants.{AnyNumber, CharOrInt, IntOrFloat, CharOrFloat}
use Rattle.operator.specs.declared.instruction.Types.TheVariants.{AnyString, AnyValue}
use Rattle.operator.specs.declared.operators.Arithmetic.{Arithmetic}
use Rattle.operator.specs.declared.operators.Arithmetic.TheVariants.{Plus, Minus, Times, DividedBy, Modulus}
use Rattle.operator.specs.declared.operators.Binary.{Binary}
use Rattle.operator.specs.declared.operators.Binary.TheVariants.{Arithmetic as Calculates}
use Rattle.operator.specs.declared.operators.Binary.TheVariants.{Comparison as Compares}
use Rattle.operator.specs.declared.operators.Binary.TheVariants.{Logical, Bitwise, Extremum as Chooses}
use Rattle.operator.specs.declared.operators.Comparison.TheVariants.{Equals, NotEquals, LessThan, LessOrEqual}
use Rattle.operator.specs.declared.operators.Comparison.TheVariants.{GreaterThan, GreaterOrEqual}
use Rattle.operator.specs.declared.operators.Connective.TheVariants.{And, Or, Xor}
use Rattle.operator.specs.declared.operators.Conversion.{Conversion}
use Rattle.operator.specs.declared.operators.Conversion.TheVariants.{ToChar, ToInt, ToFloat, Round, Floor, Ceil}
use Rattle.operator.specs.declared.operators.Extremum.TheVariants.{Min, Max}
use Rattle.operator.specs.declared.operators.Operator.{Operator}
use Rattle.operator.specs.declared.operators.Operator.TheVariants.{OfOne, OfTwo, Scale}
use Rattle.operator.specs.declared.operators.Scaling.{Scaling}
use Rattle.operator.specs.declared.operators.Scaling.TheVariants.{Constrain, Map, Power}
use Rattle.operator.specs.declared.operators.Unary.{Unary}
use Rattle.operator.specs.declared.operators.Unary.TheVariants.{Increment, Decrement, UnaryMinus, LogicalNot}
use Rattle.operator.specs.declared.operators.Unary.TheVariants.{BitwiseNot, Convert, Abs, Sq, Sqrt}

-- Document 01: "Numbered 1 to 69 by place in appendix C".
abbrev pub binary_table : List (ℕ × Operator)
binary_table =
    (9, OfTwo (Calculates Plus)) ∷ (10, OfTwo (Calculates Minus)) ∷ (11, OfTwo (Calculates Times)) ∷
    (12, OfTwo (Calculates DividedBy)) ∷
    (13, OfTwo (Calculates Modulus)) ∷ (15, OfTwo (Compares Equals)) ∷ (16, OfTwo (Compares NotEquals)) ∷
    (17, OfTwo (Compares LessThan)) ∷
    (18, OfTwo (Compares LessOrEqual)) ∷ (19, OfTwo (Compares GreaterThan)) ∷ (20, OfTwo (Compares GreaterOrEqual)) ∷
    (21, OfTwo (Logical And)) ∷ (22, OfTwo (Logical Or)) ∷ (23, OfTwo (Logical Xor)) ∷ (25, OfTwo (Bitwise And)) ∷
    (26, OfTwo (Bitwise Or)) ∷
    (27, OfTwo (Bitwise Xor)) ∷ (35, OfTwo (Chooses Min)) ∷ (36, OfTwo (Chooses Max)) ∷ []

abbrev pub unary_table : List (ℕ × Operator)
unary_table =
    (7, OfOne Increment) ∷ (8, OfOne Decrement) ∷ (14, OfOne UnaryMinus) ∷ (24, OfOne LogicalNot) ∷
    (28, OfOne BitwiseNot) ∷
    (29, OfOne (Convert ToChar)) ∷ (30, OfOne (Convert ToInt)) ∷ (31, OfOne (Convert ToFloat)) ∷
    (32, OfOne (Convert Round)) ∷
    (33, OfOne (Convert Floor)) ∷ (34, OfOne (Convert Ceil)) ∷ (37, OfOne Abs) ∷ (41, OfOne Sq) ∷ (42, OfOne Sqrt) ∷ []

-- Document 02, Q-3: "CONSTRAIN, MAP and POW".
abbrev pub scaling_table : List (ℕ × Operator)
scaling_table = (38, Scale Constrain) ∷ (39, Scale Map) ∷ (40, Scale Power) ∷ []

unfoldable pub lookup : ℕ → List (ℕ × Operator) → Option Operator → Option Operator
lookup n [] other = other
lookup n (entry ∷ table) other = cond (eqb n entry.0) (Some entry.1) (lookup n table other)

unfoldable pub operator_of : ℕ → Option Operator
unfolding lookup
operator_of n = lookup n binary_table (lookup n unary_table (lookup n scaling_table None))

-- Document 01: "TOCHAR, TOINT, TOFLOAT take only the types of the guide's table 2."
abbrev pub conversion_types : Conversion → Types
conversion_types ToChar = IntOrFloat
conversion_types ToInt = CharOrFloat
conversion_types ToFloat = CharOrInt
conversion_types Round = AnyNumber
conversion_types Floor = AnyNumber
conversion_types Ceil = AnyNumber

abbrev pub unary_types : Unary → Types
unary_types Increment = AnyNumber
unary_types Decrement = AnyNumber
unary_types UnaryMinus = AnyNumber
unary_types LogicalNot = AnyNumber
unary_types BitwiseNot = CharOrInt
unary_types (Convert o) = conversion_types o
unary_types Abs = AnyNumber
unary_types Sq = AnyNumber
unary_types Sqrt = AnyNumber

-- Document 01: "Bitwise and MODULUS refuse FLOAT".
abbrev pub arithmetic_types : Arithmetic → Types
arithmetic_types Plus = AnyNumber
arithmetic_types Minus = AnyNumber
arithmetic_types Times = AnyNumber
arithmetic_types DividedBy = AnyNumber
arithmetic_types Modulus = CharOrInt

abbrev pub binary_types : Binary → Types
binary_types (Calculates o) = arithmetic_types o
binary_types (Compares o) = AnyNumber
binary_types (Logical o) = AnyNumber
binary_types (Bitwise o) = CharOrInt
binary_types (Chooses o) = AnyNumber

-- Document 02, Q-3: "POW takes a whole y [..]; a FLOAT y is fault 6." y is pushed second.
abbrev pub scaling_types : Scaling → ℕ → Types
scaling_types Constrain place = AnyNumber
scaling_types Map place = AnyNumber
scaling_types Power place = cond (eqb place 0) AnyNumber CharOrInt

-- The types that an operator takes at a place: 0 is that of the operand pushed first.
abbrev pub types_of : Operator → ℕ → Types
types_of (OfOne o) place = unary_types o
types_of (OfTwo o) place = binary_types o
types_of (Scale o) place = scaling_types o place

-- the type bytes: 1 CHAR, 2 INT, 3 STRING, 4 FLOAT
unfoldable pub includes : Types → ℕ → Bool
includes AnyNumber kind = eqb kind 1 || eqb kind 2 || eqb kind 4
includes CharOrInt kind = eqb kind 1 || eqb kind 2
includes IntOrFloat kind = eqb kind 2 || eqb kind 4
includes CharOrFloat kind = eqb kind 1 || eqb kind 4
includes AnyString kind = eqb kind 3
includes AnyValue kind = eqb kind 3 || (eqb kind 1 || eqb kind 2 || eqb kind 4)
