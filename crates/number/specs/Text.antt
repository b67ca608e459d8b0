-- What PRINT writes of a number.
use Rattle.std.specs.Prelude.{ℕ, suc, ◌+◌, ◌/◌, ◌%◌, Bool, true, false, List, [], ◌∷◌, ◌++◌, ℤ, pos}
use Rattle.std.specs.Prelude.{negsuc}
use Rattle.std.specs.Int.{w8}
use Rattle.std.proofs.Common.{of_z}
use Rattle.decimal.specs.Decimal.{decimal}
use Rattle.float.specs.Print.{printed_of}
use Rattle.float.specs.declared.print.Printed.{Printed}
use Rattle.float.specs.declared.print.Printed.TheVariants.{NotANumber, Infinite, Overflow, Hundredths}
use Rattle.number.specs.declared.Number.{Number}
use Rattle.number.specs.declared.Number.TheVariants.{Char, Int, Float}

-- '-' or nothing
abbrev pub sign : Bool → List ℕ
sign true = 45 ∷ []
sign false = []

abbrev pub whole_text : ℤ → List ℕ
whole_text (pos n) = decimal n
whole_text (negsuc n) = 45 ∷ decimal (suc n)

-- '.' and the two decimals of h hundredths
abbrev pub decimals : ℕ → List ℕ
decimals h = 46 ∷ (48 + h / 10 % 10) ∷ (48 + h % 10) ∷ []

-- Document 01: "FLOAT to the nearest hundredth, half away from zero, two decimals, '-' if below zero; "nan", "inf",
-- "-inf"; "ovf" above 4294967040 and "-ovf" below its negative."
abbrev pub printed_text : Printed → List ℕ
printed_text NotANumber = 110 ∷ 97 ∷ 110 ∷ []
printed_text (Infinite s) = sign s ++ (105 ∷ 110 ∷ 102 ∷ [])
printed_text (Overflow s) = sign s ++ (111 ∷ 118 ∷ 102 ∷ [])
printed_text (Hundredths s h) = sign s ++ (decimal (h / 100) ++ decimals h)

-- Document 01: "PRINT: CHAR one byte; INT decimal".
unfoldable pub text_of : Number → List ℕ
text_of (Char x) = of_z w8 x ∷ []
text_of (Int x) = whole_text x
text_of (Float x) = printed_text (printed_of x)

-- what stands behind a text in its 16 bytes
abbrev pub zeros : List ℕ
zeros = 0 ∷ 0 ∷ 0 ∷ 0 ∷ 0 ∷ 0 ∷ 0 ∷ 0 ∷ 0 ∷ 0 ∷ 0 ∷ 0 ∷ 0 ∷ 0 ∷ 0 ∷ 0 ∷ []
