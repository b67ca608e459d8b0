-- TOCHAR, TOINT, TOFLOAT, ROUND, FLOOR and CEIL.
use Rattle.std.specs.Prelude.{None, Option, Some}
use Rattle.std.specs.Prelude.{◌%◌, ℤ, Float as Binary32}
use Rattle.std.specs.Float.{binary32}
use Rattle.std.specs.Float.Ieee.{of_int}
use Rattle.std.specs.Int.{w8, w16}
use Rattle.std.proofs.Common.{to_z, of_z}
use Rattle.float.specs.Whole.{whole_of}
use Rattle.float.specs.declared.whole.Rounding.TheVariants.{TowardZero, HalfAway, Down, Up}
use Rattle.number.specs.declared.Number.{Number}
use Rattle.number.specs.declared.Number.TheVariants.{Char, Int, Float}
use Rattle.operator.specs.Outcome.{Outcome}
use Rattle.std.specs.Prelude.{Ok, Err}
use Rattle.operator.specs.declared.ArithmeticError.TheVariants.{OutOfRange}
use Rattle.operator.specs.declared.operators.Conversion.{Conversion}
use Rattle.operator.specs.declared.operators.Conversion.TheVariants.{ToChar, ToInt, ToFloat, Round, Floor, Ceil}

-- Document 01: "TOCHAR of an INT keeps the low byte." The guide, table 2: ROUND, FLOOR and CEIL push an INT; of a whole
-- number it is that number.
unfoldable pub converted_whole : Conversion → ℤ → Outcome
converted_whole ToChar x = Ok (Char (to_z w8 (of_z w16 x % 256)))
converted_whole ToInt x = Ok (Int x)
converted_whole ToFloat x = Ok (Float (of_int binary32 x))
converted_whole Round x = Ok (Int x)
converted_whole Floor x = Ok (Int x)
converted_whole Ceil x = Ok (Int x)

-- Document 01: "8 conversion of NaN or to a whole outside the type's range". k is the type.
abbrev pub value_or : (ℤ → Number) → Option ℤ → Outcome
value_or k (Some z) = Ok (k z)
value_or k None = Err OutOfRange

-- Document 01: "TOINT and TOCHAR of a FLOAT cut toward zero; ROUND goes half away from zero." TOFLOAT of a FLOAT is
-- never asked: the pop refuses it.
unfoldable pub converted_float : Conversion → Binary32 → Outcome
converted_float ToChar x = value_or Char (whole_of TowardZero 127 x)
converted_float ToInt x = value_or Int (whole_of TowardZero 32767 x)
converted_float ToFloat x = Ok (Float x)
converted_float Round x = value_or Int (whole_of HalfAway 32767 x)
converted_float Floor x = value_or Int (whole_of Down 32767 x)
converted_float Ceil x = value_or Int (whole_of Up 32767 x)

abbrev pub converted : Conversion → Number → Outcome
converted o (Char x) = converted_whole o x
converted o (Int x) = converted_whole o x
converted o (Float x) = converted_float o x
