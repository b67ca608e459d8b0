-- The bytes and the text of a number that fits its type are bytes, and a number of bytes fits.
use Prim.Native.Nat.{ℕ, suc, ◌+◌, ◌*◌, ◌/◌, ◌<◌}
use mathlib.Core.Bool.{Bool, true, false, cond}
use mathlib.Core.List.{List, ◌++◌}
use native.Mathlib.Omega.{arith}
use lib.Dec.{eqb}
use lib.Ieee.{binary32, of_bits, to_bits}
use lib.Ieee.Bits.{of_bits-fits, to_bits-lt}
use lib.IntN.{ℤ, pos, negsuc}
use lib.ListN.{get_or}
use mir.Syntax.{w8, w16}
use mir.Val.{of_z, to_z}
use mir.Facts.{Fits-of_z, sfits_to_z}
use Rattle.decimal.specs.Decimal.{decimal}
use Rattle.float.specs.Bits.{joined}
use Rattle.float.specs.Print.{printed_of}
use Rattle.float.specs.declared.print.Printed.{Printed}
use Rattle.float.specs.declared.print.Printed.TheVariants.{NotANumber, Infinite, Overflow, Hundredths}
use Rattle.number.specs.Text.{decimals, printed_text, sign, text_of, whole_text}
use Rattle.number.specs.Value.{number_of, value_bytes}
use Rattle.number.specs.declared.Number.{Number}
use Rattle.number.specs.declared.Number.TheVariants.{Char, Int, Float}
use Rattle.number.proofs.Encoding.{Fits}
use Rattle.buffer.proofs.ByteLists.{Bytes, append-bytes, byte_at, one_byte}
use Rattle.machine.proofs.Bytes.ByteTexts.{decimal-bytes}
use Rattle.buffer.proofs.Each.{Each}

pub value-bytes : (a : Number) → Fits a → Bytes (value_bytes a)
unfolding Each
value-bytes (Char x) f = one_byte _ (Fits-of_z f).fits
value-bytes (Int x) f =
    let h : of_z w16 x < 65536 = (Fits-of_z f).fits in
    (omega arith, (omega arith, tt))
value-bytes (Float x) f =
    let h : to_bits binary32 x < 4294967296 = to_bits-lt binary32 x f in
    (omega arith, (omega arith, (omega arith, (omega arith, tt))))

pub number_fits : (kind : ℕ) (bytes : List ℕ) → Bytes bytes → Fits (number_of kind bytes)
unfolding number_of
number_fits kind bytes h = go (eqb kind 1) (eqb kind 2)
  where
    char : Number
    char = Char (to_z w8 (get_or bytes 0 0))

    int : Number
    int = Int (to_z w16 (get_or bytes 0 0 * 256 + get_or bytes 1 0))

    float : Number
    float = Float (of_bits binary32 (joined (get_or bytes 0 0) (get_or bytes 1 0) (get_or bytes 2 0) (get_or bytes 3 0)))

    go : (is_char is_int : Bool) → Fits (cond is_char char (cond is_int int float))
    go true is_int = sfits_to_z (record { fits = byte_at bytes 0 h })
    go false true = sfits_to_z {n = get_or bytes 0 0 * 256 + get_or bytes 1 0}
        (record { fits = omega (arith, byte_at bytes 0 h, byte_at bytes 1 h) })
    go false false = of_bits-fits binary32 _

-- ---- what PRINT writes
sign-bytes : (s : Bool) → Bytes (sign s)
unfolding Each
sign-bytes true = one_byte 45 (omega arith)
sign-bytes false = tt

whole-text-bytes : (z : ℤ) → Bytes (whole_text z)
unfolding Each
whole-text-bytes (pos n) = decimal-bytes n
whole-text-bytes (negsuc n) = (omega arith, decimal-bytes (suc n))

printed-bytes : (p : Printed) → Bytes (printed_text p)
unfolding Each
printed-bytes NotANumber = (omega arith, (omega arith, (omega arith, tt)))
printed-bytes (Infinite s) = append-bytes (sign s) _ (sign-bytes s) (omega arith, (omega arith, (omega arith, tt)))
printed-bytes (Overflow s) = append-bytes (sign s) _ (sign-bytes s) (omega arith, (omega arith, (omega arith, tt)))
printed-bytes (Hundredths s h) =
    append-bytes (sign s) (decimal (h / 100) ++ decimals h) (sign-bytes s)
    (append-bytes (decimal (h / 100)) (decimals h) (decimal-bytes (h / 100)) (omega arith, (omega arith, (omega arith, tt))))

pub text-bytes : (a : Number) → Fits a → Bytes (text_of a)
unfolding text_of
text-bytes (Char x) f = one_byte _ (Fits-of_z f).fits
text-bytes (Int x) f = whole-text-bytes x
text-bytes (Float x) f = printed-bytes (printed_of x)
