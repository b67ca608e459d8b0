-- What PRINT shows of a FLOAT, on its exact value. Definitions only.
use Rattle.std.specs.Prelude.{ℕ, ◌*◌, Bool, cond, not, ◌&&◌, ◌==◌, nat_lt, Float}
use Rattle.std.specs.Float.{nan, inf, fin}
use Rattle.std.specs.Float.Ieee.{up, down}
use Rattle.float.specs.Whole.{half_away}
use Rattle.float.specs.declared.print.Printed.{Printed}
use Rattle.float.specs.declared.print.Printed.TheVariants.{NotANumber, Infinite, Overflow, Hundredths}

-- Document 01: "FLOAT to the nearest hundredth, half away from zero, two decimals, '-' if below zero; [..] "ovf" above
-- 4294967040 and "-ovf" below its negative." ±n / d, where below says whether it is below zero.
abbrev pub printed_fraction : Bool → ℕ → ℕ → Printed
printed_fraction below n d = cond (nat_lt (4294967040 * d) n) (Overflow below)
    (Hundredths below (half_away (100 * n) d))

unfoldable pub printed_of : Float → Printed
printed_of nan = NotANumber
printed_of (inf s) = Infinite s
printed_of (fin s m e) = printed_fraction (s && not (m == 0)) (m * up e) (down e)
