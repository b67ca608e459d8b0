-- A FLOAT against a whole number, exactly. Definitions only.
use Rattle.std.specs.Prelude.{suc, Bool, true, false, ℤ, pos, negsuc, Float}
use Rattle.std.specs.Float.{fin}
use Rattle.std.specs.Float.Ieee.{eq}

-- a whole number as a value that no format has rounded
abbrev pub exact : ℤ → Float
exact (pos n) = fin false n (pos 0)
exact (negsuc n) = fin true (suc n) (pos 0)

-- Document 01: "WAITUNTILDONE stays while a live process has that ID."
abbrev pub equals : Float → ℤ → Bool
equals x z = eq x (exact z)

-- Document 01: "NaN counts as not zero, −0 as zero."
abbrev pub is_zero : Float → Bool
is_zero x = equals x (pos 0)
