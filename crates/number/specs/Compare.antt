-- A number against a whole number, exactly.
use Rattle.std.specs.Prelude.{Option}
use Rattle.std.specs.Prelude.{ℕ, Bool, ℤ}
use Rattle.float.specs.Compare.{equals as equals_float}
use Rattle.float.specs.Whole.{within, sized, size_of}
use Rattle.number.specs.Whole.{equal}
use Rattle.number.specs.declared.Number.{Number}
use Rattle.number.specs.declared.Number.TheVariants.{Char, Int, Float}

-- Document 01: "WAITUNTILDONE stays while a live process has that ID."
abbrev pub equals : Number → ℤ → Bool
equals (Char x) z = equal x z
equals (Int x) z = equal x z
equals (Float x) z = equals_float x z

-- Document 01: "size (cut toward zero; NaN and infinities count as refused sizes)". A size is from 1 to max.
abbrev pub size_within : ℕ → Number → Option ℕ
size_within max (Char x) = sized (within max x)
size_within max (Int x) = sized (within max x)
size_within max (Float x) = size_of max x
