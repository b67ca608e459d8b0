-- Whole numbers out of a FLOAT, on its exact value. Definitions only.
use Rattle.std.specs.Prelude.{None, Option, Some}
use Rattle.std.specs.Prelude.{ℕ, zero, suc, ◌+◌, ◌-◌, ◌*◌, ◌/◌, Bool, true, false, cond, not, ◌&&◌, ℤ, pos, negsuc}
use Rattle.std.specs.Prelude.{neg_ℤ, int_le, Float}
use Rattle.std.specs.Float.{nan, inf, fin}
use Rattle.std.specs.Float.Ieee.{up, down}
use Rattle.float.specs.declared.whole.Rounding.{Rounding}
use Rattle.float.specs.declared.whole.Rounding.TheVariants.{TowardZero, HalfAway, Down, Up}

-- n / d to the nearest whole number, a half to the next one up
abbrev pub half_away : ℕ → ℕ → ℕ
half_away n d = (2 * n + d) / (2 * d)

-- n / d to the next whole number up, or cut
abbrev pub directed : Bool → ℕ → ℕ → ℕ
directed true n d = (n + (d - 1)) / d
directed false n d = n / d

-- Document 01: "TOINT and TOCHAR of a FLOAT cut toward zero; ROUND goes half away from zero." FLOOR goes down, CEIL up.
-- The size of the whole number for ±n / d, where s says whether it is negative.
abbrev pub whole_size : Rounding → Bool → ℕ → ℕ → ℕ
whole_size TowardZero s n d = directed false n d
whole_size HalfAway s n d = half_away n d
whole_size Down s n d = directed s n d
whole_size Up s n d = directed (not s) n d

abbrev pub signed : Bool → ℕ → ℤ
signed false q = pos q
signed true q = neg_ℤ (pos q)

-- Document 01: "conversion of NaN or to a whole outside the type's range". max is the type's greatest whole; its least
-- is -max - 1.
abbrev pub in_range : ℕ → ℤ → Bool
in_range max z = int_le (negsuc max) z && int_le z (pos max)

abbrev pub within : ℕ → ℤ → Option ℤ
within max z = cond (in_range max z) (Some z) None

-- The test comes after cutting or rounding.
unfoldable pub whole_of : Rounding → ℕ → Float → Option ℤ
whole_of rounding max nan = None
whole_of rounding max (inf s) = None
whole_of rounding max (fin s m e) = within max (signed s (whole_size rounding s (m * up e) (down e)))

-- Document 01: "size (cut toward zero; NaN and infinities count as refused sizes)". A size is from 1 to max.
abbrev pub sized : Option ℤ → Option ℕ
sized (Some (pos zero)) = None
sized (Some (pos (suc n))) = Some (suc n)
sized (Some (negsuc n)) = None
sized None = None

unfoldable pub size_of : ℕ → Float → Option ℕ
unfolding whole_of
size_of max x = sized (whole_of TowardZero max x)
