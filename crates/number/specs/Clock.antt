-- A number against the clock.
use Rattle.std.specs.Prelude.{ℕ, Bool, false, ◌&&◌, ℤ, pos, ◌-ℤ◌, nat_le}
use Rattle.integer.specs.Modular.{residue}
use Rattle.number.specs.declared.Number.{Number}
use Rattle.number.specs.declared.Number.TheVariants.{Char, Int, Float}

-- Document 02, Q-4: "x minus the clock, modulo 65,536". The clock has 32 bits; modulo 65,536 the upper ones do not
-- matter.
abbrev pub ahead_by : ℤ → ℕ → ℕ
ahead_by x clock = residue 65536 (x -ℤ pos clock)

-- Document 02, Q-4: "is 1 to 32,767"
abbrev pub max_ahead : ℕ
max_ahead = 32767

abbrev pub whole_is_ahead : ℤ → ℕ → Bool
whole_is_ahead x clock = nat_le 1 (ahead_by x clock) && nat_le (ahead_by x clock) max_ahead

-- Document 02, Q-4: "CHAR is widened first. FLOAT becomes fault 6.": the pop refuses it, so it is never asked here.
abbrev pub is_ahead : Number → ℕ → Bool
is_ahead (Char x) clock = whole_is_ahead x clock
is_ahead (Int x) clock = whole_is_ahead x clock
is_ahead (Float x) clock = false
