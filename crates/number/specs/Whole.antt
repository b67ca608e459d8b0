-- Two whole numbers compared.
use Rattle.std.specs.Prelude.{Bool, false, ℤ, pos, negsuc, ◌==◌}

abbrev pub equal : ℤ → ℤ → Bool
equal (pos a) (pos b) = a == b
equal (pos a) (negsuc b) = false
equal (negsuc a) (pos b) = false
equal (negsuc a) (negsuc b) = a == b
