-- A number in decimal digits.
use Rattle.std.specs.Prelude.{ℕ, zero, suc, ◌+◌, ◌/◌, ◌%◌, Bool, true, false, List, [], ◌∷◌, ◌++◌, leb}

abbrev pub if_more : Bool → List ℕ → List ℕ
if_more true l = l
if_more false l = []

-- the last digits of n, as many as it has and at most f, in ASCII
unfoldable pub last_digits : ℕ → ℕ → List ℕ
last_digits zero n = []
last_digits (suc f) n = if_more (leb 10 n) (last_digits f (n / 10)) ++ ((48 + n % 10) ∷ [])

-- as many digits as a 32-bit number may have
abbrev pub max_digits : ℕ
max_digits = 10

-- all digits of an n below 10 ^ 10, as every 32-bit number is
abbrev pub decimal : ℕ → List ℕ
decimal n = last_digits max_digits n
