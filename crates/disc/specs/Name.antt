-- File names: as they are given, and as the directory holds them.
use Rattle.std.specs.Prelude.{ℕ, ◌-◌, Bool, true, false, ◌&&◌, List, [], ◌∷◌, ◌++◌, eqb, leb, length, replicate}
use Rattle.buffer.specs.Lists.{all, same}
use Rattle.disc.specs.Layout.{max_name, name_size}

abbrev pub is_name_byte : ℕ → Bool
is_name_byte b = leb 33 b && leb b 126

-- Document 01: "A name is 1 to 11 bytes of 33 to 126, zero-filled."
unfoldable pub good_name : List ℕ → Bool
good_name name = leb 1 (length name) && (leb (length name) max_name && all is_name_byte name)

-- zero-filled to an entry's twelve bytes
abbrev pub padded : List ℕ → List ℕ
padded name = name ++ replicate (name_size - length name) 0

abbrev pub unless_zero : Bool → ℕ → List ℕ → List ℕ
unless_zero true b l = []
unless_zero false b l = b ∷ l

-- the bytes before the first zero
unfoldable pub trimmed : List ℕ → List ℕ
trimmed [] = []
trimmed (b ∷ l) = unless_zero (eqb b 0) b (trimmed l)

-- an entry's twelve bytes hold a good name and zeros behind it
unfoldable pub good_field : List ℕ → Bool
good_field field = good_name (trimmed field) && same field (padded (trimmed field))
