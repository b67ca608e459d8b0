-- Parts of byte buffers, and their two-byte fields.
use Rattle.std.specs.Prelude.{ℕ, ◌+◌, ◌*◌, ◌/◌, ◌%◌, List, [], ◌∷◌, ◌++◌, length, get_or, take, drop, replicate}

-- n bytes from place at
abbrev pub part : List ℕ → ℕ → ℕ → List ℕ
part l at n = take n (drop at l)

-- s laid over l from place at; every other byte stays
abbrev pub overwrite : List ℕ → ℕ → List ℕ → List ℕ
overwrite l at s = take at l ++ s ++ drop (at + length s) l

abbrev pub zeros : ℕ → List ℕ
zeros n = replicate n 0

-- Document 01: "Two-byte fields of both buffers are low byte first."
abbrev pub word_at : List ℕ → ℕ → ℕ
word_at l at = get_or l at 0 + get_or l (at + 1) 0 * 256

-- four bytes as one number, low byte first: two fields, or a third of a name
unfoldable pub four_at : List ℕ → ℕ → ℕ
four_at l at = word_at l at + word_at l (at + 2) * 65536

abbrev pub word_bytes : ℕ → List ℕ
word_bytes w = w % 256 ∷ w / 256 ∷ []
