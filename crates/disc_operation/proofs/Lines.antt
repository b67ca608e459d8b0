-- How long a line of *files* is, and how long all lines can be.
use Prim.Native.Nat.{ℕ, ◌+◌, ◌*◌, ◌≤◌}
use mathlib.Core.Path.{◌≡◌, ◌∙◌}
use mathlib.Core.List.{List, [], ◌∷◌}
use native.Mathlib.Omega.{arith}
use lib.ListN.{length}
use Rattle.buffer.specs.Buffer.{part}
use Rattle.buffer.proofs.Lines.{line-long, lines, lines-short}
use Rattle.decimal.specs.Decimal.{decimal, max_digits}
use Rattle.decimal.proofs.Laws.{digits-few}
use Rattle.disc.specs.Directory.{entry_at}
use Rattle.disc.specs.Layout.{entry_size, name_size}
use Rattle.disc.specs.Name.{trimmed}
use Rattle.disc.specs.declared.Entry.{Entry}
use Rattle.disc.proofs.Names.{field-short}
use Rattle.store.specs.Answer.{file_line}

pub file-line-long : (e : Entry) → length (file_line e) ≡ length (trimmed e.name) + length (decimal e.len) + 2
unfolding file_line
file-line-long e = line-long (trimmed e.name) (32 ∷ []) (decimal e.len) (10 ∷ []) ∙ omega arith

-- a name's field, the digits of a number, space and newline: the most that a line takes
pub files-short : (disc : List ℕ) (n : ℕ) → length (lines file_line (entry_at disc) n) ≤ n * (name_size + max_digits + 2)
unfolding entry_at
files-short disc = lines-short file_line (entry_at disc) (name_size + max_digits + 2) (λ i.
    let e = entry_at disc i in
    omega (arith, file-line-long e, digits-few max_digits e.len, field-short (part disc (i * entry_size) entry_size)))
