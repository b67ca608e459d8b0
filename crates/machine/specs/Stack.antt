-- Values on the stack: the list of the bytes below SP, bottom first.
use Rattle.std.specs.Prelude.{ℕ, ◌+◌, ◌-◌, Bool, true, false, cond, List, [], ◌∷◌, ◌++◌, eqb, leb, length, get_or, take}
use Rattle.buffer.specs.Buffer.{part}
use Rattle.buffer.specs.Lists.{same}
use Rattle.operator.specs.Instruction.{includes}
use Rattle.operator.specs.declared.instruction.Types.{Types}
use Rattle.operator.specs.declared.instruction.Types.TheVariants.{AnyString}
use Rattle.disc.specs.Name.{trimmed}

-- a value as it lies: its type, and its bytes without length and type
pub record Item : Type 0 where
  pub kind : ℕ
  pub bytes : List ℕ

-- what popping finds: a value and the stack below it, or a fault
pub data Popped : Type 0 where
  popped : Item → List ℕ → Popped
  cannot : ℕ → Popped

abbrev pub unless_fault : Bool → ℕ → Popped → Popped
unless_fault true fault rest = rest
unless_fault false fault rest = cannot fault

-- Document 01: "a string as bytes, length, 3"
abbrev pub string_kind : ℕ
string_kind = 3

-- Document 01: "A popped string must have length 1 or more and its only zero last."
unfoldable pub well_formed : List ℕ → Bool
well_formed bytes = same bytes (trimmed bytes ++ (0 ∷ []))

-- n is the stack's length; the type byte has been seen
unfoldable pub pop_string : List ℕ → ℕ → Popped
pop_string stack n =
    let len = get_or stack (n - 2) 0 in
    unless_fault (leb 2 n) 5
    (unless_fault (leb (len + 2) n) 5
    (unless_fault (well_formed (part stack (n - 2 - len) len)) 6
    (popped (record { kind = string_kind; bytes = part stack (n - 2 - len) len }) (take (n - 2 - len) stack))))

-- Document 01: "A value lies as its bytes, high byte first, then its type 1, 2 or 4": the type is the number of bytes
unfoldable pub pop_number : List ℕ → ℕ → ℕ → Popped
pop_number stack n kind =
    unless_fault (leb (kind + 1) n) 5
    (popped (record { kind = kind; bytes = part stack (n - 1 - kind) kind }) (take (n - 1 - kind) stack))

-- Document 01: "popping from the top, for each value 5 nothing there, 6 a type not taken here, 5 too few bytes below
-- it, 6 malformed string"
unfoldable pub pop : Types → List ℕ → Popped
unfolding pop_string pop_number
pop types stack =
    let n = length stack in
    let kind = get_or stack (n - 1) 0 in
    unless_fault (leb 1 n) 5
    (unless_fault (includes types kind) 6
    (cond (eqb kind string_kind) (pop_string stack n) (pop_number stack n kind)))

-- the string on top, less its zero; nothing where there is none
abbrev pub string_text : Popped → List ℕ
string_text (popped item rest) = trimmed item.bytes
string_text (cannot fault) = []

abbrev pub top_string : List ℕ → List ℕ
top_string stack = string_text (pop AnyString stack)

-- ---- pushing
abbrev pub push : List ℕ → ℕ → List ℕ → List ℕ
push stack kind bytes = stack ++ bytes ++ (kind ∷ [])

abbrev pub push_string : List ℕ → List ℕ → List ℕ
push_string stack bytes = stack ++ bytes ++ (length bytes ∷ string_kind ∷ [])

abbrev pub push_item : List ℕ → ℕ → List ℕ → List ℕ
push_item stack kind bytes = cond (eqb kind string_kind) (push_string stack bytes) (push stack kind bytes)
