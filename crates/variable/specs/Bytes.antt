-- The variables and their bytes, one made from the other: the first 407 of a buffer.
use Rattle.std.specs.Prelude.{ℕ, ◌+◌, ◌*◌, List, [], ◌∷◌, ◌++◌, get_or, set, take}
use Rattle.buffer.specs.Buffer.{part, word_at, word_bytes}
use Rattle.buffer.specs.Lists.{flat, tab}
use Rattle.variable.specs.Limits.{count_at, entries_at, entry_size, max_variables, memory_size}
use Rattle.variable.specs.declared.Variable.{Variable}
use Rattle.variable.specs.declared.Variables.{Variables}

abbrev pub variable_of : List ℕ → Variable
variable_of b =
    record {
      name = get_or b 0 0;
      kind = get_or b 1 0;
      address = get_or b 2 0;
      size = get_or b 3 0;
      owner = word_at b 4;
    }

abbrev pub variable_bytes : Variable → List ℕ
variable_bytes e = e.name ∷ e.kind ∷ e.address ∷ e.size ∷ word_bytes e.owner

-- the entry at place i, as the bytes in place say it
abbrev pub variable_in : List ℕ → ℕ → Variable
variable_in bytes i = variable_of (part bytes (entries_at + i * entry_size) entry_size)

unfoldable pub variables_of : List ℕ → Variables
variables_of bytes = record {
  memory = take memory_size bytes;
  entries = tab (variable_in bytes) max_variables;
  count = get_or bytes count_at 0;
}

abbrev pub variables_bytes : Variables → List ℕ
variables_bytes v = v.memory ++ flat variable_bytes v.entries ++ (v.count ∷ [])

-- ---- with another memory, other entries, one other entry, another count
abbrev pub with_memory : Variables → List ℕ → Variables
with_memory v m = record { memory = m; entries = v.entries; count = v.count }

abbrev pub with_entries : Variables → List Variable → Variables
with_entries v l = record { memory = v.memory; entries = l; count = v.count }

abbrev pub with_entry : Variables → ℕ → Variable → Variables
with_entry v i e = with_entries v (set v.entries i e)

abbrev pub with_count : Variables → ℕ → Variables
with_count v n = record { memory = v.memory; entries = v.entries; count = n }
