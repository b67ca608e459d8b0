-- The variable table and the memory that all processes share.
--
--     memory   256 bytes
-- entries 25 of name 1, type 1, address 1, size 1, process ID 2; the first count of them are variables, the others are
-- not read
use Rattle.std.specs.Prelude.{Option}
use Rattle.std.specs.Prelude.{ℕ, ◌-◌, Bool, ◌&&◌, ◌||◌, not, List, ◌++◌, map, ◌≡◌, eqb, length, replicate, take, drop}
use Rattle.buffer.specs.Buffer.{part}
use Rattle.buffer.specs.Lists.{index, keep}
use Rattle.place.specs.declared.Run.{Run}
use Rattle.variable.specs.Limits.{max_variables, memory_size}
use Rattle.variable.specs.declared.Variable.{Variable}
use Rattle.variable.specs.declared.Variables.{Variables}

-- Document 01: "Entries beyond a count [..] are not read."
abbrev pub counted : Variables → List Variable
counted v = take v.count v.entries

-- the arrays have their lengths
pub record Shaped (v : Variables) : Type 0 where
  pub memory : length v.memory ≡ memory_size
  pub entries : length v.entries ≡ max_variables

-- ---- whose a variable is
abbrev pub owned_by : ℕ → Variable → Bool
owned_by id e = eqb e.owner id

-- the variable of that name and process
abbrev pub is_of : ℕ → ℕ → Variable → Bool
is_of name id e = eqb e.name name && eqb e.owner id

unfoldable pub find : Variables → ℕ → ℕ → Option ℕ
find v name id = index (is_of name id) (counted v)

-- ---- what a variable holds
abbrev pub run_of : Variable → Run
run_of e = record { start = e.address; len = e.size }

-- Document 01: "variables: name, type, value bytes"
pub record Cell : Type 0 where
  pub name : ℕ
  pub kind : ℕ
  pub bytes : List ℕ

abbrev pub cell_of : List ℕ → Variable → Cell
cell_of memory e = record { name = e.name; kind = e.kind; bytes = part memory e.address e.size }

-- the variables counted under a process's ID, in table order
unfoldable pub owned : Variables → ℕ → List Cell
owned v id = map (cell_of v.memory) (keep (owned_by id) (counted v))

-- ---- freeing
abbrev pub no_variable : Variable
no_variable = record { name = 0; kind = 0; address = 0; size = 0; owner = 0 }

-- Document 01: "Freed memory keeps its bytes; freed entries close up, zeros behind."
unfoldable pub freed : Variables → (Variable → Bool) → Variables
freed v gone =
    let kept = keep (λ e. not (gone e)) (counted v) in
    record {
      memory = v.memory;
      entries = kept ++ replicate (v.count - length kept) no_variable
          ++ drop v.count v.entries;
      count = length kept;
    }

-- Document 01: "Ending (STOP, kill, fault) frees the process's variables."
abbrev pub freed_all : Variables → ℕ → Variables
freed_all v id = freed v (owned_by id)

-- one test for both ways of freeing: every variable of a process, or the one of that name
abbrev pub is_gone : Bool → ℕ → ℕ → Variable → Bool
is_gone every name id e = (every || eqb e.name name) && eqb e.owner id
