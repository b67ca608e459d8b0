-- SET: where a value goes, and what becomes of table and memory.
use Rattle.std.specs.Prelude.{ℕ, ◌+◌, ◌-◌, Bool, true, false, not, List, [], ◌∷◌, ◌++◌, map, eqb, ltb, length}
use Rattle.std.specs.Prelude.{replicate, set, take, Result, Ok, Err}
use Rattle.std.specs.Option.{ok_or}
use Rattle.buffer.specs.Buffer.{overwrite}
use Rattle.buffer.specs.Lists.{keep}
use Rattle.place.specs.Place.{place}
use Rattle.place.specs.declared.Run.{Run}
use Rattle.variable.specs.Limits.{max_variables, memory_size, value_size}
use Rattle.variable.specs.Table.{Cell, counted, freed, is_of, run_of}
use Rattle.variable.specs.declared.Assigned.{Assigned}
use Rattle.variable.specs.declared.Unplaced.{Unplaced}
use Rattle.variable.specs.declared.Unplaced.TheVariants.{NoEntry, NoRun}
use Rattle.variable.specs.declared.Value.{Value}
use Rattle.variable.specs.declared.Variable.{Variable}
use Rattle.variable.specs.declared.Variables.{Variables}

-- a value of these bytes, zero-filled
abbrev pub value_of : ℕ → List ℕ → Value
value_of kind bytes = record {
  kind = kind;
  size = length bytes;
  bytes = bytes
      ++ replicate (value_size - length bytes) 0;
}

-- the bytes of a value, as they lie on the stack without length and type
abbrev pub value_bytes : Value → List ℕ
value_bytes x = take x.size x.bytes

-- ---- a place for n bytes: among which runs, from where to where, how many entries are used and how many there are
-- its address, or why there is none
abbrev pub Placing : Type 0
Placing = Result ℕ Unplaced

abbrev pub if_entry : Bool → Placing → Placing
if_entry true p = p
if_entry false p = Err NoEntry

unfoldable pub placing : List Run → ℕ → ℕ → ℕ → ℕ → ℕ → Placing
placing runs low high used limit n = if_entry (ltb used limit) (ok_or (place runs low high n) NoRun)

-- all variables share one memory and one table
abbrev pub taken_runs : Variables → List Run
taken_runs v = map run_of (counted v)

abbrev pub low_end : ℕ
low_end = 0

abbrev pub high_end : ℕ
high_end = memory_size

abbrev pub entry_limit : ℕ
entry_limit = max_variables

unfoldable pub place_for : Variables → ℕ → Placing
place_for v n = placing (taken_runs v) low_end high_end v.count entry_limit n

-- Document 01, fault 10: "no variable entry or run"
abbrev pub placing_fault : Placing → ℕ
placing_fault (Ok a) = 0
placing_fault (Err e) = 10

-- ---- SET
abbrev pub new_variable : ℕ → ℕ → Value → ℕ → Variable
new_variable name id x a = record { name = name; kind = x.kind; address = a; size = x.size; owner = id }

-- the new entry last, the value's bytes in memory
unfoldable pub added : Variables → Variable → List ℕ → Variables
added v e bytes = record {
  memory = overwrite v.memory e.address bytes;
  entries = set v.entries v.count e;
  count = v.count + 1;
}

abbrev pub assign_at : Placing → Variables → Variables → ℕ → ℕ → Value → Assigned
assign_at (Ok a) v w name id x =
    record { placing = Ok a; variables = added w (new_variable name id x a) (value_bytes x) }
assign_at (Err NoEntry) v w name id x = record { placing = Err NoEntry; variables = v }
assign_at (Err NoRun) v w name id x = record { placing = Err NoRun; variables = v }

-- Document 01: "SET first frees the old variable"; its place is that of document 02, Q-10. A SET that finds no place
-- changes nothing.
unfoldable pub assigned : Variables → ℕ → ℕ → Value → Assigned
assigned v name id x =
    let w = freed v (is_of name id) in
    assign_at (place_for w x.size) v w name id x

-- ---- what a SET makes of its process's own variables
abbrev pub new_cell : ℕ → Value → Cell
new_cell name x = record { name = name; kind = x.kind; bytes = value_bytes x }

-- Document 01: "A SET without fault drops the old variable, then adds the new one"
unfoldable pub assigned_cells : List Cell → Cell → List Cell
assigned_cells cells new = keep (λ c. not (eqb c.name new.name)) cells ++ (new ∷ [])
