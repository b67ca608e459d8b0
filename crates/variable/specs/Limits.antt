-- Variable memory and its table in numbers. Both lie at the front of the work area:
--
--     0    variable memory, 256
--     256  25 variable entries of 6: name 1, type 1, address 1, size 1, process ID 2
--     406  variable count
use Rattle.std.specs.Prelude.{ℕ}

-- Document 01: "0: variable memory, 256."
abbrev pub memory_size : ℕ
memory_size = 256

-- Document 01: "256: 25 variable entries"
abbrev pub max_variables : ℕ
max_variables = 25

abbrev pub entries_at : ℕ
entries_at = 256

abbrev pub entry_size : ℕ
entry_size = 6

abbrev pub count_at : ℕ
count_at = 406

-- memory, entries and count
abbrev pub variables_size : ℕ
variables_size = 407

-- Document 01: "size [..] 1 to 30 for type 3"
abbrev pub max_string : ℕ
max_string = 30

-- a value's bytes by themselves, zero-filled: as many as a stack holds
abbrev pub value_size : ℕ
value_size = 32
