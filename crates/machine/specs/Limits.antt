-- The work area in numbers, and how much output turns and rounds ask for.
--
--     0    variable memory, entries and count, 407 (crate variable)
--     407  next ID, 2
--     409  seven zeros
--     416  ten process records of 64: name 12, ID 2, state 1, fault 1, code start 2, code length 2, PC 2, loop 2,
--          file start 2, file length 2, file offset 2, SP 1, share 1, stack 32
use Rattle.std.specs.Prelude.{ℕ, ◌*◌}

-- Document 01: "Work area, 1,056 bytes."
abbrev pub area_length : ℕ
area_length = 1056

abbrev pub next_at : ℕ
next_at = 407

abbrev pub zeros_at : ℕ
zeros_at = 409

abbrev pub zeros_size : ℕ
zeros_size = 7

abbrev pub records_at : ℕ
records_at = 416

abbrev pub record_size : ℕ
record_size = 64

-- Document 01: "ten process records"
abbrev pub slot_count : ℕ
slot_count = 10

-- Document 01: "each process record carries its own 32-byte stack"
abbrev pub stack_size : ℕ
stack_size = 32

-- Document 01: "next ID 1 to 32768"
abbrev pub id_limit : ℕ
id_limit = 32768

-- Document 01, Turn: "at least 32 output bytes"
abbrev pub turn_room : ℕ
turn_room = 32

-- Document 02, Q-9: "The spare byte holds 1 to 8"
abbrev pub max_share : ℕ
max_share = 8

-- what the turns of one slot in a round may print
abbrev pub share_room : ℕ
share_room = max_share * turn_room

-- Document 02, Q-9: *Round* "needs 2,560 output bytes"
abbrev pub round_room : ℕ
round_room = 2560
