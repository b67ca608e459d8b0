-- A run from format to turns, suspend and kill, against bytes written out at their offsets; no two fields of the first
-- record are alike but fault and share, both 0.
use Rattle.std.specs.Prelude.{ℕ, ◌≡◌, List, [], ◌∷◌, ◌++◌, ℤ, pos, replicate}
use Rattle.machine.specs.Answer.{Call, answer, command, files, list, other, run, store, turn}
use Rattle.machine.specs.Operations.{kill, suspend}
use Rattle.machine.specs.Trace.{Storage, lending}
use Rattle.literal_rows.specs.Calls.{formatted, laid, left_by, numbers}

-- ---- names and files
abbrev pub log : List ℕ
log = 108 ∷ 111 ∷ 103 ∷ []

abbrev lamp : List ℕ
lamp = 108 ∷ 97 ∷ 109 ∷ 112 ∷ []

abbrev tick : List ℕ
tick = 116 ∷ 105 ∷ 99 ∷ 107 ∷ []

abbrev log_bytes : List ℕ
log_bytes = 51 ∷ 52 ∷ 53 ∷ 54 ∷ 55 ∷ 56 ∷ 57 ∷ 58 ∷ 59 ∷ []

-- STRING "log", INT 9, OPEN, READINT, SET n; LOOP, INT 300, ENDLOOP; STOP
abbrev lamp_bytes : List ℕ
lamp_bytes = 3 ∷ 108 ∷ 111 ∷ 103 ∷ 0 ∷ 2 ∷ 0 ∷ 9 ∷ 53 ∷ 56 ∷ 5 ∷ 110 ∷ 65 ∷ 2 ∷ 1 ∷ 44 ∷ 66 ∷ 67 ∷ []

-- STRING "hi", SET s, STOP, and zeros to 120 bytes
abbrev tick_bytes : List ℕ
tick_bytes = 3 ∷ 104 ∷ 105 ∷ 0 ∷ 5 ∷ 115 ∷ 67 ∷ replicate 113 0

-- ---- the run
abbrev turns_of_lamp : List Call
turns_of_lamp = turn 0 7 ∷ turn 0 7 ∷ turn 0 7 ∷ turn 0 7 ∷ turn 0 7 ∷ turn 0 7 ∷ turn 0 7 ∷ []

abbrev pub calls : List Call
calls =
    other (store log log_bytes) ∷ other (store lamp lamp_bytes) ∷ other (store tick tick_bytes) ∷
    run lamp ∷ run tick ∷ run tick ∷ turns_of_lamp
    ++ (turn 1 7 ∷ turn 1 7 ∷ command suspend 2 ∷ command kill 3 ∷ [])

abbrev answers : List ℤ
answers =
    pos 0 ∷ pos 0 ∷ pos 0 ∷ pos 1 ∷ pos 2 ∷ pos 3 ∷
    pos 0 ∷ pos 0 ∷ pos 0 ∷ pos 0 ∷ pos 0 ∷ pos 0 ∷ pos 0 ∷
    pos 0 ∷ pos 0 ∷ pos 0 ∷ pos 0 ∷ []

-- ---- the bytes that it leaves
-- Document 01: "Ten directory entries of 16 bytes from 0: name 12, start 2, length 2. Byte 160 is the file count"
abbrev pub disc_bytes : List ℕ
disc_bytes =
    laid (replicate 1024 0)
    ((0, log ++ replicate 9 0 ++ (161 ∷ 0 ∷ 9 ∷ 0 ∷ [])) ∷
    (16, lamp ++ replicate 8 0 ++ (170 ∷ 0 ∷ 18 ∷ 0 ∷ [])) ∷
    (32, tick ++ replicate 8 0 ++ (188 ∷ 0 ∷ 120 ∷ 0 ∷ [])) ∷
    (160, 3 ∷ []) ∷ (161, log_bytes) ∷ (170, lamp_bytes) ∷ (188, tick_bytes) ∷ [])

-- Document 01, 'Work area': memory, entries, count, next ID, zeros; then the records, here of slots 0 to 2
abbrev pub area_bytes : List ℕ
area_bytes =
    laid (replicate 1056 0)
    -- n is INT 51 52, s the string "hi"
    ((0, 51 ∷ 52 ∷ 104 ∷ 105 ∷ 0 ∷ []) ∷
    -- name, type, address, size, process ID
    (256, 110 ∷ 2 ∷ 0 ∷ 2 ∷ 1 ∷ 0 ∷ []) ∷
    (262, 115 ∷ 3 ∷ 2 ∷ 3 ∷ 2 ∷ 0 ∷ []) ∷
    (406, 2 ∷ []) ∷
    (407, 4 ∷ 0 ∷ []) ∷
    -- slot 0: name; ID 1, running, fault 0; code 170, 18; PC 16, loop 13; file 161, 9, offset 2; SP 3, share 0; stack
    (416, lamp ++ replicate 8 0) ∷
    (428, 1 ∷ 0 ∷ 114 ∷ 0 ∷ []) ∷
    (432, 170 ∷ 0 ∷ 18 ∷ 0 ∷ []) ∷
    (436, 16 ∷ 0 ∷ 13 ∷ 0 ∷ []) ∷
    (440, 161 ∷ 0 ∷ 9 ∷ 0 ∷ 2 ∷ 0 ∷ []) ∷
    (446, 3 ∷ 0 ∷ []) ∷
    (448, 1 ∷ 44 ∷ 2 ∷ []) ∷
    -- slot 1: paused, no loop, no file, nothing on the stack
    (480, tick ++ replicate 8 0) ∷
    (492, 2 ∷ 0 ∷ 112 ∷ 0 ∷ 188 ∷ 0 ∷ 120 ∷ 0 ∷ 6 ∷ 0 ∷ 255 ∷ 255 ∷ []) ∷
    -- slot 2: ended, "keeps name, ID and fault (0 unless a fault) and is otherwise zero"
    (544, tick ++ replicate 8 0) ∷
    (556, 3 ∷ 0 ∷ []) ∷ [])

unfoldable pub RunOnBytes : Type 0
RunOnBytes = (numbers calls formatted ≡ answers) × ((left_by calls formatted).disc ≡ disc_bytes)
    × ((left_by calls formatted).area ≡ area_bytes)

-- ---- files and list of these bytes, lent more than they need
abbrev pub stored : Storage
stored = record { disc = disc_bytes; area = area_bytes }

abbrev outputs : List ℕ
outputs = replicate 40 238

-- "log 9", "lamp 18", "tick 120", each with a newline
abbrev files_text : List ℕ
files_text =
    108 ∷ 111 ∷ 103 ∷ 32 ∷ 57 ∷ 10 ∷ 108 ∷ 97 ∷ 109 ∷ 112 ∷ 32 ∷ 49 ∷ 56 ∷ 10 ∷
    116 ∷ 105 ∷ 99 ∷ 107 ∷ 32 ∷ 49 ∷ 50 ∷ 48 ∷ 10 ∷ []

-- "1 r lamp", "2 p tick"
abbrev list_text : List ℕ
list_text =
    49 ∷ 32 ∷ 114 ∷ 32 ∷ 108 ∷ 97 ∷ 109 ∷ 112 ∷ 10 ∷ 50 ∷ 32 ∷ 112 ∷ 32 ∷ 116 ∷ 105 ∷ 99 ∷ 107 ∷ 10 ∷ []

unfoldable pub Listings : Type 0
Listings =
    ((answer (other files) (lending stored outputs)).number ≡ pos 23)
    × ((answer (other files) (lending stored outputs)).out ≡ files_text ++ replicate 17 238)
    × ((answer (other list) (lending stored outputs)).number ≡ pos 18)
    × ((answer (other list) (lending stored outputs)).out ≡ list_text ++ replicate 22 238)
