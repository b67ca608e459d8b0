-- Document 02, Q-8: a plant's log, erased and created again by OPEN, or opened without erasing. The program lies at 161
-- to 169, the log from 170 on.
use Rattle.std.specs.Prelude.{ℕ, ◌≡◌, List, [], ◌∷◌, ◌++◌}
use Rattle.buffer.specs.Buffer.{part}
use Rattle.machine.specs.Answer.{Call, erase, other, run, store, turn}
use Rattle.machine.specs.Trace.{Storage}
use Rattle.literal_rows.specs.Calls.{formatted, left_by}
use Rattle.literal_rows.specs.Run.{log}

-- STRING "log", CHAR 4, OPEN, READSTRING
abbrev reader : List ℕ
reader = 3 ∷ 108 ∷ 111 ∷ 103 ∷ 0 ∷ 1 ∷ 4 ∷ 53 ∷ 59 ∷ []

abbrev tail : List ℕ
tail = 97 ∷ 98 ∷ 0 ∷ 99 ∷ 100 ∷ []

abbrev pub files : List Call
files = other (store (112 ∷ []) reader) ∷ other (store log tail) ∷ []

abbrev reads : List Call
reads = run (112 ∷ []) ∷ turn 0 0 ∷ turn 0 0 ∷ turn 0 0 ∷ turn 0 0 ∷ []

-- the five bytes from 170 on; of the record, open file, SP, share and the stack's first five bytes
abbrev seen : Storage → List ℕ
seen s = part s.disc 170 5 ++ part s.area 440 13

unfoldable pub NewFilesOnBytes : Type 0
NewFilesOnBytes =
    -- "OPEN now fills a file it creates with zeros": four, the fifth byte is no file's; the empty string is read
    (seen (left_by (files ++ (other (erase log) ∷ reads)) formatted)
    ≡ 0 ∷ 0 ∷ 0 ∷ 0 ∷ 100 ∷ 170 ∷ 0 ∷ 4 ∷ 0 ∷ 1 ∷ 0 ∷ 3 ∷ 0 ∷ 0 ∷ 1 ∷ 3 ∷ 0 ∷ 0 ∷ [])
    -- "they must open without erasing": "ab" is read
    × (seen (left_by (files ++ reads) formatted)
    ≡ 97 ∷ 98 ∷ 0 ∷ 99 ∷ 100 ∷ 170 ∷ 0 ∷ 5 ∷ 0 ∷ 3 ∷ 0 ∷ 5 ∷ 0 ∷ 97 ∷ 98 ∷ 0 ∷ 3 ∷ 3 ∷ [])
