-- Bytes written out at their offsets, and calls one after another.
use Rattle.std.specs.Prelude.{ℕ, List, [], ◌∷◌, ℤ, replicate}
use Rattle.buffer.specs.Buffer.{overwrite}
use Rattle.machine.specs.Answer.{Call, answer, format_answer}
use Rattle.machine.specs.Limits.{round_room}
use Rattle.machine.specs.Trace.{Storage, lending, storage_of}

-- each run of bytes laid over a list at its offset
unfoldable pub laid : List ℕ → List (ℕ × List ℕ) → List ℕ
laid l [] = l
laid l (run ∷ runs) = laid (overwrite l run.0 run.1) runs

-- what every call is lent
abbrev pub room : List ℕ
room = replicate round_room 0

-- Document 01: "Format zeroes the disc, then boots." It takes any bytes.
abbrev pub formatted : Storage
formatted = storage_of (format_answer (lending (record { disc = replicate 1024 255; area = replicate 1056 255 }) []))

unfoldable pub numbers : List Call → Storage → List ℤ
numbers [] s = []
numbers (c ∷ cs) s = let a = answer c (lending s room) in a.number ∷ numbers cs (storage_of a)

unfoldable pub left_by : List Call → Storage → Storage
left_by [] s = s
left_by (c ∷ cs) s = left_by cs (storage_of (answer c (lending s room)))
