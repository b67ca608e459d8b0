-- Document 01's bench cases K1 to K11, and the wait of document 02's Q-4, through the calls: the program stored under
-- "p" and run, its turns taken, and what then stands in the bytes of its record, in slot 0.
use Rattle.std.specs.Prelude.{ℕ, ◌≡◌, List, [], ◌∷◌, ℤ, pos, negsuc, get_or, replicate, take}
use Rattle.buffer.specs.Buffer.{part}
use Rattle.machine.specs.Answer.{Answer, answer, other, run, store, turn}
use Rattle.machine.specs.Trace.{Storage, lending, storage_of}
use Rattle.rows.specs.Bench.{Progress, Result, Row, reached, refused, runs_at, runs_in_kernel, shows, stopped, stores}
use Rattle.rows.specs.Bench.{turns}
use Rattle.rows.specs.Cases.{cases, waits}
use Rattle.literal_rows.specs.Calls.{formatted, left_by, room}

abbrev loaded : List ℕ → Storage
loaded program = left_by (other (store (112 ∷ []) program) ∷ run (112 ∷ []) ∷ []) formatted

-- a turn prints as many bytes of the output as it returns
abbrev progress : ℤ → Answer → Progress Storage
progress (pos n) a = reached (take n a.out) (storage_of a)
progress (negsuc n) a = stopped

abbrev turn_of_first : ℕ → Storage → Progress Storage
turn_of_first clock s = let a = answer (turn 0 clock) (lending s room) in progress a.number a

-- of the record at 416: the fault at 15, SP at 30, the stack at 32
abbrev shown : Progress Storage → Result
shown (reached text s) = shows (take (get_or s.area 446 0) (part s.area 448 32)) (get_or s.area 431 0) text
shown stopped = refused

abbrev pub on_bytes : List ℕ → List ℕ → Result
on_bytes program clocks = shown (turns turn_of_first (reached [] (loaded program)) clocks)

abbrev pub OnBytes : List Row → Type 0
OnBytes [] = Unit
OnBytes (runs_at program clocks seen ∷ rows) = (on_bytes program clocks ≡ seen) × OnBytes rows
OnBytes (runs_in_kernel program n seen ∷ rows) = (on_bytes program (replicate n 0) ≡ seen) × OnBytes rows
OnBytes (stores calls n start ∷ rows) = OnBytes rows

unfoldable pub BenchOnBytes : Type 0
BenchOnBytes = OnBytes cases

unfoldable pub WaitsOnBytes : Type 0
WaitsOnBytes = OnBytes waits
