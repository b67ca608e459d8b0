-- Requests in code: what disc and area are after an answer, and what the code needs of an open file.
use Rattle.std.specs.Prelude.{ℕ, ◌+◌, ◌≤◌, ◌≡◌, Bool, cond, ◌&&◌, List, [], ◌∷◌, ◌++◌, eqb, leb, pos, length, take}
use Rattle.std.specs.Prelude.{Result, Ok, Err}
use Rattle.machine.specs.Area.{kernel_of}
use Rattle.machine.specs.Beyond.{Answered, file_run}
use Rattle.machine.specs.declared.fault.Fault.{Fault}
use Rattle.machine.specs.declared.fault.Fault.TheVariants.{NoOpenFile, PastEnd}
use Rattle.machine.specs.Stack.{string_kind}
use Rattle.machine.specs.State.{is_live}
use Rattle.machine.specs.Turn.{answering}
use Rattle.machine.specs.declared.OpenFile.{OpenFile}
use Rattle.machine.specs.declared.Process.{Process}
use Rattle.number.specs.Compare.{equals}
use Rattle.number.specs.declared.Number.{Number}
use Rattle.place.specs.declared.Run.{Run}
use Rattle.process.specs.Stepping.{Left, left_by, stack_of}
use Rattle.stack.specs.declared.Step.{Step}
use Rattle.store.specs.File.{read_at}

-- disc and area after an answer to the process in that slot
abbrev pub after : (disc area : List ℕ) → ℕ → Answered → Left
after disc area slot a = left_by (answering (kernel_of area) slot disc a)

abbrev pub run_from : ℕ → ℕ → Run
run_from start len = record { start = start; len = len }

-- ---- open files
-- a good area's file: its offset within it, and its bytes within the disc where one is open
pub record Lies (disc : List ℕ) (f : OpenFile) : Type 0 where
  pub offset : f.offset ≤ f.len
  pub inside : (f.len ≡ 0 → ⊥) → f.start + f.len ≤ length disc

-- n bytes lie ahead of the offset, in a file within the disc
pub record Ahead (disc : List ℕ) (f : OpenFile) (n : ℕ) : Type 0 where
  pub within : f.offset + n ≤ f.len
  pub inside : f.start + f.len ≤ length disc

-- Document 01: "11 no open file; 12 past the file's end"
unfoldable pub access_to : OpenFile → ℕ → Result (Unit {0}) Fault
access_to f n = cond (eqb f.len 0) (Err NoOpenFile) (cond (leb (f.offset + n) f.len) (Ok tt) (Err PastEnd))

-- the stack with a string of n bytes read onto it
abbrev pub text_read : List ℕ → Process → Step → ℕ → List ℕ
text_read disc p d n = take d.kept (stack_of p) ++ read_at disc (file_run p.file) p.file.offset n
    ++ (n ∷ string_kind ∷ [])

-- ---- WAITUNTILDONE
abbrev pub is_awaited_by : Number → Process → Bool
is_awaited_by id p = is_live p && equals id (pos p.id)
