-- A file that OPEN creates, and READSTRING as the next instruction of the same process.
use Rattle.std.specs.Prelude.{None, Option, Some}
use Rattle.std.specs.Prelude.{ℕ, ◌+◌, ◌≡◌, Bool, true, false, ◌||◌, not, List, [], ◌∷◌, ◌++◌, eqb, pos}
use Rattle.buffer.specs.Lists.{all}
use Rattle.machine.specs.Answer.{Call, turn}
use Rattle.machine.specs.Beyond.{advanced, file_run}
use Rattle.machine.specs.Fields.{files_on}
use Rattle.machine.specs.Observation.{place_in}
use Rattle.machine.specs.Refusals.{Passes}
use Rattle.machine.specs.State.{local_of, with_file, with_local, with_share}
use Rattle.machine.specs.Suppositions.{executed_by, is_done_by, of_done_turn, process_in, write_lands}
use Rattle.machine.specs.Trace.{Event, Invocation, Storage, events}
use Rattle.machine.specs.declared.Process.{Process}

-- a done turn of the process i, which is in that slot and executes that byte
pub record Executes (i slot byte : ℕ) (e : Event) : Type 0 where
  pub clock : ℕ
  pub call : e.call ≡ turn slot clock
  pub done : is_done_by e.number ≡ true
  pub own : place_in e.before i ≡ Some slot
  pub found : executed_by e.before slot ≡ byte

-- an OPEN that leaves a file more on the disc
pub record OpensNew (i slot : ℕ) (e : Event) : Type 0 where
  pub opens : Executes i slot 53 e
  pub more : files_on e.after.disc ≡ files_on e.before.disc + 1

-- ---- what may not come between: an instruction of the process, and a write into the file that it has open
abbrev pub turn_interferes : Option ℕ → ℕ → Event → Bool
turn_interferes None slot e = false
turn_interferes (Some own) slot e = eqb own slot || write_lands (file_run (process_in e.before own).file) slot e

abbrev pub interferes : ℕ → Call → Event → Bool
interferes i c e = of_done_turn c e λ slot clock. turn_interferes (place_in e.before i) slot e

abbrev pub NoneInterferes : ℕ → List Event → Type 0
NoneInterferes i es = all (λ e. not (interferes i e.call e)) es ≡ true

-- ---- what READSTRING then gives
-- behind the instruction, a byte further in the file, the empty string on the stack: its zero, the length 1, the type 3
abbrev pub with_empty_string : Process → Process
with_empty_string p =
    with_file (with_local p
    (record { stack = (local_of p).stack ++ (0 ∷ 1 ∷ 3 ∷ []); pc = p.pc + 1; loopstart = p.loopstart }))
    (advanced p.file 1)

-- the process is as OPEN left it but for its share, and goes on with the empty string; nothing is printed, the disc
-- stays
pub record ReadsEmpty (slot : ℕ) (opening reading : Event) : Type 0 where
  pub share : ℕ
  pub before : process_in reading.before slot ≡ with_share (process_in opening.after slot) share
  pub after : process_in reading.after slot ≡ with_empty_string (process_in reading.before slot)
  pub number : reading.number ≡ pos 0
  pub disc : reading.after.disc ≡ reading.before.disc

-- Document 02, Q-8: "READSTRING as the next instruction after such an OPEN, with no write into the file between, gives
-- the empty string." In every run from good buffers; a run has neither format nor boot.
unfoldable pub NewFileReadsEmpty : Type 0
NewFileReadsEmpty =
    (s : Storage) (calls : List Invocation) (i slot : ℕ) (earlier : List Event) (opening : Event)
    (between : List Event) (reading : Event) (later : List Event)
    → Passes s.disc s.area
    → events calls s ≡ earlier ++ (opening ∷ (between ++ (reading ∷ later)))
    → OpensNew i slot opening
    → NoneInterferes i between
    → Executes i slot 59 reading
    → ReadsEmpty slot opening reading
