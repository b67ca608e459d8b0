-- What disc and process table answer to an instruction that reaches beyond its process.
use Rattle.std.specs.Prelude.{None, Option, Some}
use Rattle.std.specs.Prelude.{Ok, Err, Result}
use Rattle.std.specs.Prelude.{ℕ, ◌+◌, ◌-◌, ◌/◌, ◌%◌, Bool, true, false, cond, ◌&&◌, List, [], ◌∷◌, ◌++◌, eqb, leb, pos}
use Rattle.std.specs.Prelude.{length, drop}
use Rattle.buffer.specs.Buffer.{zeros}
use Rattle.buffer.specs.Lists.{any}
use Rattle.number.specs.Compare.{equals, size_within}
use Rattle.number.specs.declared.Number.{Number}
use Rattle.place.specs.declared.Run.{Run}
use Rattle.disc.specs.Directory.{contents, entry_at, lookup}
use Rattle.disc.specs.Layout.{data_start}
use Rattle.disc.specs.Name.{trimmed}
use Rattle.store.specs.File.{admission, read_at, stored, written_at}
use Rattle.store.specs.declared.Refusal.{Refusal}
use Rattle.machine.specs.Effect.{Request, opens, closes, writes, reads, reads_string, forks, awaits}
use Rattle.machine.specs.Limits.{stack_size}
use Rattle.machine.specs.Stack.{push, push_string}
use Rattle.machine.specs.Start.{Starting, starts, refuses, starting, started}
use Rattle.machine.specs.State.{Local, is_live, process_at, with_file, with_local, with_process}
use Rattle.machine.specs.declared.Kernel.{Kernel}
use Rattle.machine.specs.declared.OpenFile.{OpenFile}
use Rattle.machine.specs.declared.Process.{Process}

-- kernel and disc after it, or the fault that it meets
pub data Answered : Type 0 where
  carries_on : Kernel → List ℕ → Answered
  breaks : ℕ → Answered

abbrev pub unless_breaks : Bool → ℕ → Answered → Answered
unless_breaks true fault rest = rest
unless_breaks false fault rest = breaks fault

abbrev pub file_run : OpenFile → Run
file_run f = record { start = f.start; len = f.len }

abbrev pub advanced : OpenFile → ℕ → OpenFile
advanced f n = record { start = f.start; len = f.len; offset = f.offset + n }

abbrev pub opened : Run → OpenFile
opened run = record { start = run.start; len = run.len; offset = 0 }

abbrev pub pushed : Local → List ℕ → Local
pushed l stack = record { stack = stack; pc = l.pc; loopstart = l.loopstart }

-- an INT on the stack
abbrev pub push_id : Local → ℕ → Local
push_id l id = pushed l (push l.stack 2 (id / 256 ∷ id % 256 ∷ []))

-- the size that OPEN's new file may have: what fits between the data's start and the disc's end, 863 or 3,935
abbrev pub new_file_size : List ℕ → Number → Option ℕ
new_file_size disc size = size_within (length disc - data_start) size

module _ (k : Kernel) (slot : ℕ) (disc : List ℕ) where
  abbrev pub own_file : OpenFile
  own_file = (process_at k slot).file

  -- the process goes on in this state with this file
  abbrev pub continues : Local → OpenFile → List ℕ → Answered
  continues l f after = carries_on (with_process k slot (with_file (with_local (process_at k slot) l) f)) after

  -- ---- OPEN
  -- Document 01, fault 13: "OPEN's new file refused by name, size or store's 8 or 9". Document 02, Q-8: "OPEN now fills
  -- a file it creates with zeros."
  abbrev pub created_at : Result ℕ Refusal → List ℕ → ℕ → Local → Answered
  created_at (Ok s) name n l =
      continues l (opened (record { start = s; len = n })) (stored disc name (zeros n) s)
  created_at (Err r) name n l = breaks 13

  abbrev pub created : Option ℕ → List ℕ → Local → Answered
  created (Some n) name l = created_at (admission disc name n) name n l
  created None name l = breaks 13

  -- Document 01: "size [..] matters only for a new file"
  abbrev pub opened_at : Option ℕ → List ℕ → Number → Local → Answered
  opened_at (Some i) name size l =
      continues l (opened (record { start = (entry_at disc i).start; len = (entry_at disc i).len })) disc
  opened_at None name size l = created (new_file_size disc size) name l

  -- ---- WRITE and the READs: "11 no open file; 12 past the file's end"
  abbrev pub with_open_file : Answered → Answered
  with_open_file rest = cond (eqb own_file.len 0) (breaks 11) rest

  abbrev pub inside : ℕ → Answered → Answered
  inside n rest = unless_breaks (leb (own_file.offset + n) own_file.len) 12 rest

  -- Document 01: "WRITE and variable memory keep a value's bytes in stack order, without length and type."
  abbrev pub written : List ℕ → Local → Answered
  written bytes l = with_open_file
      (inside (length bytes)
      (continues l (advanced own_file (length bytes)) (written_at disc (file_run own_file) own_file.offset bytes)))

  -- fault 4 comes after 11 and 12
  abbrev pub received : List ℕ → ℕ → Local → Answered
  received stack n l =
      unless_breaks (leb (length stack) stack_size) 4 (continues (pushed l stack) (advanced own_file n) disc)

  abbrev pub read_number_of : ℕ → Local → Answered
  read_number_of kind l =
      with_open_file (inside kind
      (received (push l.stack kind (read_at disc (file_run own_file) own_file.offset kind)) kind l))

  -- Document 01: "READSTRING seeks its zero before testing the stack."
  abbrev pub read_text : Local → Answered
  read_text l =
      let text = trimmed (drop own_file.offset (contents disc (file_run own_file))) in
      let n = length text + 1 in
      with_open_file (inside n (received (push_string l.stack (text ++ (0 ∷ []))) n l))

  -- ---- FORK: "pushes INT 0 where run would refuse"
  abbrev pub forked : Starting → Local → Answered
  forked (refuses r) l = carries_on (with_process k slot (with_local (process_at k slot) (push_id l 0))) disc
  forked (starts child e) l =
      carries_on (with_process (started k child e) slot (with_local (process_at k slot) (push_id l k.next))) disc

  -- ---- WAITUNTILDONE: "stays while a live process has that ID"
  abbrev pub is_awaited : Number → Process → Bool
  is_awaited id p = is_live p && equals id (pos p.id)

  abbrev pub awaited : Number → Local → Local → Answered
  awaited id stay go =
      carries_on (with_process k slot (with_local (process_at k slot) (cond (any (is_awaited id) k.processes) stay go)))
      disc

  unfoldable pub answered : Request → Answered
  answered (opens name size l) = opened_at (lookup disc name) name size l
  answered (closes l) = carries_on (with_process k slot (with_local (process_at k slot) l)) disc
  answered (writes bytes l) = written bytes l
  answered (reads kind l) = read_number_of kind l
  answered (reads_string l) = read_text l
  answered (forks name l) = forked (starting k disc name) l
  answered (awaits id stay go) = awaited id stay go
