-- What every done call answers and leaves, but for turns, which Reaching and Isolation speak of, and rounds, which are
-- turns.
use Rattle.std.specs.Prelude.{ℕ, ◌<◌, ◌≡◌, List, pos, length, get_or}
use Rattle.buffer.specs.Buffer.{overwrite, part}
use Rattle.place.specs.ShortestFit.{ShortestFit}
use Rattle.store.specs.Room.{Free}
use Rattle.disc.specs.Offsets.{size_of, start_of}
use Rattle.machine.specs.Answer.{Answer, Buffers, command, share, run, other, store, retrieve, erase, files}
use Rattle.machine.specs.Answer.{free_space, list, answer, boot_answer, format_answer}
use Rattle.machine.specs.Area.{kernel_of}
use Rattle.machine.specs.Changed.{Enters, Leaves, Starts}
use Rattle.machine.specs.Ending.{Touched}
use Rattle.machine.specs.Fields.{HasId, Named, files_text, next_id, processes_text}
use Rattle.machine.specs.Limits.{area_length, next_at}
use Rattle.machine.specs.Operations.{Command, suspend, resume, kill}
use Rattle.machine.specs.Refusals.{state_of}
use Rattle.machine.specs.State.{paused, process_at, running, with_process, with_share, with_state}
use Rattle.machine.specs.declared.Kernel.{Kernel}

-- ---- files
-- Document 02, Q-10: "at the start of the shortest free run that fits, the lowest of equals"
abbrev pub StoreDone : Type 0
StoreDone =
    (b : Buffers) (name bytes : List ℕ) (n : ℕ) → let a = answer (other (store name bytes)) b in
    a.number ≡ pos n
    → (n ≡ 0)
    × ((start : ℕ) × ShortestFit (Free b.disc) (length bytes) start × Enters b.disc a.disc name bytes start)

-- "Returns the length, its bytes written."
abbrev pub RetrieveDone : Type 0
RetrieveDone =
    (b : Buffers) (name : List ℕ) (n : ℕ) → let a = answer (other (retrieve name)) b in
    a.number ≡ pos n
    → (i : ℕ) × Named b.disc name i × (n ≡ size_of b.disc i)
    × (a.out ≡ overwrite b.out 0 (part b.disc (start_of b.disc i) n))

abbrev pub EraseDone : Type 0
EraseDone =
    (b : Buffers) (name : List ℕ) (n : ℕ) → let a = answer (other (erase name)) b in
    a.number ≡ pos n → (n ≡ 0) × ((i : ℕ) × Named b.disc name i × Leaves b.disc a.disc i)

-- "returns the bytes written"
abbrev pub Lists : List ℕ → Buffers → Answer → Type 0
Lists text b a = (n : ℕ) → a.number ≡ pos n → (n ≡ length text) × (a.out ≡ overwrite b.out 0 text)

abbrev pub FilesDone : Type 0
FilesDone = (b : Buffers) → Lists (files_text b.disc) b (answer (other files) b)

-- a run that long is free, no longer one is
abbrev pub FreeSpaceDone : Type 0
FreeSpaceDone =
    (b : Buffers) (n : ℕ) → (answer (other free_space) b).number ≡ pos n
    → (0 < n → (start : ℕ) × Free b.disc n start) × ((m start : ℕ) → n < m → Free b.disc m start → ⊥)

-- ---- processes
-- "Returns the ID."
abbrev pub RunDone : Type 0
RunDone =
    (b : Buffers) (name : List ℕ) (n : ℕ) → let a = answer (run name) b in
    a.number ≡ pos n
    → (n ≡ next_id b.area) × ((slot : ℕ) × Starts b.disc b.area name slot (kernel_of a.area))

abbrev pub ListDone : Type 0
ListDone = (b : Buffers) → Lists (processes_text b.area) b (answer (other list) b)

-- what a command makes of the kernel's state, the process being in slot i
abbrev pub Commanded : Command → ℕ → Kernel → Kernel → Type 0
Commanded suspend i before after = process_at after i ≡ with_state (process_at before i) paused
Commanded resume i before after = process_at after i ≡ with_state (process_at before i) running
Commanded kill i before after = Touched before i 0 after

abbrev pub CommandDone : Type 0
CommandDone =
    (b : Buffers) (c : Command) (id n : ℕ) → let a = answer (command c id) b in
    a.number ≡ pos n
    → (n ≡ 0) × ((i : ℕ) × HasId b.area id i × Commanded c i (state_of b) (kernel_of a.area))

-- Document 02, Q-9: "A new operation sets it by ID." The rest of the state stays.
abbrev pub ShareDone : Type 0
ShareDone =
    (b : Buffers) (id turns n : ℕ) → let a = answer (share id turns) b in
    a.number ≡ pos n
    → (n ≡ 0)
    × ((i : ℕ) × HasId b.area id i
    × (kernel_of a.area ≡ with_process (state_of b) i (with_share (process_at (state_of b) i) turns)))

-- ---- format and boot
abbrev pub Zeroed : List ℕ → Type 0
Zeroed buffer = (j : ℕ) → get_or buffer j 0 ≡ 0

-- "Boot zeroes the work area and sets next ID to 1."
pub record Booted (area : List ℕ) : Type 0 where
  pub long : length area ≡ area_length
  pub next : next_id area ≡ 1
  pub zeros : (j : ℕ) → (j ≡ next_at → ⊥) → get_or area j 0 ≡ 0

abbrev pub BootDone : Type 0
BootDone = (b : Buffers) (n : ℕ) → (boot_answer b).number ≡ pos n → (n ≡ 0) × Booted (boot_answer b).area

-- "Format zeroes the disc, then boots."
abbrev pub FormatDone : Type 0
FormatDone =
    (b : Buffers) (n : ℕ) → (format_answer b).number ≡ pos n
    → (n ≡ 0) × Zeroed (format_answer b).disc × Booted (format_answer b).area

unfoldable pub DoneExactly : Type 0
DoneExactly = StoreDone × RetrieveDone × EraseDone × FilesDone × FreeSpaceDone × RunDone × ListDone × CommandDone
    × ShareDone × BootDone
    × FormatDone
