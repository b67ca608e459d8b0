-- What demand 3 supposes of a process, event by event: it executes no file, FORK or WAITUNTILDONE instruction, no write
-- lands in its program file, and no SET of its own lacks space.
use Rattle.std.specs.Prelude.{ℕ, ◌≡◌, Bool, true, false, ◌&&◌, ◌||◌, not, List, map, eqb, leb, ℤ, pos, negsuc, get_or}
use Rattle.std.specs.Prelude.{length, None, Option, Some}
use Rattle.buffer.specs.Lists.{all, any, keep, tab}
use Rattle.place.specs.Place.{fits}
use Rattle.place.specs.declared.Run.{Run}
use Rattle.variable.specs.Limits.{max_variables, memory_size}
use Rattle.variable.specs.Table.{counted, is_of, owned, run_of}
use Rattle.variable.specs.declared.Variable.{Variable}
use Rattle.variable.specs.declared.Variables.{Variables}
use Rattle.machine.specs.Answer.{Call, turn, round, command, share, run, other}
use Rattle.machine.specs.Area.{kernel_of}
use Rattle.machine.specs.Effect.{Effect, goes, assigns, stops, faults, asks}
use Rattle.machine.specs.Exec.{exec}
use Rattle.machine.specs.Observation.{place_in}
use Rattle.machine.specs.State.{is_live, local_of, process_at}
use Rattle.machine.specs.Trace.{Event, Storage}
use Rattle.machine.specs.Turn.{program_of}
use Rattle.machine.specs.declared.Process.{Process}

abbrev pub process_in : Storage → ℕ → Process
process_in s slot = process_at (kernel_of s.area) slot

abbrev pub is_done_by : ℤ → Bool
is_done_by (pos n) = true
is_done_by (negsuc n) = false

-- ---- what it executes
-- Document 01: "A process executes what such a turn finds at PC, even if that faults"
abbrev pub executed_by : Storage → ℕ → ℕ
executed_by s slot = get_or (program_of s.disc (process_in s slot)) (process_in s slot).pc 0

-- "file instructions are OPEN, CLOSE, WRITE and the READs": 53 to 59; FORK is 68, WAITUNTILDONE 69
abbrev pub is_barred : ℕ → Bool
is_barred byte = (leb 53 byte && leb byte 59) || (eqb byte 68 || eqb byte 69)

-- ---- a SET that lacks space
-- the variables that there are with that one dropped
abbrev pub others_than : ℕ → ℕ → Variables → List Variable
others_than name i v = keep (λ e. not (is_of name i e)) (counted v)

-- Document 01: "A SET lacks space where fault 10 is defined for it in the buffers as its turn finds them": with the old
-- variable of that name dropped, there are 25 others, or no address from 0 to 255 where the value would lie in memory
-- and apart from them
unfoldable pub lacks_space : Variables → ℕ → ℕ → ℕ → Bool
lacks_space v name i n =
    let others = others_than name i v in
    leb max_variables (length others)
    || not (any (fits (map run_of others) 0 memory_size n) (tab (λ a. a) memory_size))

-- whether a SET that meets no earlier fault lacks space for its value; any other effect lacks none
abbrev pub is_lacking : Effect → Variables → ℕ → Bool
is_lacking (goes l out) v i = false
is_lacking (assigns name kind bytes l) v i = lacks_space v name i (length bytes)
is_lacking stops v i = false
is_lacking (faults n) v i = false
is_lacking (asks r) v i = false

abbrev pub set_lacks : ℕ → ℕ → ℕ → Storage → Bool
set_lacks i slot clock s =
    let p = process_in s slot in
    let v = (kernel_of s.area).variables in
    eqb (executed_by s slot) 5 && is_lacking (exec (program_of s.disc p) clock (local_of p) (owned v i)) v i

-- ---- a write that lands
-- Document 01: "A write lands when another process with that program file open does a WRITE without fault", so it is
-- still live. The file is given by its place on the disc.
unfoldable pub write_lands : Run → ℕ → Event → Bool
write_lands file writer e =
    let q = process_in e.before writer in
    eqb (executed_by e.before writer) 55
    && (is_live (process_in e.after writer)
    && (eqb q.file.start file.start && eqb q.file.len file.len))

-- ---- an event that is not supposed: a done turn, while the process i is in slot own
unfoldable pub turn_disturbs : ℕ → ℕ → ℕ → ℕ → Event → Bool
unfolding write_lands lacks_space
turn_disturbs i own slot clock e =
    (eqb own slot && (is_barred (executed_by e.before slot) || set_lacks i slot clock e.before))
    || (not (eqb own slot) && write_lands (process_in e.before own).code slot e)

-- "between this one's start and end": while it is live
abbrev pub turn_disturbs_at : ℕ → Option ℕ → ℕ → ℕ → Event → Bool
turn_disturbs_at i None slot clock e = false
turn_disturbs_at i (Some own) slot clock e = turn_disturbs i own slot clock e

-- a test of a done turn; it holds of no other event
abbrev pub of_done_turn : Call → Event → (ℕ → ℕ → Bool) → Bool
of_done_turn (turn slot clock) e test = is_done_by e.number && test slot clock
of_done_turn (round clock) e test = false
of_done_turn (command c id) e test = false
of_done_turn (share id turns) e test = false
of_done_turn (run name) e test = false
of_done_turn (other o) e test = false

abbrev pub disturbed_by : ℕ → Call → Event → Bool
disturbed_by i c e = of_done_turn c e λ slot clock. turn_disturbs_at i (place_in e.before i) slot clock e

abbrev pub Undisturbed : ℕ → List Event → Type 0
Undisturbed i es = all (λ e. not (disturbed_by i e.call e)) es ≡ true
