-- What a process is fed, and what is observed of it: in a run of the kernel and of the single process.
use Rattle.std.specs.Prelude.{ℕ, ◌-◌, Bool, true, false, ◌&&◌, List, [], ◌∷◌, ◌++◌, map, eqb, ℤ, pos, negsuc, neg_ℤ}
use Rattle.std.specs.Prelude.{length, replicate, None, Option, Some}
use Rattle.buffer.specs.Lists.{index, keep}
use Rattle.variable.specs.Table.{Cell, owned}
use Rattle.machine.specs.Answer.{Call, turn, round, command, share, run, other}
use Rattle.machine.specs.Area.{kernel_of}
use Rattle.machine.specs.Limits.{stack_size}
use Rattle.machine.specs.Single.{Input, tick, given, Response, refused_by, did, Single, single}
use Rattle.machine.specs.State.{is_live, process_at}
use Rattle.machine.specs.Trace.{Event, Storage}
use Rattle.machine.specs.declared.Process.{Process}

abbrev pub is_live_as : ℕ → Process → Bool
is_live_as i p = is_live p && eqb p.id i

-- the slot of the live process that has that ID; not `slot_of`, so that a command that overlooks a slot shows here
unfoldable pub place_in : Storage → ℕ → Option ℕ
place_in s i = index (is_live_as i) (kernel_of s.area).processes

abbrev pub is_at : Option ℕ → ℕ → Bool
is_at (Some s) slot = eqb s slot
is_at None slot = false

-- ---- what the process i is fed: "the clock of each turn of its slot until it ends [..], and each suspend, resume and
-- kill of its ID"
abbrev pub input_if : Bool → Input → Option Input
input_if true x = Some x
input_if false x = None

abbrev pub input_of : ℕ → Call → Option ℕ → Option Input
input_of i (turn slot clock) place = input_if (is_at place slot) (tick clock)
input_of i (round clock) place = None
input_of i (command c id) place = input_if (eqb id i) (given c)
input_of i (share id turns) place = None
input_of i (run name) place = None
input_of i (other o) place = None

-- ---- what is observed after it: "stack (SP, 32 bytes), variables (those counted under its ID, by name, type and bytes
-- [..]), place (PC, loop), end (state, fault) and output (a turn's bytes and their number)"
pub record Seen : Type 0 where
  pub sp : ℕ
  pub stack : List ℕ
  pub variables : List Cell
  pub pc : ℕ
  pub loopstart : ℕ
  pub state : ℕ
  pub fault : ℕ
  pub text : List ℕ
  pub number : ℤ

-- of a refused input, the number
pub data Observation : Type 0 where
  declined : ℤ → Observation
  seen : Seen → Observation

abbrev pub seen_in : Process → List Cell → List ℕ → ℤ → Seen
seen_in p variables text number =
    record {
      sp = p.sp;
      stack = p.stack;
      variables = variables;
      pc = p.pc;
      loopstart = p.loopstart;
      state = p.state;
      fault = p.fault;
      text = text;
      number = number;
    }

-- its record stays in the slot that it had, also when the input ends it
abbrev pub slot_in : Option ℕ → ℕ
slot_in (Some s) = s
slot_in None = 0

abbrev pub observed_by : ℤ → Event → ℕ → Observation
observed_by (negsuc n) e i = declined (negsuc n)
observed_by (pos n) e i =
    seen (seen_in (process_at (kernel_of e.after.area) (slot_in (place_in e.before i)))
    (owned (kernel_of e.after.area).variables i) e.text (pos n))

pub record Watched : Type 0 where
  pub input : Input
  pub observation : Observation

abbrev pub watched_if : Option Input → Observation → List Watched → List Watched
watched_if None o rest = rest
watched_if (Some x) o rest = record { input = x; observation = o } ∷ rest

-- the inputs of the process i among these events, and what is observed after each
unfoldable pub watch : ℕ → List Event → List Watched
watch i [] = []
watch i (e ∷ es) = watched_if (input_of i e.call (place_in e.before i)) (observed_by e.number e i) (watch i es)

abbrev pub inputs : List Watched → List Input
inputs l = map (λ w. w.input) l

abbrev pub observations : List Watched → List Observation
observations l = map (λ w. w.observation) l

-- "The same turns and commands means those not refused, in order."
abbrev pub is_seen : Observation → Bool
is_seen (declined z) = false
is_seen (seen o) = true

abbrev pub not_refused : List Watched → List Watched
not_refused l = keep (λ w. is_seen w.observation) l

-- ---- the same of the single process
abbrev pub seen_of : Single → List ℕ → Seen
seen_of s text =
    record {
      sp = length s.loc.stack;
      stack = s.loc.stack ++ replicate (stack_size - length s.loc.stack) 0;
      variables = s.cells;
      pc = s.loc.pc;
      loopstart = s.loc.loopstart;
      state = s.state;
      fault = s.fault;
      text = text;
      number = pos (length text);
    }

abbrev pub observed_of : Response → Observation
observed_of (refused_by n) = declined (neg_ℤ (pos n))
observed_of (did text s) = seen (seen_of s text)

abbrev pub next : Response → Single → Single
next (refused_by n) s = s
next (did text after) s = after

unfoldable pub single_run : List ℕ → Single → List Input → List Observation
single_run prog s [] = []
single_run prog s (x ∷ xs) = observed_of (single prog s x) ∷ single_run prog (next (single prog s x) s) xs
