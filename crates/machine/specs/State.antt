-- The kernel's state: processes and their states.
use Rattle.std.specs.Prelude.{ℕ, ◌-◌, Bool, ◌&&◌, ◌||◌, not, List, [], ◌++◌, map, eqb, get_or, length, replicate, set}
use Rattle.std.specs.Prelude.{take, Option}
use Rattle.buffer.specs.Lists.{index, keep}
use Rattle.place.specs.Place.{no_run}
use Rattle.variable.specs.declared.Variables.{Variables}
use Rattle.machine.specs.Limits.{stack_size}
use Rattle.machine.specs.declared.Kernel.{Kernel}
use Rattle.machine.specs.declared.OpenFile.{OpenFile}
use Rattle.machine.specs.declared.Process.{Process}

-- Document 01: "state 1 ('r' running, 'p' paused, 0 ended)"
abbrev pub running : ℕ
running = 114

abbrev pub paused : ℕ
paused = 112

-- Document 01: "loop 2 (hex FFFF: none)"
abbrev pub no_loop : ℕ
no_loop = 65535

abbrev pub is_running : Process → Bool
is_running p = eqb p.state running

-- Document 01: "Live means running or paused."
abbrev pub is_live : Process → Bool
is_live p = eqb p.state running || eqb p.state paused

abbrev pub no_file : OpenFile
no_file = record { start = 0; len = 0; offset = 0 }

-- what lies past the ten records: nothing live
abbrev pub no_process : Process
no_process = record {
  name = [];
  id = 0;
  state = 0;
  fault = 0;
  code = no_run;
  pc = 0;
  loopstart = 0;
  file = no_file;
  sp = 0;
  share = 0;
  stack = [];
}

abbrev pub process_at : Kernel → ℕ → Process
process_at k i = get_or k.processes i no_process

abbrev pub with_process : Kernel → ℕ → Process → Kernel
with_process k i p = record {
  variables = k.variables;
  next = k.next;
  zeros = k.zeros;
  processes = set k.processes i p;
}

abbrev pub with_variables : Kernel → Variables → Kernel
with_variables k v = record { variables = v; next = k.next; zeros = k.zeros; processes = k.processes }

-- ---- a process's own state in its record: the stack is the list of the bytes below SP
pub record Local : Type 0 where
  pub stack : List ℕ
  pub pc : ℕ
  pub loopstart : ℕ

abbrev pub local_of : Process → Local
local_of p = record { stack = take p.sp p.stack; pc = p.pc; loopstart = p.loopstart }

-- the stack as a record holds it. Document 01: "After its turn, stack bytes above SP are zero."
abbrev pub stack_bytes : List ℕ → List ℕ
stack_bytes stack = stack ++ replicate (stack_size - length stack) 0

abbrev pub with_local : Process → Local → Process
with_local p l =
    record {
      name = p.name;
      id = p.id;
      state = p.state;
      fault = p.fault;
      code = p.code;
      pc = l.pc;
      loopstart = l.loopstart;
      file = p.file;
      sp = length l.stack;
      share = p.share;
      stack = stack_bytes l.stack;
    }

abbrev pub with_file : Process → OpenFile → Process
with_file p f =
    record {
      name = p.name;
      id = p.id;
      state = p.state;
      fault = p.fault;
      code = p.code;
      pc = p.pc;
      loopstart = p.loopstart;
      file = f;
      sp = p.sp;
      share = p.share;
      stack = p.stack;
    }

abbrev pub with_state : Process → ℕ → Process
with_state p state =
    record {
      name = p.name;
      id = p.id;
      state = state;
      fault = p.fault;
      code = p.code;
      pc = p.pc;
      loopstart = p.loopstart;
      file = p.file;
      sp = p.sp;
      share = p.share;
      stack = p.stack;
    }

abbrev pub with_share : Process → ℕ → Process
with_share p share =
    record {
      name = p.name;
      id = p.id;
      state = p.state;
      fault = p.fault;
      code = p.code;
      pc = p.pc;
      loopstart = p.loopstart;
      file = p.file;
      sp = p.sp;
      share = share;
      stack = p.stack;
    }

-- ---- IDs and slots
abbrev pub has_id : ℕ → Process → Bool
has_id id p = is_live p && eqb p.id id

unfoldable pub slot_of : Kernel → ℕ → Option ℕ
slot_of k id = index (has_id id) k.processes

-- Document 01: "Takes the lowest ended slot"
unfoldable pub ended_slot : Kernel → Option ℕ
ended_slot k = index (λ p. not (is_live p)) k.processes

abbrev pub live_ids : Kernel → List ℕ
live_ids k = map (λ p. p.id) (keep is_live k.processes)
