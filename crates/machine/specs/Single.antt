-- Document 01's single process: fed only its program bytes, turns, clock readings and commands; it has unlimited
-- variable space.
use Rattle.std.specs.Prelude.{ℕ, Bool, true, false, cond, List, [], eqb}
use Rattle.variable.specs.Assign.{assigned_cells}
use Rattle.variable.specs.Table.{Cell}
use Rattle.machine.specs.Effect.{Effect, goes, assigns, stops, faults, asks}
use Rattle.machine.specs.Exec.{exec}
use Rattle.machine.specs.Operations.{Command, suspend, resume, kill}
use Rattle.machine.specs.State.{Local, no_loop, paused, running}

-- "a state, fault, PC, loop, SP, 32 stack bytes and any number of variables: name, type, value bytes, one per name".
-- The stack is the list of the bytes below SP: SP is its length, and above it are zeros.
pub record Single : Type 0 where
  pub state : ℕ
  pub fault : ℕ
  pub loc : Local
  pub cells : List Cell

-- "Start: running, no loop, no variables, the rest 0."
abbrev pub fresh : Single
fresh = record { state = running; fault = 0; loc = record { stack = []; pc = 0; loopstart = no_loop }; cells = [] }

-- "Ended: fault (0 unless a fault), no variables, the rest 0."
abbrev pub over : ℕ → Single
over fault = record { state = 0; fault = fault; loc = record { stack = []; pc = 0; loopstart = 0 }; cells = [] }

abbrev pub advanced_to : Single → Local → List Cell → Single
advanced_to s l cells = record { state = s.state; fault = s.fault; loc = l; cells = cells }

-- what it is fed
pub data Input : Type 0 where
  tick : (clock : ℕ) → Input
  given : Command → Input

-- what it answers: a refusal, or what it prints and its state after
pub data Response : Type 0 where
  refused_by : ℕ → Response
  did : (out : List ℕ) → Single → Response

-- "Turn while running: the instruction at PC of those bytes, as above, printing what that prints." "STOP, or a fault,
-- ends it." What it does at a file, FORK or WAITUNTILDONE instruction is free: here it stays as it is.
abbrev pub single_effect : Single → Effect → Response
single_effect s (goes l out) = did out (advanced_to s l s.cells)
single_effect s (assigns name kind bytes l) =
    let cells = assigned_cells s.cells (record { name = name; kind = kind; bytes = bytes }) in
    did [] (advanced_to s l cells)
single_effect s stops = did [] (over 0)
single_effect s (faults n) = did [] (over n)
single_effect s (asks r) = did [] s

-- "Suspend: running becomes paused; resume: back"
abbrev pub in_state : Single → ℕ → Response
in_state s state = did [] (record { state = state; fault = s.fault; loc = s.loc; cells = s.cells })

-- "kill ends it". "a command once ended (14), suspend while paused and resume while running (15)"; the first argument:
-- has it ended?
abbrev pub single_command : Bool → Single → Command → Response
single_command true s c = refused_by 14
single_command false s suspend = cond (eqb s.state paused) (refused_by 15) (in_state s paused)
single_command false s resume = cond (eqb s.state running) (refused_by 15) (in_state s running)
single_command false s kill = did [] (over 0)

-- "Refused, changing nothing: a turn unless running (16)"
unfoldable pub single : List ℕ → Single → Input → Response
single prog s (tick clock) =
    cond (eqb s.state running) (single_effect s (exec prog clock s.loc s.cells)) (refused_by 16)
single prog s (given c) = single_command (eqb s.state 0) s c
