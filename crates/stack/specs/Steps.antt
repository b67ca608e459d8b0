-- What a step of the code stands for: the effect of an instruction on the stack as it found it.
use Rattle.std.specs.Prelude.{ℕ, ◌-◌, ◌≤◌, List, [], ◌++◌, ◌≡◌, length, replicate, take, Result, Ok, Err}
use Rattle.machine.specs.Effect.{Effect, goes, assigns, stops, faults, asks, opens, closes, writes, reads, reads_string}
use Rattle.machine.specs.Effect.{forks, awaits}
use Rattle.machine.specs.Fault.{fault_number}
use Rattle.machine.specs.Limits.{stack_size}
use Rattle.machine.specs.State.{Local}
use Rattle.machine.specs.declared.fault.Fault.{Fault}
use Rattle.stack.specs.declared.Action.{Action}
use Rattle.stack.specs.declared.Action.TheVariants.{Push, Print, Assign, Stop, Open, Close, Write, Read}
use Rattle.stack.specs.declared.Action.TheVariants.{ReadString, Fork, Await}
use Rattle.stack.specs.declared.Step.{Step}

-- the bytes that the action is about
abbrev pub about : Step → List ℕ
about d = take d.len d.bytes

abbrev pub placed : List ℕ → ℕ → ℕ → Local
placed stack pc loopstart = record { stack = stack; pc = pc; loopstart = loopstart }

-- on at the step's place with what it keeps of the stack
abbrev pub keeping : List ℕ → Step → Local
keeping stack d = placed (take d.kept stack) d.pc d.loopstart

-- an action about these bytes: the stack as the instruction found it, and the state that the process goes on in
abbrev pub effect_by : Action → List ℕ → List ℕ → Local → Effect
effect_by Push stack bytes l = goes (placed (l.stack ++ bytes) l.pc l.loopstart) []
effect_by Print stack bytes l = goes l bytes
effect_by (Assign name kind) stack bytes l = assigns name kind bytes l
effect_by Stop stack bytes l = stops
effect_by (Open size) stack bytes l = asks (opens bytes size l)
effect_by Close stack bytes l = asks (closes l)
effect_by Write stack bytes l = asks (writes bytes l)
effect_by (Read kind) stack bytes l = asks (reads kind l)
effect_by ReadString stack bytes l = asks (reads_string l)
effect_by Fork stack bytes l = asks (forks bytes l)
-- it stays at the instruction byte, or goes on behind it
effect_by (Await id) stack bytes l = asks (awaits id (placed stack (l.pc - 1) l.loopstart) l)

abbrev pub effect_of : List ℕ → Step → Effect
effect_of stack d = effect_by d.action stack (about d) (keeping stack d)

-- ---- how steps are made
abbrev pub step_of : Action → ℕ → List ℕ → ℕ → ℕ → Step
step_of action kept bytes pc loopstart =
    record {
      action = action;
      kept = kept;
      bytes = bytes ++ replicate (stack_size - length bytes) 0;
      len = length bytes;
      pc = pc;
      loopstart = loopstart;
    }

-- of an instruction that ends its process
abbrev pub last_step : Action → Step
last_step action = record { action = action; kept = 0; bytes = replicate stack_size 0; len = 0; pc = 0; loopstart = 0 }

-- ---- what a step has to meet
-- it has this effect, and keeps no more of the stack than there is
pub record Does (stack : List ℕ) (d : Step) (e : Effect) : Type 0 where
  pub same : effect_of stack d ≡ e
  pub kept : d.kept ≤ length stack
  pub len : d.len ≤ stack_size

-- an instruction's answer, a step or a fault, has this effect
abbrev pub Means : List ℕ → Result Step Fault → Effect → Type 0
Means stack (Ok d) e = Does stack d e
Means stack (Err fault) e = faults (fault_number fault) ≡ e
