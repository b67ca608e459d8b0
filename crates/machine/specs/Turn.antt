-- A turn: the instruction of one process, on the kernel's state and the disc.
use Rattle.std.specs.Prelude.{ℕ, List, []}
use Rattle.disc.specs.Directory.{contents}
use Rattle.variable.specs.Assign.{assigned, placing_fault, value_of}
use Rattle.variable.specs.Table.{owned}
use Rattle.variable.specs.Assign.{Placing}
use Rattle.std.specs.Prelude.{Ok, Err}
use Rattle.variable.specs.declared.Variables.{Variables}
use Rattle.machine.specs.Beyond.{Answered, carries_on, breaks, answered}
use Rattle.machine.specs.Effect.{Effect, goes, assigns, stops, faults, asks}
use Rattle.machine.specs.Exec.{exec}
use Rattle.machine.specs.Ended.{ended}
use Rattle.machine.specs.State.{Local, process_at, with_local, local_of, with_process, with_variables}
use Rattle.machine.specs.declared.Kernel.{Kernel}
use Rattle.machine.specs.declared.Process.{Process}

-- what a turn leaves, and what it prints
pub record Turned : Type 0 where
  pub kernel : Kernel
  pub disc : List ℕ
  pub out : List ℕ

module _ (k : Kernel) (slot : ℕ) (disc : List ℕ) where
  -- Document 01: "A faulting instruction changes nothing but the ending."
  abbrev pub finished : ℕ → Turned
  finished fault = record { kernel = ended k slot fault; disc = disc; out = [] }

  abbrev pub moved : Process → List ℕ → List ℕ → Turned
  moved p after out = record { kernel = with_process k slot p; disc = after; out = out }

  -- Document 01, fault 10: "no variable entry or run"
  abbrev pub setting : Placing → Variables → Local → Turned
  setting (Ok a) v l =
      record {
        kernel = with_variables (with_process k slot (with_local (process_at k slot) l)) v;
        disc = disc;
        out = [];
      }
  setting (Err e) v l = finished (placing_fault (Err e))

  abbrev pub answering : Answered → Turned
  answering (carries_on kernel after) = record { kernel = kernel; disc = after; out = [] }
  answering (breaks fault) = finished fault

  -- the kernel's reading of what an instruction does
  unfoldable pub carried_out : Effect → Turned
  carried_out (goes l out) = moved (with_local (process_at k slot) l) disc out
  carried_out (assigns name kind bytes l) =
      let a = assigned k.variables name (process_at k slot).id (value_of kind bytes) in
      setting a.placing a.variables l
  carried_out stops = finished 0
  carried_out (faults n) = finished n
  carried_out (asks r) = answering (answered k slot disc r)

-- the bytes of a process's program: the part of the disc that its record names
-- Document 01: "An instruction reads its argument bytes from the program's own part of the disc."; "PC and loop are
-- offsets from the code start."
abbrev pub program_of : List ℕ → Process → List ℕ
program_of disc p = contents disc p.code

-- what the instruction of the process in that slot does
abbrev pub effect_at : Kernel → ℕ → ℕ → List ℕ → Effect
effect_at k slot clock disc =
    exec (program_of disc (process_at k slot)) clock (local_of (process_at k slot))
    (owned k.variables (process_at k slot).id)

-- Document 01: "Turn, one instruction of one slot"
unfoldable pub turned : Kernel → ℕ → ℕ → List ℕ → Turned
unfolding carried_out
turned k slot clock disc = carried_out k slot disc (effect_at k slot clock disc)
