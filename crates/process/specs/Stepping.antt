-- A process and the step that it takes: where it goes on, and what disc and area are then.
use Rattle.std.specs.Prelude.{ℕ, ◌+◌, ◌<◌, ◌≤◌, ◌≡◌, true, List, [], ◌∷◌, ◌++◌, length, take}
use Rattle.buffer.specs.Buffer.{word_bytes}
use Rattle.machine.specs.Area.{kernel_bytes, kernel_of}
use Rattle.machine.specs.Limits.{area_length, slot_count, stack_size}
use Rattle.machine.specs.State.{Local, is_running, process_at, with_file, with_local, with_process}
use Rattle.machine.specs.Turn.{Turned}
use Rattle.machine.specs.declared.Kernel.{Kernel}
use Rattle.machine.specs.declared.OpenFile.{OpenFile}
use Rattle.machine.specs.declared.Process.{Process}
use Rattle.stack.specs.Steps.{placed}
use Rattle.stack.specs.declared.Step.{Step}
use Rattle.variable.specs.Limits.{max_variables}

-- the bytes below SP
abbrev pub stack_of : Process → List ℕ
stack_of p = take p.sp p.stack

-- on at that place with the first `kept` bytes of the stack and these above them
abbrev pub pushing : Process → (kept pc loopstart : ℕ) → List ℕ → List ℕ → Local
pushing p kept pc loopstart head tail = placed (take kept (stack_of p) ++ head ++ tail) pc loopstart

-- the process of that slot goes on so, with this file
abbrev pub went_on : Kernel → (slot kept pc loopstart : ℕ) → List ℕ → List ℕ → OpenFile → Kernel
went_on k slot kept pc loopstart head tail file =
    let p = process_at k slot in
    with_process k slot (with_file (with_local p (pushing p kept pc loopstart head tail)) file)

-- the record has room for n bytes above the first m of its stack
pub record Room (p : Process) (m n : ℕ) : Type 0 where
  pub sp : p.sp ≤ stack_size
  pub kept : m ≤ p.sp
  pub fits : m + n ≤ stack_size

-- ---- what a step changes of a record besides the stack: PC, loop, open file and SP, from this byte of it
abbrev pub pc_at : ℕ
pc_at = 20

abbrev pub registers_from : (pc loopstart : ℕ) → OpenFile → ℕ → List ℕ
registers_from pc loopstart file sp =
    word_bytes pc ++ word_bytes loopstart
    ++ word_bytes file.start ++ word_bytes file.len ++ word_bytes file.offset ++ (sp ∷ [])

-- the process of that slot of the area
abbrev pub own_at : List ℕ → ℕ → Process
own_at area slot = process_at (kernel_of area) slot

-- the process of that slot of the area, which runs, and a step that it can take
pub record Stepping (area : List ℕ) (slot : ℕ) (p : Process) (d : Step) : Type 0 where
  pub size : length area ≡ area_length
  pub low : slot < slot_count
  pub own : p ≡ own_at area slot
  pub running : is_running p ≡ true
  pub few : (kernel_of area).variables.count ≤ max_variables
  pub sp : p.sp ≤ stack_size
  pub kept : d.kept ≤ p.sp
  pub len : d.len ≤ stack_size

-- disc and area after a turn that prints nothing
pub record Left : Type 0 where
  pub disc : List ℕ
  pub area : List ℕ

abbrev pub left : List ℕ → List ℕ → Left
left disc area = record { disc = disc; area = area }

abbrev pub left_by : Turned → Left
left_by t = left t.disc (kernel_bytes t.kernel)
