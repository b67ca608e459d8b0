-- The parts of the kernel's state that are read and written by themselves, and their bytes in the work area.
use Rattle.std.specs.Prelude.{ℕ, ◌+◌, ◌*◌, ◌≡◌, List}
use Rattle.buffer.specs.Buffer.{part}
use Rattle.variable.specs.declared.Assigned.{Assigned}
use Rattle.variable.specs.Assign.{Placing}
use Rattle.machine.specs.Area.{kernel_bytes, process_of}
use Rattle.machine.specs.Limits.{record_size, records_at}
use Rattle.machine.specs.State.{with_variables}
use Rattle.machine.specs.declared.Kernel.{Kernel}
use Rattle.machine.specs.declared.Process.{Process}

-- where the record of a slot begins
abbrev pub record_at : ℕ → ℕ
record_at slot = records_at + slot * record_size

-- a record as the bytes in place say it
abbrev pub process_in : List ℕ → ℕ → Process
process_in area slot = process_of (part area (record_at slot) record_size)

-- the state with another next ID
abbrev pub with_next : Kernel → ℕ → Kernel
with_next k n = record { variables = k.variables; next = n; zeros = k.zeros; processes = k.processes }

-- what a SET answers, and the area that it leaves
pub record SetIn (answer : Placing) (area : List ℕ) (k : Kernel) (a : Assigned) : Type 0 where
  pub placing : answer ≡ a.placing
  pub left : area ≡ kernel_bytes (with_variables k a.variables)
