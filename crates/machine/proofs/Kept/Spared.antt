-- A process that a step spares: its record, its variables and the bytes of its program are what they were.
use Prim.Native.Nat.{ℕ}
use mathlib.Core.Path.{◌≡◌}
use mathlib.Core.List.{List}
use Rattle.variable.specs.Table.{owned}
use Rattle.machine.specs.State.{process_at}
use Rattle.machine.specs.Turn.{program_of}
use Rattle.machine.specs.declared.Kernel.{Kernel}

pub record Spared (s : ℕ) (k : Kernel) (disc : List ℕ) (j : Kernel) (after : List ℕ) : Type 0 where
  pub process : process_at j s ≡ process_at k s
  pub variables : owned j.variables (process_at k s).id ≡ owned k.variables (process_at k s).id
  pub program : program_of after (process_at k s) ≡ program_of disc (process_at k s)
