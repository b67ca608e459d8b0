-- A start: the process of ID i is new, from the file of that name, with no variable.
use Rattle.std.specs.Prelude.{Some}
use Prim.Native.Nat.{ℕ, ◌<◌}
use mathlib.Core.Path.{◌≡◌}
use mathlib.Core.List.{List, []}
use Rattle.disc.specs.Directory.{entry_at, lookup}
use Rattle.variable.specs.Table.{owned}
use Rattle.machine.specs.Limits.{slot_count}
use Rattle.machine.specs.Start.{started_process}
use Rattle.machine.specs.State.{process_at}
use Rattle.machine.specs.declared.Kernel.{Kernel}

pub record Begun (name : List ℕ) (i : ℕ) (disc : List ℕ) (j : Kernel) (after : List ℕ) : Type 0 where
  pub same-disc : after ≡ disc
  pub slot : ℕ
  pub file : ℕ
  pub found : lookup disc name ≡ Some file
  pub process : process_at j slot ≡ started_process (entry_at disc file) i
  pub inside : slot < slot_count
  pub variables : owned j.variables i ≡ []
