-- An ended ID: given before, and of no live process.
use Rattle.std.specs.Prelude.{None}
use Prim.Native.Nat.{ℕ, ◌<◌}
use mathlib.Core.Path.{◌≡◌}
use Rattle.machine.specs.State.{slot_of}
use Rattle.machine.specs.declared.Kernel.{Kernel}

pub record Gone (i : ℕ) (k : Kernel) : Type 0 where
  pub given : i < k.next
  pub none : slot_of k i ≡ None
