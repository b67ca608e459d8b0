-- The loop: whether the first i are of good size and inside memory.
use Prim.Native.Nat.{◌≤◌}
use mathlib.Core.Path.{◌≡◌}
use Rattle.buffer.specs.Lists.{all, tab}
use Rattle.validation.specs.Columns.{sized}
use Rattle.variable.specs.Bytes.{variable_in}
use Rattle.validation.proofs.good.variables.are_sized.Given as goal

abbrev pub invariant-loop-i : goal.invariant-loop-i
invariant-loop-i l = (l.i ≤ l.count) × (l.good ≡ all sized (tab (variable_in l.area) l.i))
