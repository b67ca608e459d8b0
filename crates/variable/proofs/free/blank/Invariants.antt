-- The loop: the entries from the first place up to i are empty.
use Prim.Native.Nat.{◌≤◌}
use mathlib.Core.Path.{◌≡◌}
use lib.ListN.{length}
use Rattle.variable.specs.Bytes.{variables_bytes, variables_of, with_entries}
use Rattle.variable.specs.Closing.{blanked}
use Rattle.variable.specs.Limits.{variables_size}
use Rattle.variable.proofs.free.blank.Given as goal

abbrev pub invariant-loop-i : goal.invariant-loop-i
invariant-loop-i l = (length l.variables ≡ variables_size) × (l.from ≤ l.i) × (l.i ≤ l.end)
    × (let v = variables_of l.initial.variables in l.variables ≡ variables_bytes (with_entries v (blanked v.entries l.from l.i)))
