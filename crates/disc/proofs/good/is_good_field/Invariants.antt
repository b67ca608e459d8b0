-- The loop: so far the field passes the test of `Fields`.
use Prim.Native.Nat.{◌≤◌, ◌-◌}
use mathlib.Core.Path.{◌≡◌}
use Rattle.disc.specs.Layout.{max_name}
use Rattle.disc.proofs.Fields.{byte_from, passed_first}
use Rattle.disc.proofs.good.is_good_field.Given as goal

abbrev pub invariant-loop-i : goal.invariant-loop-i
invariant-loop-i l = (l.i ≤ max_name) × (l.good ≡ passed_first (byte_from l.disc l.at) l.i)

abbrev pub decreases-loop-i : goal.decreases-loop-i
decreases-loop-i l = max_name - l.i
