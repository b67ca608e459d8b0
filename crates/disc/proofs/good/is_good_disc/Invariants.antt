-- The loop: the first i entries are good and beside each other.
use Prim.Native.Nat.{◌≤◌, ◌-◌}
use mathlib.Core.Path.{◌≡◌}
use mathlib.Core.Bool.{true}
use lib.ListN.{length}
use Rattle.buffer.specs.Lists.{all, pairs, tab}
use Rattle.disc.specs.Directory.{beside, entry_at, good_entry}
use Rattle.disc.proofs.good.is_good_disc.Given as goal

abbrev pub invariant-loop-i : goal.invariant-loop-i
invariant-loop-i l = (l.i ≤ l.count) × (all (good_entry (length l.disc)) (tab (entry_at l.disc) l.i) ≡ true)
    × (pairs beside (tab (entry_at l.disc) l.i) ≡ true)

abbrev pub decreases-loop-i : goal.decreases-loop-i
decreases-loop-i l = l.count - l.i
