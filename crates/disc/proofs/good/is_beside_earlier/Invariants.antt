-- The loop: the entry is beside each of the first j; a name or a byte shared with one of them ends it.
use Prim.Native.Nat.{ℕ, ◌≤◌, ◌-◌}
use mathlib.Core.Path.{◌≡◌}
use mathlib.Core.Bool.{Bool, true}
use mathlib.Core.List.{List}
use Rattle.buffer.specs.Lists.{all, tab}
use Rattle.disc.specs.Directory.{beside, entry_at}
use Rattle.disc.proofs.good.is_beside_earlier.Given as goal

-- whether the entry at i is beside each of the first n
abbrev pub beside_first : List ℕ → ℕ → ℕ → Bool
beside_first disc i n = all (λ e. beside e (entry_at disc i)) (tab (entry_at disc) n)

abbrev pub invariant-loop-j : goal.invariant-loop-j
invariant-loop-j l = (l.j ≤ l.i) × (beside_first l.disc l.i l.j ≡ true)

abbrev pub decreases-loop-j : goal.decreases-loop-j
decreases-loop-j l = l.i - l.j
