-- The loop: the root is from low up and below low + width, which halves each turn.
use Prim.Native.Nat.{◌-◌, ◌^◌, ◌≤◌}
use mathlib.Core.Path.{◌≡◌}
use Rattle.root.proofs.Bisection.{Between}
use Rattle.root.proofs.whole_root.Given as goal

abbrev pub invariant-loop : goal.invariant-loop
invariant-loop l = (l.counter ≤ 32) × (l.width ≡ 2 ^ (32 - l.counter)) × Between l.n l.low l.width
