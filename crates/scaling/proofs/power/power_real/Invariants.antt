-- The product so far is the power of as many factors as there were turns.
use Rattle.std.proofs.Common.{◌≡◌, ◌≤◌}
use Rattle.scaling.specs.Power.{power_real}
use Rattle.scaling.proofs.power.power_real.Given as goal

abbrev pub invariant-loop : goal.invariant-loop
invariant-loop l = (l.counter ≤ l.n) × (l.product ≡ power_real l.x l.counter)
