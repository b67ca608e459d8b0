-- The product so far is the power of as many factors as there were turns, wrapped.
use Rattle.std.proofs.Common.{◌≡◌, ◌≤◌}
use Rattle.std.proofs.Math.IntN.{pow}
use Rattle.std.specs.Int.{w16}
use Rattle.integer.specs.Modular.{wrapped}
use Rattle.scaling.proofs.power.power16.Given as goal

abbrev pub invariant-loop : goal.invariant-loop
invariant-loop l = (l.counter ≤ l.n) × (l.product ≡ wrapped w16 (pow l.x l.counter))
