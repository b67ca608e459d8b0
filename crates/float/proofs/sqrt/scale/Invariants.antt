-- The loop: radicand * 4 ^ shift stays as it is.
use Rattle.std.proofs.Common.{◌-◌}
use Rattle.float.proofs.Scaling.{Scaling}
use Rattle.float.proofs.sqrt.scale.Given as goal

abbrev pub invariant-loop-radicand : goal.invariant-loop-radicand
invariant-loop-radicand l = Scaling l.significand l.exponent l.radicand l.shift

abbrev pub decreases-loop-radicand : goal.decreases-loop-radicand
decreases-loop-radicand l = 281474976710656 - l.radicand
