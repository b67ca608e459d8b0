-- The sum is a remainder, so that the next one fits.
use Rattle.std.proofs.Common.{◌<◌}
use Rattle.printing.proofs.sum.Given as goal

abbrev pub invariant-loop-byte : goal.invariant-loop-byte
invariant-loop-byte l = l.sum < 4294967291
