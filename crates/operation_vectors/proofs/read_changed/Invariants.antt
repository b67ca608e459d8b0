-- Each turn of the loop ends behind the place where it began, and inside the buffer, which keeps its length.
use Rattle.std.proofs.Common.{◌≤◌, ◌-◌}
use Rattle.operation_vectors.proofs.read_changed.Given as goal

abbrev pub invariant-loop-at : goal.invariant-loop-at
invariant-loop-at g l = l.at ≤ l.length

abbrev pub decreases-loop-at : goal.decreases-loop-at
decreases-loop-at g l = l.length - l.at
