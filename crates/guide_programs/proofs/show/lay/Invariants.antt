-- What is laid lies within the room.
use Rattle.std.proofs.Common.{◌≤◌}
use Rattle.guide_programs.proofs.show.lay.Given as goal

abbrev pub invariant-loop-row : goal.invariant-loop-row
invariant-loop-row l = l.len ≤ 64
