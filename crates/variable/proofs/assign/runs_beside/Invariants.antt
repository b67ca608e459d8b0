-- The loop: the runs of the first i entries but that one's are listed.
use Prim.Native.Nat.{◌≤◌}
use Rattle.variable.specs.Bytes.{variables_of}
use Rattle.variable.specs.Closing.{Lists}
use Rattle.variable.specs.Table.{is_of}
use Rattle.variable.proofs.Listing.{runs_of}
use Rattle.variable.proofs.assign.runs_beside.Given as goal

abbrev pub invariant-loop-i : goal.invariant-loop-i
invariant-loop-i l = (l.i ≤ l.count) × (l.listed ≤ l.i)
    × Lists (record { runs = l.runs; count = l.listed }) (runs_of (variables_of l.variables) (is_of l.name l.owner) l.i)
