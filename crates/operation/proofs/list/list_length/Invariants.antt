-- The loop: the lines of the processes in the slots passed are counted.
use Prim.Native.Nat.{◌-◌}
use Rattle.buffer.proofs.Lines.{Counted}
use Rattle.machine.specs.Limits.{slot_count}
use Rattle.area.specs.Parts.{process_in}
use Rattle.operation.specs.Lines.{line_of}
use Rattle.operation.proofs.list.list_length.Given as goal

abbrev pub invariant-loop-slot : goal.invariant-loop-slot
invariant-loop-slot l = Counted line_of (process_in l.area) slot_count l.len l.slot
