-- The loop: the lines of the processes in the slots passed are written.
use Prim.Native.Nat.{◌-◌}
use Rattle.buffer.proofs.Lines.{Written}
use Rattle.machine.specs.Limits.{slot_count}
use Rattle.area.specs.Parts.{process_in}
use Rattle.operation.specs.Lines.{line_of}
use Rattle.operation.proofs.list.put_list.Given as goal

abbrev pub invariant-loop-slot : goal.invariant-loop-slot
invariant-loop-slot l = Written line_of (process_in l.area) slot_count l.initial.out l.out l.at l.slot
