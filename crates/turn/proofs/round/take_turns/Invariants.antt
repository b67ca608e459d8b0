-- The loop: the shares of the slots passed are taken, and those of the slots that are left make up the round.
use Rattle.machine.specs.Area.{kernel_of}
use Rattle.machine.specs.Limits.{share_room}
use Rattle.machine.specs.Operations.{share_of_turns, slots}
use Rattle.turn.proofs.Going.{Going}
use Rattle.turn.proofs.round.take_turns.Given as goal

abbrev pub invariant-loop-slot : goal.invariant-loop-slot
invariant-loop-slot l =
    Going share_of_turns share_room slots
    (kernel_of l.initial.area) l.clock l.initial.disc l.initial.out l.slot l.printed l.disc l.area l.out
