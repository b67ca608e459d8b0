-- The loop: the turns taken so far, and those that are left of the share.
use lib.ListN.{replicate}
use Rattle.machine.specs.Area.{kernel_of}
use Rattle.machine.specs.Limits.{turn_room}
use Rattle.machine.specs.Operations.{turn_if_running}
use Rattle.turn.proofs.Going.{Going}
use Rattle.turn.proofs.round.take_share.Given as goal

abbrev pub invariant-loop-taken : goal.invariant-loop-taken
invariant-loop-taken l =
    Going turn_if_running turn_room (replicate l.due l.slot) (kernel_of l.initial.area) l.clock l.initial.disc l.initial.out
    l._taken l.printed l.disc l.area l.out
