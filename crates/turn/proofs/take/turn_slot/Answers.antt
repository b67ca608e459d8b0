-- The process of the slot is copied out of the ten.
use mathlib.Core.Path.{ap, ◌∙◌}
use mathlib.Core.List.{List}
use lib.ListN.{get_or}
use Rattle.machine.specs.State.{is_running, no_process}
use Rattle.machine.specs.declared.Process.{Process}
use Rattle.turn.proofs.Passing.{area-size}
use Rattle.turn.proofs.take.turn_slot.Goals as goal

pub processes_of-processes-requires : goal.processes_of-processes-requires
processes_of-processes-requires c = area-size c.requires.0

pub take_turn-requires : goal.take_turn-requires
take_turn-requires c =
    let copied = ap (λ (l : List Process). get_or l c.args.slot no_process) c.processes_of-processes.ensures in
    (c.requires.0, c.requires.1, c.requires.2, copied, ap is_running copied ∙ c.requires.3)
