-- The process is turned to the state paused.
use mathlib.Core.Path.{ap, ◌∙◌}
use Rattle.machine.specs.Answer.{answer, command_answer, on_good}
use Rattle.machine.specs.Area.{kernel_of}
use Rattle.machine.specs.Operations.{Commanded, commanded}
use Rattle.machine.specs.State.{slot_of}
use Rattle.operation.specs.Answers.{lent}
use Rattle.operation.proofs.Commanding.{pauses}
use Rattle.operation.proofs.commands.suspend.Goals as goal

pub returns : goal.returns
unfolding answer commanded
returns c out =
    let k = kernel_of c.args.area.now in
    let b = lent c.args.disc.now c.args.area.now out in
    c.change_state.ensures out ∙ ap (λ (x : Commanded). on_good b (command_answer x b)) (pauses (slot_of k c.args.id) k)
