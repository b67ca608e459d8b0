-- What an instruction does where it stands.
use Rattle.std.specs.Prelude.{ℕ, List, [], Result, Some}
use Rattle.machine.specs.Effect.{Effect, settle}
use Rattle.machine.specs.declared.fault.Fault.{Fault}
use Rattle.stack.specs.Steps.{Means}
use Rattle.stack.specs.declared.Step.{Step}
use Rattle.stack.specs.declared.frame.Frame.{Frame}
use Rattle.stack.specs.declared.frame.Running.{Running}

-- an answer in this frame has the effect that an instruction has there: of program, stack, loop's start and place
abbrev pub Performs : Frame → (List ℕ → List ℕ → ℕ → ℕ → Effect) → Result Step Fault → Type 0
Performs frame f answer =
    let process = frame.process in
    Means process.stack.now answer (f process.code.now process.stack.now process.loopstart frame.at)

-- on to a place with these bytes on the stack
abbrev pub lands : Running → ℕ → List ℕ → Effect
lands process to stack = settle process.code.now (Some to) stack process.loopstart []
