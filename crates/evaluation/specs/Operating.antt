-- What an operator does where it stands.
use Rattle.std.specs.Prelude.{ℕ, ◌+◌, List, []}
use Rattle.machine.specs.Effect.{Effect, operates}
use Rattle.machine.specs.Exec.{onward}
use Rattle.operator.specs.declared.operators.Operator.{Operator}

-- its answer goes onto what its operands leave of the stack, and the process goes on behind the instruction
abbrev pub evaluates : Operator → List ℕ → List ℕ → ℕ → ℕ → Effect
evaluates o code stack loopstart at = operates o stack λ s. onward code stack loopstart at (at + 1) s []
