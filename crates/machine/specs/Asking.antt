-- What an instruction asks of the world beyond its process: the operands are popped here, the answer comes from disc
-- and process table (Beyond).
use Rattle.std.specs.Prelude.{ℕ, ◌+◌, List}
use Rattle.operator.specs.declared.instruction.Types.TheVariants.{AnyNumber, AnyString, AnyValue}
use Rattle.disc.specs.Name.{trimmed}
use Rattle.machine.specs.Effect.{opens, closes, writes, reads, reads_string, forks, awaits, Effect, asks}
use Rattle.machine.specs.Effect.{with_number, with_popped}
use Rattle.machine.specs.Stack.{pop}
use Rattle.machine.specs.State.{Local}
use Rattle.machine.specs.declared.instruction.Reach.{Reach}
use Rattle.machine.specs.declared.instruction.Reach.TheVariants.{OpenFile, CloseFile, WriteFile, ReadNumber}
use Rattle.machine.specs.declared.instruction.Reach.TheVariants.{ReadString, Fork, WaitUntilDone}

-- the program's bytes, the stack below SP, the loop's start, and the place of the instruction byte
module _ (prog stack : List ℕ) (loopstart at : ℕ) where
  -- behind the instruction byte, with these bytes on the stack
  abbrev pub past : List ℕ → Local
  past below = record { stack = below; pc = at + 1; loopstart = loopstart }

  -- Document 01: "OPEN pops the size, then the name (as for FORK, the string less its zero)"
  abbrev pub reaches : Reach → Effect
  reaches OpenFile =
      with_number (pop AnyNumber stack) λ size rest.
      with_popped (pop AnyString rest) λ name rest.
      asks (opens (trimmed name.bytes) size (past rest))
  reaches CloseFile = asks (closes (past stack))
  reaches WriteFile = with_popped (pop AnyValue stack) λ x rest. asks (writes x.bytes (past rest))
  reaches (ReadNumber kind) = asks (reads kind (past stack))
  reaches ReadString = asks (reads_string (past stack))
  reaches Fork = with_popped (pop AnyString stack) λ name rest. asks (forks (trimmed name.bytes) (past rest))
  reaches WaitUntilDone =
      with_number (pop AnyNumber stack) λ x rest.
      asks (awaits x (record { stack = stack; pc = at; loopstart = loopstart }) (past rest))
