-- What the code's answers to popping stand for.
use Rattle.std.specs.Prelude.{ℕ, ◌+◌, Bool, true, false, List, take, pos, Result, Ok, Err}
use Rattle.buffer.specs.Buffer.{part}
use Rattle.machine.specs.Effect.{Effect, faults, number}
use Rattle.machine.specs.Fault.{fault_number}
use Rattle.machine.specs.Stack.{Popped, popped, cannot, pop}
use Rattle.machine.specs.declared.fault.Fault.{Fault}
use Rattle.number.specs.declared.Number.{Number}
use Rattle.number.specs.declared.Number.TheVariants.{Char}
use Rattle.operator.specs.declared.instruction.Types.{Types}
use Rattle.operator.specs.declared.instruction.Types.TheVariants.{AnyNumber, CharOrInt, IntOrFloat, CharOrFloat}
use Rattle.operator.specs.declared.instruction.Types.TheVariants.{AnyString, AnyValue}
use Rattle.stack.specs.declared.TopNumber.{TopNumber}
use Rattle.stack.specs.declared.TopValue.{TopValue}

-- the value that lies there, and the stack below it
abbrev pub value_on : List ℕ → Result TopValue Fault → Popped
value_on stack (Ok v) = popped (record { kind = v.kind; bytes = part stack v.at v.len }) (take v.at stack)
value_on stack (Err fault) = cannot (fault_number fault)

abbrev pub value_end : Result TopValue Fault → ℕ
value_end (Ok v) = v.at + v.len
value_end (Err fault) = 0

-- sets of types of numbers alone
abbrev pub is_numeric : Types → Bool
is_numeric AnyNumber = true
is_numeric CharOrInt = true
is_numeric IntOrFloat = true
is_numeric CharOrFloat = true
is_numeric AnyString = false
is_numeric AnyValue = false

-- a popped value of which the number is all that is read
pub data Numbered : Type 0 where
  number_above : Number → List ℕ → Numbered
  no_number : ℕ → Numbered

abbrev pub numbered : Popped → Numbered
numbered (popped item rest) = number_above (number item) rest
numbered (cannot fault) = no_number fault

abbrev pub number_on : List ℕ → Result TopNumber Fault → Numbered
number_on stack (Ok top) = number_above top.number (take top.below stack)
number_on stack (Err fault) = no_number (fault_number fault)

-- the number popped next, from what lies below one popped before; a fault met before stays
abbrev pub next_numbered : Types → Numbered → Numbered
next_numbered types (number_above a rest) = numbered (pop types rest)
next_numbered types (no_number fault) = no_number fault

-- the number, of which 0 is never used where there is none
abbrev pub number_in : Result TopNumber Fault → Number
number_in (Ok top) = top.number
number_in (Err fault) = Char (pos 0)

-- an instruction goes on with the number, or faults
abbrev pub with_numbered : Numbered → (Number → List ℕ → Effect) → Effect
with_numbered (number_above a rest) next = next a rest
with_numbered (no_number fault) next = faults fault

-- how many bytes lie below it
abbrev pub bytes_below : Result TopNumber Fault → ℕ
bytes_below (Ok top) = top.below
bytes_below (Err fault) = 0
