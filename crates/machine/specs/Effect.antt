-- What an instruction does: its effect on the process, or what it asks of the world beyond it.
use Rattle.std.specs.Prelude.{None, Option, Some}
use Rattle.std.specs.Prelude.{ℕ, ◌-◌, ◌/◌, ◌%◌, Bool, true, false, cond, List, [], ◌∷◌, eqb, leb, length, get_or}
use Rattle.operator.specs.Binary.{binary}
use Rattle.operator.specs.Instruction.{types_of}
use Rattle.operator.specs.Outcome.{fault_of}
use Rattle.number.specs.Text.{text_of}
use Rattle.operator.specs.Unary.{unary}
use Rattle.number.specs.Value.{number_of, type_of, value_bytes}
use Rattle.number.specs.declared.Number.{Number}
use Rattle.operator.specs.Outcome.{Outcome}
use Rattle.std.specs.Prelude.{Ok, Err}
use Rattle.operator.specs.declared.ArithmeticError.TheVariants.{DivisionByZero, OutOfRange}
use Rattle.operator.specs.declared.operators.Operator.{Operator}
use Rattle.operator.specs.declared.operators.Operator.TheVariants.{OfOne, OfTwo, Scale}
use Rattle.operator.specs.declared.operators.Scaling.TheVariants.{Constrain, Map, Power}
use Rattle.scaling.specs.Constrain.{constrained}
use Rattle.scaling.specs.Map.{mapped}
use Rattle.scaling.specs.Power.{power}
use Rattle.disc.specs.Name.{trimmed}
use Rattle.variable.specs.Table.{Cell}
use Rattle.machine.specs.Limits.{stack_size}
use Rattle.machine.specs.Stack.{Item, Popped, popped, cannot, pop, push, string_kind}
use Rattle.machine.specs.State.{Local}

-- what an instruction asks of the world beyond the process, with the state it goes on in: operands popped, PC behind it
pub data Request : Type 0 where
  opens : (name : List ℕ) (size : Number) → Local → Request
  closes : Local → Request
  writes : (bytes : List ℕ) → Local → Request
  reads : (kind : ℕ) → Local → Request
  reads_string : Local → Request
  forks : (name : List ℕ) → Local → Request
  -- stays in the first state while a live process has that ID, else goes on in the second
  awaits : (id : Number) → Local → Local → Request

pub data Effect : Type 0 where
  goes : Local → (out : List ℕ) → Effect
  assigns : (name kind : ℕ) (bytes : List ℕ) → Local → Effect
  stops : Effect
  faults : ℕ → Effect
  asks : Request → Effect

abbrev pub unless_faults : Bool → ℕ → Effect → Effect
unless_faults true fault rest = rest
unless_faults false fault rest = faults fault

-- ---- the end of an instruction
-- Document 01, tried last: "4 stack above 32; 3 jump outside 0 to the code length, or ENDLOOP with no loop"
abbrev pub land : List ℕ → Option ℕ → List ℕ → ℕ → List ℕ → Effect
land prog None stack loopstart out = faults 3
land prog (Some pc) stack loopstart out =
    unless_faults (leb pc (length prog)) 3 (goes (record { stack = stack; pc = pc; loopstart = loopstart }) out)

unfoldable pub settle : List ℕ → Option ℕ → List ℕ → ℕ → List ℕ → Effect
settle prog target stack loopstart out =
    unless_faults (leb (length stack) stack_size) 4 (land prog target stack loopstart out)

-- ---- popping
abbrev pub with_popped : Popped → (Item → List ℕ → Effect) → Effect
with_popped (popped item rest) next = next item rest
with_popped (cannot fault) next = faults fault

abbrev pub number : Item → Number
number item = number_of item.kind item.bytes

-- where the number is all that is read of the value
abbrev pub with_number : Popped → (Number → List ℕ → Effect) → Effect
with_number (popped item rest) next = next (number item) rest
with_number (cannot fault) next = faults fault

-- ---- operators
abbrev pub with_outcome : Outcome → (Number → Effect) → Effect
with_outcome (Ok a) next = next a
with_outcome (Err DivisionByZero) next = faults (fault_of (Err DivisionByZero))
with_outcome (Err OutOfRange) next = faults (fault_of (Err OutOfRange))

-- the operand at a place, 0 that of the operand pushed first: which types it takes goes by operator and place
abbrev pub with_operand : Operator → ℕ → List ℕ → (Number → List ℕ → Effect) → Effect
with_operand o place stack next = with_number (pop (types_of o place) stack) next

-- the operands come off from the top, each before the next is looked at; the operator's answer goes onto what is left
unfoldable pub operates : Operator → List ℕ → (List ℕ → Effect) → Effect
operates (OfOne o) stack next =
    with_operand (OfOne o) 0 stack λ x rest.
    with_outcome (unary o x) λ z. next (push rest (type_of z) (value_bytes z))
operates (OfTwo o) stack next =
    with_operand (OfTwo o) 1 stack λ y rest.
    with_operand (OfTwo o) 0 rest λ x rest.
    with_outcome (binary o x y) λ z. next (push rest (type_of z) (value_bytes z))
operates (Scale Constrain) stack next =
    with_operand (Scale Constrain) 2 stack λ b rest.
    with_operand (Scale Constrain) 1 rest λ a rest.
    with_operand (Scale Constrain) 0 rest λ x rest.
    with_outcome (Ok (constrained x a b)) λ z. next (push rest (type_of z) (value_bytes z))
operates (Scale Map) stack next =
    with_operand (Scale Map) 4 stack λ e rest.
    with_operand (Scale Map) 3 rest λ d rest.
    with_operand (Scale Map) 2 rest λ c rest.
    with_operand (Scale Map) 1 rest λ b rest.
    with_operand (Scale Map) 0 rest λ a rest.
    with_outcome (mapped a b c d e) λ z. next (push rest (type_of z) (value_bytes z))
operates (Scale Power) stack next =
    with_operand (Scale Power) 1 stack λ y rest.
    with_operand (Scale Power) 0 rest λ x rest.
    with_outcome (power x y) λ z. next (push rest (type_of z) (value_bytes z))

-- ---- printing
-- Document 01: "PRINT: CHAR one byte; INT decimal; STRING without its zero; FLOAT to the nearest hundredth"
abbrev pub printed : Item → List ℕ
printed item = cond (eqb item.kind string_kind) (trimmed item.bytes) (text_of (number item))

abbrev pub newline : Bool → List ℕ
newline true = 10 ∷ []
newline false = []

-- ---- the clock
-- MILLIS (guide 9.5, A.4): document 01's "the clock's low 16 bits taken as INT"
abbrev pub clock_bytes : ℕ → List ℕ
clock_bytes clock = clock % 65536 / 256 ∷ clock % 256 ∷ []

-- ---- variables
-- Document 01, fault 9: "no such variable"
abbrev pub with_variable : Option ℕ → List Cell → (Cell → Effect) → Effect
with_variable None own next = faults 9
with_variable (Some i) own next = next (get_or own i (record { name = 0; kind = 0; bytes = [] }))

-- ---- jumps
abbrev pub back : Bool → ℕ → ℕ → Option ℕ
back true pc n = Some (pc - n)
back false pc n = None

abbrev pub loop_target : Bool → ℕ → Option ℕ
loop_target true loopstart = None
loop_target false loopstart = Some loopstart
