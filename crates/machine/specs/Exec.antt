-- One instruction, as a function of the process alone. The order of faults is the order of the lines.
use Rattle.std.specs.Prelude.{Some}
use Rattle.std.specs.Prelude.{ℕ, ◌+◌, ◌-◌, Bool, cond, List, [], ◌∷◌, ◌++◌, eqb, leb, ltb, length, get_or, drop, take}
use Rattle.std.specs.Bool.{beq}
use Rattle.buffer.specs.Buffer.{part}
use Rattle.buffer.specs.Lists.{index}
use Rattle.number.specs.Clock.{is_ahead}
use Rattle.number.specs.Value.{is_zero}
use Rattle.operator.specs.declared.instruction.Types.TheVariants.{AnyNumber, AnyValue, CharOrInt}
use Rattle.disc.specs.Name.{trimmed}
use Rattle.variable.specs.Table.{Cell}
use Rattle.machine.specs.Asking.{reaches}
use Rattle.machine.specs.Effect.{Effect, goes, assigns, stops, faults, unless_faults, settle, with_popped}
use Rattle.machine.specs.Effect.{with_number, operates, printed, newline, clock_bytes, with_variable}
use Rattle.machine.specs.Effect.{back, loop_target}
use Rattle.machine.specs.Instruction.{instruction_of}
use Rattle.machine.specs.Stack.{pop, push, push_item, push_string}
use Rattle.machine.specs.State.{Local, no_loop}
use Rattle.machine.specs.declared.instruction.Instruction.{Instruction}
use Rattle.machine.specs.declared.instruction.Instruction.TheVariants.{Literal, StringLiteral, SetVariable}
use Rattle.machine.specs.declared.instruction.Instruction.TheVariants.{GetVariable, Operate, DelayUntil, Millis}
use Rattle.machine.specs.declared.instruction.Instruction.TheVariants.{Print, JumpIf, EndIf, While, EndWhile}
use Rattle.machine.specs.declared.instruction.Instruction.TheVariants.{Loop, EndLoop, Stop, Beyond, Unknown}

-- the program's bytes, the stack below SP, the loop's start, and the place of the instruction byte
module _ (prog stack : List ℕ) (loopstart at : ℕ) where
  -- the place behind the instruction byte: its arguments stand there
  abbrev pub behind : ℕ
  behind = at + 1

  abbrev pub first_argument : ℕ
  first_argument = get_or prog behind 0

  abbrev pub second_argument : ℕ
  second_argument = get_or prog (behind + 1) 0

  -- Document 01, fault 2: "code ended", before anything is popped. n argument bytes.
  abbrev pub with_arguments : ℕ → Effect → Effect
  with_arguments n rest = unless_faults (leb (behind + n) (length prog)) 2 rest

  -- the process at a place, with these bytes on its stack
  abbrev pub here : ℕ → List ℕ → Local
  here pc below = record { stack = below; pc = pc; loopstart = loopstart }

  -- on to a place with these bytes on the stack
  abbrev pub onward : ℕ → List ℕ → List ℕ → Effect
  onward pc below out = settle prog (Some pc) below loopstart out

  -- ---- values
  abbrev pub push_literal : ℕ → Effect
  push_literal kind = with_arguments kind (onward (behind + kind) (push stack kind (part prog behind kind)) [])

  -- fault 2 also where no zero follows inside the code
  abbrev pub push_text : Effect
  push_text =
      let text = trimmed (drop behind prog) in
      with_arguments (length text + 1)
      (onward (behind + (length text + 1)) (push_string stack (text ++ (0 ∷ []))) [])

  -- ---- variables
  abbrev pub sets : Effect
  sets =
      with_arguments 1
      (with_popped (pop AnyValue stack) λ x rest.
      assigns first_argument x.kind x.bytes (here (behind + 1) rest))

  abbrev pub gets : List Cell → Effect
  gets own =
      with_arguments 1
      (with_variable (index (λ c. eqb c.name first_argument) own) own λ c.
      onward (behind + 1) (push_item stack c.kind c.bytes) [])

  -- ---- time
  -- Document 02, Q-4: "DELAYUNTIL now stays while x minus the clock, modulo 65,536, is 1 to 32,767. CHAR is widened
  -- first. FLOAT becomes fault 6." What stays keeps its bytes.
  abbrev pub delays : ℕ → Effect
  delays clock =
      with_number (pop CharOrInt stack) λ x rest.
      cond (is_ahead x clock) (goes (here at stack) []) (onward behind rest [])

  abbrev pub push_clock : ℕ → Effect
  push_clock clock = onward behind (push stack 2 (clock_bytes clock)) []

  -- ---- output
  abbrev pub prints : Bool → Effect
  prints ends = with_popped (pop AnyValue stack) λ x rest. onward behind rest (printed x ++ newline ends)

  -- ---- flow. Jumps count from past the arguments. IF and ELSE leave the number as it lies.
  abbrev pub jumps_if : Bool → Effect
  jumps_if zero =
      with_arguments 1
      (with_number (pop AnyNumber stack) λ x rest.
      onward (cond (beq (is_zero x) zero) (behind + 1 + first_argument) (behind + 1)) stack [])

  abbrev pub drops : Effect
  drops = with_number (pop AnyNumber stack) λ x rest. onward behind rest []

  -- Document 01: "WHILE c b pops; zero skips b + 1; otherwise the raw byte c + b + 4 is pushed."; fault 8: "c + b above
  -- 251 on a value not zero"
  abbrev pub whiles : Effect
  whiles =
      let c = first_argument in
      let b = second_argument in
      with_arguments 2
      (with_number (pop AnyNumber stack) λ x rest.
      cond (is_zero x)
      (onward (behind + 2 + (b + 1)) rest [])
      (unless_faults (leb (c + b) 251) 8 (onward (behind + 2) (rest ++ ((c + b + 4) ∷ [])) [])))

  -- ENDWHILE takes one raw byte: only fault 5
  abbrev pub ends_while : Effect
  ends_while =
      let n = length stack in
      let distance = get_or stack (n - 1) 0 in
      unless_faults (leb 1 n) 5
      (settle prog (back (leb distance behind) behind distance) (take (n - 1) stack) loopstart [])

  abbrev pub marks_loop : Effect
  marks_loop = settle prog (Some behind) stack behind []

  abbrev pub loops_back : Effect
  loops_back = settle prog (loop_target (eqb loopstart no_loop) loopstart) stack loopstart []

  unfoldable pub performs : ℕ → Instruction → List Cell → Effect
  performs clock (Literal kind) own = push_literal kind
  performs clock StringLiteral own = push_text
  performs clock SetVariable own = sets
  performs clock GetVariable own = gets own
  performs clock (Operate o) own = operates o stack λ below. onward behind below []
  performs clock DelayUntil own = delays clock
  performs clock Millis own = push_clock clock
  performs clock (Print ends) own = prints ends
  performs clock (JumpIf zero) own = jumps_if zero
  performs clock EndIf own = drops
  performs clock While own = whiles
  performs clock EndWhile own = ends_while
  performs clock Loop own = marks_loop
  performs clock EndLoop own = loops_back
  performs clock Stop own = stops
  performs clock (Beyond r) own = reaches prog stack loopstart at r
  performs clock Unknown own = faults 1

-- Document 01: "1 no such instruction; 2 code ended": past the last byte there is no instruction byte to judge
unfoldable pub exec : List ℕ → ℕ → Local → List Cell → Effect
unfolding performs
exec prog clock l own =
    unless_faults (ltb l.pc (length prog)) 2
    (performs prog l.stack l.loopstart l.pc clock (instruction_of (get_or prog l.pc 0)) own)
