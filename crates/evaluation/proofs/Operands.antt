-- Operands popped one below another, and the answer to them pushed: by the number of operands. Assumes nothing.
use Prim.Native.Nat.{ℕ, ◌+◌}
use mathlib.Core.Path.{◌≡◌, sym, ap, subst, ◌∙◌}
use mathlib.Core.List.{List, []}
use Rattle.machine.specs.Effect.{Effect, faults, with_operand, with_outcome}
use Rattle.machine.specs.Exec.{onward}
use Rattle.machine.specs.Stack.{pop, push}
use Rattle.number.specs.Value.{type_of, value_bytes}
use Rattle.number.specs.declared.Number.{Number}
use Rattle.operator.specs.Instruction.{types_of}
use Rattle.operator.specs.Outcome.{Outcome}
use Rattle.operator.specs.declared.operators.Operator.{Operator}
use Rattle.stack.specs.Steps.{Means}
use Rattle.stack.specs.Tops.{next_numbered, number_in, number_on, numbered, with_numbered}
use Rattle.std.specs.Prelude.{Result}
use Rattle.std.specs.Result.{IsErrAnd}
use Rattle.std.proofs.lemmas.Result.{err_from_is_err_and}
use Rattle.machine.specs.Fault.{fault_number}
use Rattle.machine.specs.declared.fault.Fault.{Fault}
use Rattle.stack.specs.declared.Step.{Step}
use Rattle.stack.specs.declared.TopNumber.{TopNumber}
use Rattle.stack.specs.declared.frame.Frame.{Frame}
use Rattle.stack.proofs.Chains.{by_number, popped-first, popped-next}

-- how the code goes on: with this stack, behind the instruction
abbrev pub behind : List ℕ → List ℕ → ℕ → ℕ → List ℕ → Effect
behind code stack loopstart at = λ l. onward code stack loopstart at (at + 1) l []

-- the same of an instruction in its frame
abbrev pub behind-frame : Frame → List ℕ → Effect
behind-frame f = behind f.process.code.now f.process.stack.now f.process.loopstart f.at

-- what has an effect has one equal to it
means-as : (stack : List ℕ) (step : Result Step Fault) {e f : Effect} → Means stack step e → e ≡ f → Means stack step f
means-as stack step h p = subst (Means stack step) p h

-- what `?` hands on is the fault that it met
pub fault-handed-on : (stack : List ℕ) (step : Result Step Fault) (fault : Fault) → IsErrAnd step (λ g. g ≡ fault)
    → Means stack step (faults (fault_number fault))
fault-handed-on stack step fault h =
    let p = err_from_is_err_and step h in
    rw (p.1, p.2)

-- the answer goes onto the rest
abbrev answered : (List ℕ → Effect) → Outcome → List ℕ → Effect
answered next answer rest = with_outcome answer λ z. next (push rest (type_of z) (value_bytes z))

module _ (stack : List ℕ) (o : Operator) (next : List ℕ → Effect) where
  -- the operand on top, at a place; the one below another
  abbrev OnTop : ℕ → Result TopNumber Fault → Type 0
  OnTop place r = number_on stack r ≡ numbered (pop (types_of o place) stack)

  abbrev Below : ℕ → Result TopNumber Fault → Result TopNumber Fault → Type 0
  Below place above r = number_on stack r ≡ next_numbered (types_of o place) (number_on stack above)

  -- what the code does with the operand pushed first, x, and the answer
  abbrev pushes : Result TopNumber Fault → Outcome → Effect
  pushes x answer = with_numbered (number_on stack x) λ a rest. answered next answer rest

  -- a step that does so, where the answer is that to the operands
  pub one-operand : (x : Result TopNumber Fault) → OnTop 0 x → (f : Number
      → Outcome) {answer : Outcome} (step : Result Step Fault) → answer ≡ f (number_in x)
      → Means stack step (pushes x answer) → Means stack step (with_operand o 0 stack λ a rest. answered next (f a)
      rest)
  one-operand x top f step is h =
      means-as stack step h
      (ap (pushes x) is
      ∙ sym (popped-first stack (types_of o 0) x top (λ a rest. answered next (f a) rest)
      ∙ by_number stack x λ a rest. answered next (f a) rest))

  pub two_operands : (y x : Result TopNumber Fault) → OnTop 1 y → Below 0 y x → (f : Number → Number
      → Outcome) {answer : Outcome} (step : Result Step Fault)
      → answer ≡ f (number_in x) (number_in y) → Means stack step (pushes x answer)
      → Means stack step (with_operand o 1 stack λ b rest. with_operand o 0 rest λ a rest. answered next (f a b) rest)
  two_operands y x top first f step is h =
      means-as stack step h
      (ap (pushes x) is
      ∙ sym (popped-first stack (types_of o 1) y top (λ b rest. with_operand o 0 rest λ a rest. answered next (f a b)
      rest)
      ∙ popped-next stack (types_of o 0) y x first (λ b a rest. answered next (f a b) rest)
      ∙ by_number stack x λ a rest. answered next (f a (number_in y)) rest))

  module _ (f : Number → Number → Number → Outcome) where
    -- what is left to pop below the operand at each place
    abbrev under1 : Number → Number → List ℕ → Effect
    under1 c b rest = with_operand o 0 rest λ a rest. answered next (f a b c) rest

    abbrev under2 : Number → List ℕ → Effect
    under2 c rest = with_operand o 1 rest λ b rest. under1 c b rest

    pub three-operands : (c b a : Result TopNumber Fault) → OnTop 2 c → Below 1 c b → Below 0 b a
        → {answer : Outcome} (step : Result Step Fault)
        → answer ≡ f (number_in a) (number_in b) (number_in c)
        → Means stack step (pushes a answer) → Means stack step (with_operand o 2 stack under2)
    three-operands c b a top second first step is h =
        means-as stack step h
        (ap (pushes a) is
        ∙ sym (popped-first stack (types_of o 2) c top under2
        ∙ popped-next stack (types_of o 1) c b second (λ c b rest. under1 c b rest)
        ∙ popped-next stack (types_of o 0) b a first (λ b a rest. answered next (f a b (number_in c)) rest)
        ∙ by_number stack a λ a rest. answered next (f a (number_in b) (number_in c)) rest))

  module _ (f : Number → Number → Number → Number → Number → Outcome) where
    abbrev below1 : Number → Number → Number → Number → List ℕ → Effect
    below1 e d c b rest = with_operand o 0 rest λ a rest. answered next (f a b c d e) rest

    abbrev below2 : Number → Number → Number → List ℕ → Effect
    below2 e d c rest = with_operand o 1 rest λ b rest. below1 e d c b rest

    abbrev below3 : Number → Number → List ℕ → Effect
    below3 e d rest = with_operand o 2 rest λ c rest. below2 e d c rest

    abbrev below4 : Number → List ℕ → Effect
    below4 e rest = with_operand o 3 rest λ d rest. below3 e d rest

    pub five-operands : (e d c b a : Result TopNumber Fault) → OnTop 4 e → Below 3 e d → Below 2 d c → Below 1 c b
        → Below 0 b a
        → {answer : Outcome} (step : Result Step Fault) → answer ≡ f (number_in a) (number_in b) (number_in c)
        (number_in d) (number_in e)
        → Means stack step (pushes a answer) → Means stack step (with_operand o 4 stack below4)
    five-operands e d c b a top fourth third second first step is h =
        means-as stack step h
        (ap (pushes a) is
        ∙ sym (popped-first stack (types_of o 4) e top below4
        ∙ popped-next stack (types_of o 3) e d fourth (λ e d rest. below3 e d rest)
        ∙ popped-next stack (types_of o 2) d c third (λ d c rest. below2 (number_in e) d c rest)
        ∙ popped-next stack (types_of o 1) c b second (λ c b rest. below1 (number_in e) (number_in d) c b rest)
        ∙ popped-next stack (types_of o 0) b a first (λ b a rest. answered next (f a b (number_in c) (number_in d)
        (number_in e)) rest)
        ∙ by_number stack a λ a rest. answered next (f a (number_in b) (number_in c) (number_in d) (number_in e)) rest))
