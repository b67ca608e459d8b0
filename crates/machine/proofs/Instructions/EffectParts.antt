-- Effects, by the parts that instructions are made of: what is sound of each part is sound of the whole.
use Rattle.std.specs.Prelude.{None, Option, Some}
use Prim.Native.Nat.{ℕ, ◌≤◌}
use mathlib.Core.Path.{◌≡◌, refl}
use mathlib.Core.Bool.{Bool, true, false, cond}
use mathlib.Core.List.{List, []}
use mathlib.Core.Logic.{◌⊎◌, ⊎_elim}
use native.Mathlib.Omega.{arith}
use lib.Dec.{leb}
use lib.ListN.{length, get_or}
use borrow.Author.Tests.{leb-true}
use Rattle.operator.specs.Binary.{binary}
use Rattle.operator.specs.Instruction.{types_of}
use Rattle.operator.specs.Unary.{unary}
use Rattle.number.specs.declared.Number.{Number}
use Rattle.operator.specs.declared.instruction.Types.{Types}
use Rattle.operator.specs.Outcome.{Outcome}
use Rattle.std.specs.Prelude.{Ok, Err}
use Rattle.operator.specs.declared.ArithmeticError.TheVariants.{DivisionByZero, OutOfRange}
use Rattle.operator.specs.declared.operators.Operator.{Operator}
use Rattle.operator.specs.declared.operators.Operator.TheVariants.{OfOne, OfTwo, Scale}
use Rattle.operator.specs.declared.operators.Scaling.TheVariants.{Constrain, Map, Power}
use Rattle.scaling.specs.Map.{mapped}
use Rattle.scaling.specs.Power.{power}
use Rattle.variable.specs.Good.{good_size}
use Rattle.variable.specs.Table.{Cell}
use Rattle.machine.specs.Effect.{Effect, goes, assigns, stops, faults, asks, unless_faults, land, settle, with_popped, with_number}
use Rattle.machine.specs.Effect.{with_outcome, with_variable, operates, number}
use Rattle.machine.specs.Limits.{stack_size, turn_room}
use Rattle.machine.specs.Stack.{Item, Popped, popped, cannot, pop}
use Rattle.machine.specs.State.{Local, no_loop}
use Rattle.machine.specs.Suppositions.{is_barred}
use Rattle.machine.proofs.Instructions.Popping.{Pops, TakenOff, pop-pops}
use Rattle.machine.proofs.Instructions.Sound.{Asked, Within}

-- the byte that is executed
abbrev pub instruction_byte : List ℕ → Local → ℕ
instruction_byte prog l = get_or prog l.pc 0

-- an effect that is sound where the process fits its record, assigns only by SET's byte, 5, and asks only by a byte that may
unfoldable pub Does : List ℕ → Local → Effect → Type 0
Does prog l (goes m out) = Within (length prog) l → Within (length prog) m × (length out ≤ turn_room)
Does prog l (assigns name kind bytes m) = (instruction_byte prog l ≡ 5)
    × (Within (length prog) l → Within (length prog) m × (good_size kind (length bytes) ≡ true))
Does prog l stops = Unit {0}
Does prog l (faults n) = (1 ≤ n) × (n ≤ 9)
Does prog l (asks r) = (is_barred (instruction_byte prog l) ≡ true) × (Within (length prog) l → Asked prog l r)

module _ (prog : List ℕ) (l : Local) where
  -- ---- the parts that instructions are made of
  pub unless-does : (b : Bool) (n : ℕ) (e : Effect) → (1 ≤ n) × (n ≤ 9) → (b ≡ true → Does prog l e) → Does prog l (unless_faults b n e)
  unfolding Does
  unless-does true n e f h = h refl
  unless-does false n e f h = f

  pub either-does : (b : Bool) (d e : Effect) → Does prog l d → Does prog l e → Does prog l (cond b d e)
  either-does true d e h k = h
  either-does false d e h k = k

  pub popped-does : (types : Types) (stack : List ℕ) (next : Item → List ℕ → Effect)
      → ((item : Item) (rest : List ℕ) → pop types stack ≡ popped item rest → TakenOff types stack item rest → Does prog l (next item rest))
      → Does prog l (with_popped (pop types stack) next)
  unfolding Does Pops
  popped-does types stack next h = go (pop types stack) refl (pop-pops types stack)
    where
      go : (p : Popped) → pop types stack ≡ p → Pops types stack p → Does prog l (with_popped p next)
      go (popped item rest) e t = h item rest e t
      go (cannot n) e f = ⊎_elim (λ (q : n ≡ 5). (omega arith, omega arith)) (λ (q : n ≡ 6). (omega arith, omega arith)) f

  pub number-does : (types : Types) (stack : List ℕ) (next : Number → List ℕ → Effect)
      → ((a : Number) (rest : List ℕ) → length rest ≤ length stack → Does prog l (next a rest))
      → Does prog l (with_number (pop types stack) next)
  unfolding Does Pops
  number-does types stack next h = go (pop types stack) (pop-pops types stack)
    where
      go : (p : Popped) → Pops types stack p → Does prog l (with_number p next)
      go (popped item rest) t = h (number item) rest (omega (arith, t.lay))
      go (cannot n) f = ⊎_elim (λ (q : n ≡ 5). (omega arith, omega arith)) (λ (q : n ≡ 6). (omega arith, omega arith)) f

  outcome-does : (o : Outcome) (next : Number → Effect) → ((a : Number) → Does prog l (next a)) → Does prog l (with_outcome o next)
  unfolding Does
  outcome-does (Ok a) next h = h a
  outcome-does (Err DivisionByZero) next h = (omega arith, omega arith)
  outcome-does (Err OutOfRange) next h = (omega arith, omega arith)

  pub variable-does : (f : Option ℕ) (own : List Cell) (next : Cell → Effect) → ((c : Cell) → Does prog l (next c))
      → Does prog l (with_variable f own next)
  unfolding Does
  variable-does None own next h = (omega arith, omega arith)
  variable-does (Some i) own next h = h _

  pub operates-does : (o : Operator) (stack : List ℕ) (next : List ℕ → Effect) → ((s : List ℕ) → Does prog l (next s))
      → Does prog l (operates o stack next)
  unfolding Does operates
  operates-does (OfOne o) stack next h = number-does (types_of (OfOne o) 0) stack _ λ x rest t. outcome-does (unary o x) _ λ z. h _
  operates-does (OfTwo o) stack next h =
      number-does (types_of (OfTwo o) 1) stack _ λ y rest t.
      number-does (types_of (OfTwo o) 0) rest _ λ x below u.
      outcome-does (binary o x y) _ λ z. h _
  operates-does (Scale Constrain) stack next h =
      number-does (types_of (Scale Constrain) 2) stack _ λ b rest t.
      number-does (types_of (Scale Constrain) 1) rest _ λ a rest u.
      number-does (types_of (Scale Constrain) 0) rest _ λ x rest v.
      h _
  operates-does (Scale Map) stack next h =
      number-does (types_of (Scale Map) 4) stack _ λ e rest t.
      number-does (types_of (Scale Map) 3) rest _ λ d rest u.
      number-does (types_of (Scale Map) 2) rest _ λ c rest v.
      number-does (types_of (Scale Map) 1) rest _ λ b rest w.
      number-does (types_of (Scale Map) 0) rest _ λ a rest x.
      outcome-does (mapped a b c d e) _ λ z. h _
  operates-does (Scale Power) stack next h =
      number-does (types_of (Scale Power) 1) stack _ λ y rest t.
      number-does (types_of (Scale Power) 0) rest _ λ x rest u.
      outcome-does (power x y) _ λ z. h _

  -- the tests at the end of an instruction: stack and PC fit whatever it did
  pub settle-does : (target : Option ℕ) (stack : List ℕ) (loopstart : ℕ) (out : List ℕ)
      → (Within (length prog) l → ((loopstart ≡ no_loop) ⊎ (loopstart ≤ length prog)) × (length out ≤ turn_room))
      → Does prog l (settle prog target stack loopstart out)
  unfolding Does settle
  settle-does target stack loopstart out h = unless-does (leb (length stack) stack_size) 4 _ (omega arith, omega arith) (lands target)
    where
      lands : (f : Option ℕ) → leb (length stack) stack_size ≡ true → Does prog l (land prog f stack loopstart out)
      lands None s = (omega arith, omega arith)
      lands (Some pc) s = unless-does (leb pc (length prog)) 3 _ (omega arith, omega arith) λ p. λ w.
          (record { stack = leb-true _ _ s; pc = leb-true _ _ p; loop = (h w).0 }, (h w).1)

  pub onward-does : (target : Option ℕ) (stack : List ℕ) → Does prog l (settle prog target stack l.loopstart [])
  onward-does target stack = settle-does target stack l.loopstart [] λ w. (w.loop, omega arith)
