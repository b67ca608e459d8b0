-- Effects of bytes, by the parts that instructions are made of.
use Rattle.std.specs.Prelude.{None, Option, Some}
use Prim.Native.Nat.{ℕ, ◌≤◌}
use mathlib.Core.Path.{◌≡◌, refl}
use mathlib.Core.Bool.{Bool, true, false, cond}
use mathlib.Core.List.{List}
use native.Mathlib.Omega.{arith}
use lib.Dec.{leb}
use lib.ListN.{length}
use borrow.Author.Tests.{leb-true}
use Rattle.operator.specs.Binary.{binary}
use Rattle.operator.specs.Instruction.{types_of}
use Rattle.operator.specs.Unary.{unary}
use Rattle.number.specs.Value.{type_of, value_bytes}
use Rattle.number.specs.declared.Number.{Number}
use Rattle.number.specs.declared.Number.TheVariants.{Char, Int, Float}
use Rattle.operator.specs.declared.instruction.Types.{Types}
use Rattle.operator.specs.Outcome.{Outcome}
use Rattle.std.specs.Prelude.{Ok, Err}
use Rattle.operator.specs.declared.ArithmeticError.TheVariants.{DivisionByZero, OutOfRange}
use Rattle.operator.specs.declared.operators.Operator.{Operator}
use Rattle.operator.specs.declared.operators.Operator.TheVariants.{OfOne, OfTwo, Scale}
use Rattle.operator.specs.declared.operators.Scaling.TheVariants.{Constrain, Map, Power}
use Rattle.scaling.specs.Constrain.{constrained}
use Rattle.scaling.specs.Map.{mapped}
use Rattle.scaling.specs.Power.{power}
use Rattle.number.proofs.Encoding.{Fits}
use Rattle.variable.specs.Table.{Cell}
use Rattle.machine.specs.Effect.{Effect, goes, assigns, stops, faults, asks, Request, opens, closes, writes, reads, reads_string}
use Rattle.machine.specs.Effect.{forks, awaits, unless_faults, land, settle, with_popped, with_number, with_outcome, with_variable}
use Rattle.machine.specs.Effect.{operates}
use Rattle.machine.specs.Limits.{stack_size}
use Rattle.machine.specs.Stack.{Item, Popped, popped, cannot, pop, push}
use Rattle.buffer.proofs.ByteLists.{Bytes, IsByte}
use Rattle.buffer.proofs.Each.{Each, each_at}
use Rattle.machine.proofs.InBytes.NumberBytes.{number_fits, value-bytes}
use Rattle.machine.proofs.InBytes.Outcomes.{Answers, binary-answers, unary-answers}
use Rattle.machine.proofs.InBytes.Scaling.{constrained-fits, map-answers, power-answers}
use Rattle.machine.proofs.InBytes.Stacks.{ByteItem, PopsBytes, pop-bytes, push-bytes}

abbrev pub AsksBytes : Request → Type 0
AsksBytes (opens name size l) = Bytes l.stack
AsksBytes (closes l) = Bytes l.stack
AsksBytes (writes bytes l) = Bytes bytes × Bytes l.stack
AsksBytes (reads kind l) = IsByte kind × Bytes l.stack
AsksBytes (reads_string l) = Bytes l.stack
AsksBytes (forks name l) = Bytes l.stack
AsksBytes (awaits id stay go) = Bytes stay.stack × Bytes go.stack

-- what it leaves on the stack, prints, assigns or asks to be written is bytes
unfoldable pub GivesBytes : Effect → Type 0
GivesBytes (goes l out) = Bytes l.stack × Bytes out
GivesBytes (assigns name kind bytes l) = IsByte name × IsByte kind × Bytes bytes × Bytes l.stack
GivesBytes stops = Unit {0}
GivesBytes (faults n) = Unit {0}
GivesBytes (asks r) = AsksBytes r

pub record ByteCell (c : Cell) : Type 0 where
  pub kind : IsByte c.kind
  pub bytes : Bytes c.bytes

-- ---- tests
pub unless-gives : (b : Bool) (n : ℕ) (e : Effect) → (b ≡ true → GivesBytes e) → GivesBytes (unless_faults b n e)
unfolding GivesBytes
unless-gives true n e h = h refl
unless-gives false n e h = tt

pub either-gives : (b : Bool) (d e : Effect) → GivesBytes d → GivesBytes e → GivesBytes (cond b d e)
either-gives true d e h k = h
either-gives false d e h k = k

-- the tests at the end of an instruction: the stack fits
pub settle-gives : (prog : List ℕ) (target : Option ℕ) (stack : List ℕ) (loopstart : ℕ) (out : List ℕ)
    → (length stack ≤ stack_size → Bytes stack) → Bytes out → GivesBytes (settle prog target stack loopstart out)
unfolding GivesBytes settle
settle-gives prog target stack loopstart out h k =
    unless-gives (leb (length stack) stack_size) 4 _ λ fits. lands target (h (leb-true _ _ fits))
  where
    lands : (f : Option ℕ) → Bytes stack → GivesBytes (land prog f stack loopstart out)
    lands None b = tt
    lands (Some pc) b = unless-gives (leb pc (length prog)) 3 _ λ p. (b, k)

-- ---- operands
module _ (types : Types) (stack : List ℕ) (h : Bytes stack) where
  pub popped-gives : (next : Item → List ℕ → Effect)
      → ((item : Item) (rest : List ℕ) → ByteItem item → Bytes rest → GivesBytes (next item rest))
      → GivesBytes (with_popped (pop types stack) next)
  unfolding GivesBytes
  popped-gives next g = go (pop types stack) (pop-bytes types stack h)
    where
      go : (p : Popped) → PopsBytes p → GivesBytes (with_popped p next)
      go (popped item rest) b = g item rest b.0 b.1
      go (cannot n) b = tt

  pub number-gives : (next : Number → List ℕ → Effect)
      → ((a : Number) (rest : List ℕ) → Fits a → Bytes rest → GivesBytes (next a rest))
      → GivesBytes (with_number (pop types stack) next)
  unfolding GivesBytes
  number-gives next g = go (pop types stack) (pop-bytes types stack h)
    where
      go : (p : Popped) → PopsBytes p → GivesBytes (with_number p next)
      go (popped item rest) b = g _ rest (number_fits item.kind item.bytes b.0.bytes) b.1
      go (cannot n) b = tt

pub variable-gives : (f : Option ℕ) (own : List Cell) (next : Cell → Effect) → Each ByteCell own
    → ((c : Cell) → ByteCell c → GivesBytes (next c)) → GivesBytes (with_variable f own next)
unfolding GivesBytes Each
variable-gives None own next h g = tt
variable-gives (Some i) own next h g = g _ (each_at ByteCell own i _ h (record { kind = omega arith; bytes = tt }))

-- ---- operators
type-byte : (a : Number) → IsByte (type_of a)
type-byte (Char x) = omega arith
type-byte (Int x) = omega arith
type-byte (Float x) = omega arith

outcome-gives : (o : Outcome) (rest : List ℕ) (next : List ℕ → Effect) → Answers o → Bytes rest
    → ((s : List ℕ) → Bytes s → GivesBytes (next s)) → GivesBytes (with_outcome o λ a. next (push rest (type_of a) (value_bytes a)))
unfolding GivesBytes
outcome-gives (Ok a) rest next f h g = g _ (push-bytes rest (type_of a) (value_bytes a) h (type-byte a) (value-bytes a f))
outcome-gives (Err DivisionByZero) rest next f h g = tt
outcome-gives (Err OutOfRange) rest next f h g = tt

pub operates-gives : (o : Operator) (stack : List ℕ) (next : List ℕ → Effect) → Bytes stack
    → ((s : List ℕ) → Bytes s → GivesBytes (next s)) → GivesBytes (operates o stack next)
unfolding GivesBytes operates
operates-gives (OfOne o) stack next h g =
    number-gives (types_of (OfOne o) 0) stack h _ λ x rest f b.
    outcome-gives (unary o x) rest next (unary-answers o x f) b g
operates-gives (OfTwo o) stack next h g =
    number-gives (types_of (OfTwo o) 1) stack h _ λ y rest f b.
    number-gives (types_of (OfTwo o) 0) rest b _ λ x below e c.
    outcome-gives (binary o x y) below next (binary-answers o x y e f) c g
operates-gives (Scale Constrain) stack next h g =
    number-gives (types_of (Scale Constrain) 2) stack h _ λ b rest fb k.
    number-gives (types_of (Scale Constrain) 1) rest k _ λ a rest fa k.
    number-gives (types_of (Scale Constrain) 0) rest k _ λ x rest fx k.
    outcome-gives (Ok (constrained x a b)) rest next (constrained-fits x a b fx fa fb) k g
operates-gives (Scale Map) stack next h g =
    number-gives (types_of (Scale Map) 4) stack h _ λ e rest fe k.
    number-gives (types_of (Scale Map) 3) rest k _ λ d rest fd k.
    number-gives (types_of (Scale Map) 2) rest k _ λ c rest fc k.
    number-gives (types_of (Scale Map) 1) rest k _ λ b rest fb k.
    number-gives (types_of (Scale Map) 0) rest k _ λ a rest fa k.
    outcome-gives (mapped a b c d e) rest next (map-answers a b c d e) k g
operates-gives (Scale Power) stack next h g =
    number-gives (types_of (Scale Power) 1) stack h _ λ y rest fy k.
    number-gives (types_of (Scale Power) 0) rest k _ λ x rest fx k.
    outcome-gives (power x y) rest next (power-answers x y) k g
