-- The tables of instructions: a number that is in no entry is looked up in vain; what takes no FLOAT. Assumes nothing.
use mathlib.Core.Path.{◌≡◌, refl, sym, ◌∙◌, ap}
use mathlib.Core.Bool.{Bool, true, cond, not}
use mathlib.Core.List.{List, [], ◌∷◌}
use Prim.Native.Nat.{ℕ}
use Rattle.std.specs.Prelude.{Option, Some}
use borrow.Author.Tests.{ne_eqb}
use lib.Ieee.{Float as Binary32}
use Rattle.buffer.specs.Lists.{all}
use Rattle.operator.specs.Instruction.{includes, lookup, types_of}
use Rattle.number.specs.Value.{type_of}
use Rattle.number.specs.declared.Number.TheVariants.{Float}
use Rattle.operator.specs.declared.operators.Arithmetic.TheVariants.{Modulus}
use Rattle.operator.specs.declared.operators.Binary.TheVariants.{Arithmetic as Calculates, Bitwise}
use Rattle.operator.specs.declared.operators.Connective.TheVariants.{And, Or, Xor}
use Rattle.operator.specs.declared.operators.Operator.{Operator}
use Rattle.operator.specs.declared.operators.Operator.TheVariants.{OfOne, OfTwo, Scale}
use Rattle.operator.specs.declared.operators.Scaling.TheVariants.{Power}
use Rattle.operator.specs.declared.operators.Unary.TheVariants.{BitwiseNot}

-- U, and that n is the number of no entry: what the last arm of a `match` knows, in the order of the arms
abbrev pub Absent : {A : Type 0} → ℕ → List (ℕ × A) → Type 0 → Type 0
Absent n [] U = U
Absent n (entry ∷ table) U = Absent n table (U × (n ≡ entry.0 → ⊥))

pub first : {A : Type 0} (n : ℕ) (table : List (ℕ × A)) (U : Type 0) → Absent n table U → U
first n [] U u = u
first n (entry ∷ table) U u = (first n table (U × (n ≡ entry.0 → ⊥)) u).0

pub absent : (n : ℕ) (table : List (ℕ × Operator)) (other : Option Operator) (U : Type 0) → Absent n table U → other ≡ lookup n table other
unfolding lookup
absent n [] other U u = refl
absent n (entry ∷ table) other U u =
    let W = U × (n ≡ entry.0 → ⊥) in
    absent n table other W u
    ∙ ap (λ (t : Bool). cond t (Some entry.1) (lookup n table other)) (sym (ne_eqb n entry.0 (first n table W u).1))

-- the operators that take whole numbers alone, with the places at which they do
abbrev whole_operands : List (Operator × ℕ)
whole_operands =
    (OfTwo (Calculates Modulus), 0) ∷ (OfTwo (Calculates Modulus), 1) ∷ (OfTwo (Bitwise And), 0) ∷ (OfTwo (Bitwise And), 1) ∷
    (OfTwo (Bitwise Or), 0) ∷ (OfTwo (Bitwise Or), 1) ∷ (OfTwo (Bitwise Xor), 0) ∷ (OfTwo (Bitwise Xor), 1) ∷
    (OfOne BitwiseNot, 0) ∷ (Scale Power, 1) ∷ []

-- Document 01: "Bitwise and MODULUS refuse FLOAT"; document 02, Q-3, of POW: "a FLOAT y is fault 6". The pop refuses it, so `real Modulus`,
-- `bitwise` of FLOATs and `exponent` of a FLOAT are never asked
pub float-refused : (x : Binary32) → all (λ o. not (includes (types_of o.0 o.1) (type_of (Float x)))) whole_operands ≡ true
unfolding all includes
float-refused x = refl
