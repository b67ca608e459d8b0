-- CHAR's and INT's arithmetic: what a call gives of two operands is what the definition says, over the width w, k the type.
-- Assumes nothing.
use mathlib.Core.Path.{◌≡◌, refl, sym, ◌∙◌, ap}
use mathlib.Core.Bool.{Bool, true, false}
use Prim.Native.Nat.{zero, suc}
use lib.IntN.{ℤ, pos, negsuc, ◌+ℤ◌, ◌-ℤ◌, ◌*ℤ◌}
use lib.Signed.{quot_z, rem_z}
use mir.Syntax.{Width}
use mir.Val.{to_z, of_z, SFits}
use Rattle.integer.specs.Modular.{wrapped}
use Rattle.integer.proofs.Modular.{reads-wrapped}
use Rattle.integer.proofs.Division.{on-operands}
use Rattle.integer.proofs.Representation.{true-not-false}
use Rattle.number.specs.declared.Number.{Number}
use Rattle.number.proofs.Operands.{zero_bits}
use Rattle.operator.specs.Arithmetic.{divisible, whole}
use Rattle.operator.specs.Outcome.{Outcome}
use Rattle.std.specs.Prelude.{Ok, Err}
use Rattle.operator.specs.declared.ArithmeticError.TheVariants.{DivisionByZero}
use Rattle.operator.specs.declared.operators.Arithmetic.{Arithmetic}
use Rattle.operator.specs.declared.operators.Arithmetic.TheVariants.{Plus, Minus, Times, DividedBy, Modulus}

pub divides-by : (y : ℤ) → (y ≡ pos 0 → ⊥) → (o : Outcome) → o ≡ divisible y o
divides-by (pos zero) h o = absurd (h refl)
divides-by (pos (suc n)) h o = refl
divides-by (negsuc n) h o = refl

abbrev gives : (ℤ → Number) → ℤ → Outcome
gives k z = Ok (k z)

-- the exact result of each operator, and whether it divides
abbrev exact : Arithmetic → ℤ → ℤ → ℤ
exact Plus x y = x +ℤ y
exact Minus x y = x -ℤ y
exact Times x y = x *ℤ y
exact DividedBy x y = quot_z x y
exact Modulus x y = rem_z x y

abbrev divides : Arithmetic → Bool
divides Plus = false
divides Minus = false
divides Times = false
divides DividedBy = true
divides Modulus = true

-- an answer at either width, k the type: what the call for the operator p ensures, of the operands themselves
module _ (w : Width) (k : ℤ → Number) {x y : ℤ} (fx : SFits w x) (fy : SFits w y) where
  -- what a call gives, as the machine reads it
  abbrev Gives : Arithmetic → ℤ → Type 0
  Gives p r = r ≡ wrapped w (exact p (to_z w (of_z w x)) (to_z w (of_z w y)))

  given : (p : Arithmetic) {r : ℤ} → Gives p r → gives k (to_z w (of_z w r)) ≡ gives k (wrapped w (exact p x y))
  given p e = ap (gives k)
      (reads-wrapped w (exact p x y) (e ∙ on-operands w x fx y fy (λ (a b : ℤ). wrapped w (exact p a b))))

  module _ {o : Arithmetic} (p : Arithmetic) where
    pub calculated : {r : ℤ} → divides p ≡ false → o ≡ p → Gives p r → Ok (k (to_z w (of_z w r))) ≡ whole w k o x y
    unfolding whole
    calculated d q e = given p e ∙ go p d ∙ ap (λ (a : Arithmetic). whole w k a x y) (sym q)
      where
        go : (p : Arithmetic) → divides p ≡ false → Ok (k (wrapped w (exact p x y))) ≡ whole w k p x y
        go Plus d = refl
        go Minus d = refl
        go Times d = refl
        go DividedBy d = true-not-false refl d
        go Modulus d = true-not-false refl d

    pub divided : {r : ℤ} → (of_z w y ≡ 0 → ⊥) → o ≡ p → Gives p r → Ok (k (to_z w (of_z w r))) ≡ whole w k o x y
    unfolding whole
    divided h q e = given p e ∙ go p ∙ ap (λ (a : Arithmetic). whole w k a x y) (sym q)
      where
        go : (p : Arithmetic) → Ok (k (wrapped w (exact p x y))) ≡ whole w k p x y
        go Plus = refl
        go Minus = refl
        go Times = refl
        go DividedBy = divides-by y (λ z. h (ap (of_z w) z)) (Ok (k (wrapped w (quot_z x y))))
        go Modulus = divides-by y (λ z. h (ap (of_z w) z)) (Ok (k (wrapped w (rem_z x y))))

    pub divided-by-zero : divides p ≡ true → o ≡ p → of_z w y ≡ 0 → Err DivisionByZero ≡ whole w k o x y
    unfolding whole
    divided-by-zero d q e = go p d ∙ ap (λ (a : Arithmetic). whole w k a x y) (sym q)
      where
        zero-divides : (o : Outcome) → Err DivisionByZero ≡ divisible y o
        zero-divides o = ap (λ (z : ℤ). divisible z o) (sym (zero_bits w y fy e))

        go : (p : Arithmetic) → divides p ≡ true → Err DivisionByZero ≡ whole w k p x y
        go Plus d = true-not-false d refl
        go Minus d = true-not-false d refl
        go Times d = true-not-false d refl
        go DividedBy d = zero-divides (Ok (k (wrapped w (quot_z x y))))
        go Modulus d = zero-divides (Ok (k (wrapped w (rem_z x y))))
