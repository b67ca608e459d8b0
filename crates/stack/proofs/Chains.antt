-- One number popped below another: an instruction that pops several goes on with the last of them, the numbers above it known, or meets
-- the fault of the first that cannot be popped. Assumes nothing.
use Prim.Native.Nat.{ℕ, ◌≤◌}
use mathlib.Core.Path.{◌≡◌, refl, sym, ap, ◌∙◌}
use mathlib.Core.List.{List}
use lib.ListN.{length, take}
use lib.Seq.{length-take-le, take-take}
use native.Mathlib.Omega.{arith}
use Rattle.number.specs.declared.Number.{Number}
use Rattle.operator.specs.declared.instruction.Types.{Types}
use Rattle.machine.specs.Effect.{Effect, with_number}
use Rattle.machine.specs.Stack.{Popped, popped, cannot, pop}
use Rattle.stack.specs.Tops.{Numbered, bytes_below, next_numbered, number_above, number_in, number_on, numbered, with_numbered}
use Rattle.std.specs.Prelude.{Result, Ok, Err}
use Rattle.machine.specs.declared.fault.Fault.{Fault}
use Rattle.stack.specs.declared.TopNumber.{TopNumber}

goes_on : (p : Popped) (next : Number → List ℕ → Effect) → with_number p next ≡ with_numbered (numbered p) next
goes_on (popped item rest) next = refl
goes_on (cannot fault) next = refl

module _ (stack : List ℕ) (types : Types) where
  -- the number on top
  pub popped-first : (r : Result TopNumber Fault) → number_on stack r ≡ numbered (pop types stack) → (next : Number → List ℕ → Effect)
      → with_number (pop types stack) next ≡ with_numbered (number_on stack r) next
  popped-first r e next = goes_on (pop types stack) next ∙ ap (λ (n : Numbered). with_numbered n next) (sym e)

  -- one below it
  pub popped-next : (t r : Result TopNumber Fault) → number_on stack r ≡ next_numbered types (number_on stack t)
      → (next : Number → Number → List ℕ → Effect)
      → with_numbered (number_on stack t) (λ a rest. with_number (pop types rest) (next a))
      ≡ with_numbered (number_on stack r) (next (number_in t))
  popped-next (Ok t) r e next =
      goes_on (pop types (take t.below stack)) (next t.number) ∙ ap (λ (n : Numbered). with_numbered n (next t.number)) (sym e)
  popped-next (Err fault) r e next = ap (λ (n : Numbered). with_numbered n (next (number_in (Err fault)))) (sym e)

  -- a number that is there
  pub number-goes : {a : Number} {rest : List ℕ} → number_above a rest ≡ numbered (pop types stack)
      → (next : Number → List ℕ → Effect) → with_number (pop types stack) next ≡ next a rest
  number-goes e next = goes_on (pop types stack) next ∙ ap (λ (n : Numbered). with_numbered n next) (sym e)

-- what is done with the last number may go by what was popped
pub by_number : (stack : List ℕ) (t : Result TopNumber Fault) (next : Number → List ℕ → Effect)
    → with_numbered (number_on stack t) next ≡ with_numbered (number_on stack t) (λ a rest. next (number_in t) rest)
by_number stack (Ok t) next = refl
by_number stack (Err fault) next = refl

-- a number found below the first n bytes lies so on the whole stack
module _ (stack : List ℕ) (n : ℕ) (h : n ≤ length stack) where
  pub lent : length (take n stack) ≡ n
  lent = length-take-le n stack h

  pub found_below : (r : Result TopNumber Fault) → bytes_below r ≤ length (take n stack) → number_on (take n stack) r ≡ number_on stack r
  found_below (Ok t) k = ap (number_above t.number) (take-take t.below n stack (omega (arith, lent)))
  found_below (Err fault) k = refl
