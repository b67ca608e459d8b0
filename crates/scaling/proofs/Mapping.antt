-- MAP on whole numbers: no step of the code leaves 64 bits, so what it reads is exact. A signed value stands in a function's needs as
-- `to_z v (of_z v z)`, the reading of its bits. Assumes nothing.
use mathlib.Core.Path.{◌≡◌, sym, ◌∙◌, ap, ap₂, subst⁻¹}
use Prim.Native.Nat.{◌<◌, ◌^◌}
use lib.IntN.{ℤ, pos, nat_abs, ◌+ℤ◌, ◌-ℤ◌, ◌*ℤ◌}
use lib.Signed.{mag, quot_z}
use mir.Syntax.{Width, w16, w64}
use mir.Val.{to_z, of_z, SFits, hbits}
use mir.Facts.{to_z-of_z}
use Rattle.integer.specs.Modular.{wrapped}
use Rattle.integer.proofs.Division.{positive-bits}
use Rattle.integer.proofs.Modular.{reads-wrapped}
use Rattle.integer.proofs.Representation.{widened}
use Rattle.number.specs.declared.Number.{Number}
use Rattle.number.proofs.Operands.{zero_bits}
use Rattle.operator.specs.Arithmetic.{divisible}
use Rattle.operator.specs.Outcome.{Outcome}
use Rattle.std.specs.Prelude.{Ok, Err}
use Rattle.operator.specs.declared.ArithmeticError.TheVariants.{DivisionByZero}
use Rattle.operator.proofs.Calculating.{divides-by}
use Rattle.scaling.specs.Map.{map_exact, map_whole}
use Rattle.scaling.proofs.Sizes.{difference_below, difference-fits, product-fits, quotient_fits, sum_fits}

-- what the call that gives z knows of it
held : (w : Width) (z : ℤ) → mag z < 2 ^ hbits w → SFits w z
held w z h = record { sfits = h }

-- the difference of two INTs
module _ (a b : ℤ) (ha : mag a < 2 ^ hbits w16) (hb : mag b < 2 ^ hbits w16) where
  f : SFits w16 a
  f = held w16 a ha

  g : SFits w16 b
  g = held w16 b hb

  abbrev gap : ℤ
  gap = to_z w64 (of_z w64 (to_z w16 (of_z w16 a))) -ℤ to_z w64 (of_z w64 (to_z w16 (of_z w16 b)))

  gap_is : gap ≡ a -ℤ b
  gap_is = ap₂ (λ (x y : ℤ). x -ℤ y) (widened w16 w64 tt a f) (widened w16 w64 tt b g)

  pub gap-fits : SFits w64 gap
  gap-fits = subst⁻¹ (SFits w64) gap_is (difference-fits a b f g)

  pub gap-reads : to_z w64 (of_z w64 gap) ≡ a -ℤ b
  gap-reads = to_z-of_z gap-fits ∙ gap_is

  pub gap_below : nat_abs (to_z w64 (of_z w64 gap)) < 2 ^ 17
  gap_below = subst⁻¹ (λ (z : ℤ). nat_abs z < 2 ^ 17) gap-reads (difference_below a b f g)

-- x and y are the differences multiplied, z the one that divides, d is added
module _ (x y : ℤ) (mx : mag x < 2 ^ hbits w64) (my : mag y < 2 ^ hbits w64) (hx : nat_abs x < 2 ^ 17) (hy : nat_abs y < 2 ^ 17) where
  abbrev product : ℤ
  product = to_z w64 (of_z w64 x) *ℤ to_z w64 (of_z w64 y)

  product_is : product ≡ x *ℤ y
  product_is = ap₂ (λ (p q : ℤ). p *ℤ q) (to_z-of_z (held w64 x mx)) (to_z-of_z (held w64 y my))

  pub multiplies : SFits w64 product
  multiplies = subst⁻¹ (SFits w64) product_is (product-fits x y hx hy)

  module _ (z : ℤ) (mz : mag z < 2 ^ hbits w64) where
    fz : SFits w64 z
    fz = held w64 z mz

    abbrev quotient : ℤ
    quotient = quot_z (to_z w64 (of_z w64 product)) (to_z w64 (of_z w64 z))

    quotient_is : quotient ≡ quot_z (x *ℤ y) z
    quotient_is = ap₂ quot_z (to_z-of_z multiplies ∙ product_is) (to_z-of_z fz)

    fits : SFits w64 quotient
    fits = subst⁻¹ (SFits w64) quotient_is (quotient_fits x y hx hy z)

    pub divides : (z ≡ pos 0 → ⊥) → (0 < of_z w64 z) × SFits w64 quotient
    divides h = (positive-bits w64 z fz h, fits)

    module _ (d : ℤ) (md : mag d < 2 ^ hbits w16) where
      fd : SFits w16 d
      fd = held w16 d md

      abbrev sum : ℤ
      sum = to_z w64 (of_z w64 quotient) +ℤ to_z w64 (of_z w64 (to_z w16 (of_z w16 d)))

      sum_is : sum ≡ quot_z (x *ℤ y) z +ℤ d
      sum_is = ap₂ (λ (p q : ℤ). p +ℤ q) (to_z-of_z fits ∙ quotient_is) (widened w16 w64 tt d fd)

      pub adds : SFits w64 sum
      adds = subst⁻¹ (SFits w64) sum_is (sum_fits x y hx hy z d fd)

      pub reads-exact : to_z w64 (of_z w64 sum) ≡ quot_z (x *ℤ y) z +ℤ d
      reads-exact = to_z-of_z adds ∙ sum_is

-- the exact result at either width, k the type; z is the divisor
module _ (w : Width) (k : ℤ → Number) (a b c d e : ℤ) (z : ℤ) (mz : mag z < 2 ^ hbits w64) (is : z ≡ c -ℤ b) where
  abbrev answer : Outcome
  answer = Ok (k (wrapped w (map_exact a b c d e)))

  pub no-divisor : of_z w64 z ≡ 0 → Err DivisionByZero ≡ map_whole w k a b c d e
  no-divisor h = ap (λ (y : ℤ). divisible y answer) (sym (zero_bits w64 z (held w64 z mz) h) ∙ is)

  module _ (h : of_z w64 z ≡ 0 → ⊥) where
    pub divisor : c -ℤ b ≡ pos 0 → ⊥
    divisor zero = h (ap (of_z w64) (is ∙ zero))

    pub reduced : (m : ℤ) {r : ℤ} → mag m < 2 ^ hbits w64 → m ≡ map_exact a b c d e → r ≡ wrapped w (to_z w64 (of_z w64 m))
        → Ok (k (to_z w (of_z w r))) ≡ map_whole w k a b c d e
    reduced m g exact given =
        ap (λ (y : ℤ). Ok (k y)) (reads-wrapped w (map_exact a b c d e) (given ∙ ap (wrapped w) (to_z-of_z (held w64 m g) ∙ exact)))
        ∙ divides-by (c -ℤ b) divisor answer
