-- POW: the exponent by its two tests; one factor more, modulo the width and rounded. Assumes nothing.
use Rattle.std.specs.Prelude.{None, Some}
use mathlib.Core.Path.{◌≡◌, refl, sym, ◌∙◌, ap}
use mathlib.Core.Bool.{Bool, true, false, cond}
use Prim.Native.Nat.{ℕ, suc, ◌+◌, ◌≤◌}
use native.Mathlib.Omega.{arith}
use borrow.Author.Tests.{leb-true, ltb-true}
use lib.Dec.{T}
use lib.IntN.{ℤ, pos, negsuc, nat_abs, pow, ◌*ℤ◌}
use lib.Ieee.{Float as Binary32, binary32, mul, of_bits, of_int}
use lib.Signed.{le_z, lt_z, non_neg}
use mir.Syntax.{Width, w8, w16, w64}
use mir.Val.{to_z, of_z, Fits, SFits}
use mir.Facts.{to_z-of_z}
use Rattle.integer.specs.Modular.{wrapped}
use Rattle.integer.proofs.Modular.{reads-wrapped}
use Rattle.integer.proofs.Reduction.{wrapped-factor, wrapped-narrow}
use Rattle.integer.proofs.Representation.{true-not-false, widened}
use Rattle.scaling.specs.Power.{max_exponent, power_real, whole_exponent}

-- ---- the exponent
negative : (z : ℤ) → lt_z z (pos 0) ≡ true → None ≡ whole_exponent z
negative (pos n) h = absurd (below (ltb-true n 0 h))
  where
    below : suc n ≤ 0 → ⊥
    below k = omega arith
negative (negsuc n) h = refl

too_large : (z : ℤ) → lt_z z (pos 0) ≡ false → le_z z (pos max_exponent) ≡ false → None ≡ whole_exponent z
too_large (pos n) h k = ap (λ (b : Bool). cond b (Some n) None) (sym k)
too_large (negsuc n) h k = true-not-false refl h

taken : (z : ℤ) → lt_z z (pos 0) ≡ false → le_z z (pos max_exponent) ≡ true → Some (nat_abs z) ≡ whole_exponent z
taken (pos n) h k = ap (λ (b : Bool). cond b (Some n) None) (sym k)
taken (negsuc n) h k = true-not-false refl h

small : (z : ℤ) → lt_z z (pos 0) ≡ false → le_z z (pos max_exponent) ≡ true → T (non_neg z) × Fits w8 (nat_abs z)
small (pos n) h k = (tt, record { fits = omega (arith, leb-true n max_exponent k) })
small (negsuc n) h k = true-not-false refl h

-- the same of z as the machine reads it
module _ (z : ℤ) (f : SFits w16 z) where
  abbrev reading : ℤ
  reading = to_z w16 (of_z w16 z)

  pub exponent-negative : lt_z reading (pos 0) ≡ true → None ≡ whole_exponent z
  exponent-negative h = negative reading h ∙ ap whole_exponent (to_z-of_z f)

  module _ (h : lt_z reading (pos 0) ≡ false) where
    pub exponent-too-large : le_z reading (pos max_exponent) ≡ false → None ≡ whole_exponent z
    exponent-too-large k = too_large reading h k ∙ ap whole_exponent (to_z-of_z f)

    module _ (k : le_z reading (pos max_exponent) ≡ true) where
      pub exponent-taken : Some (nat_abs reading) ≡ whole_exponent z
      exponent-taken = taken reading h k ∙ ap whole_exponent (to_z-of_z f)

      pub exponent-casts : T (non_neg reading) × Fits w8 (nat_abs reading)
      exponent-casts = small reading h k

-- ---- one factor more
next : (i : ℕ) → i + 1 ≡ suc i
next i = omega arith

pub wrapped-next : (w : Width) (x : ℤ) (i : ℕ) {p r : ℤ} → p ≡ wrapped w (pow x i) → r ≡ wrapped w (p *ℤ x) → r ≡ wrapped w (pow x (i + 1))
unfolding pow
wrapped-next w x i e given =
    given ∙ ap (λ (y : ℤ). wrapped w (y *ℤ x)) e ∙ wrapped-factor w (pow x i) x ∙ ap (λ (n : ℕ). wrapped w (pow x n)) (sym (next i))

pub real-next : (x : Binary32) (i : ℕ) {p : Binary32} → p ≡ power_real x i → mul binary32 p x ≡ power_real x (i + 1)
unfolding power_real
real-next x i e = ap (λ (y : Binary32). mul binary32 y x) e ∙ ap (power_real x) (sym (next i))

-- the literal that the code starts at
pub one : (x : Binary32) → of_bits binary32 1065353216 ≡ power_real x 0
unfolding power_real of_bits of_int
one x = refl

-- ---- at each type: the power modulo 65,536 read as an INT, and reduced to a CHAR
pub int-raised : (x : ℤ) → SFits w16 x → (n : ℕ) {p : ℤ} → p ≡ wrapped w16 (pow (to_z w16 (of_z w16 x)) n)
    → to_z w16 (of_z w16 p) ≡ wrapped w16 (pow x n)
int-raised x f n e = reads-wrapped w16 (pow x n) (e ∙ ap (λ (y : ℤ). wrapped w16 (pow y n)) (to_z-of_z f))

pub char-raised : (x : ℤ) → SFits w8 x → (n : ℕ) (p : ℤ) → SFits w16 p
    → p ≡ wrapped w16 (pow (to_z w16 (of_z w16 (to_z w8 (of_z w8 x)))) n) → {r : ℤ}
    → r ≡ wrapped w8 (to_z w64 (of_z w64 (to_z w16 (of_z w16 p)))) → to_z w8 (of_z w8 r) ≡ wrapped w8 (pow x n)
char-raised x f n p g e given =
    reads-wrapped w8 (pow x n)
    (given
    ∙ ap (wrapped w8) (widened w16 w64 tt p g ∙ e ∙ ap (λ (y : ℤ). wrapped w16 (pow y n)) (widened w8 w16 tt x f))
    ∙ wrapped-narrow (pow x n))
