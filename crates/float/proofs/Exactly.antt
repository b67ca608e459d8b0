-- A value that equals a whole number equals what the whole number does. Assumes nothing.
use Rattle.std.proofs.Common.{◌≡◌, ℕ, suc, ◌*◌, ◌<◌, Bool, true, false, ◌&&◌, ◌||◌, eqb, ℤ, pos, negsuc, refl, ap, ◌∙◌, mul_right_comm}
use Rattle.std.proofs.Common.{arith, to_z-of_z, w32, SFits, to_z, of_z}
use mathlib.Core.Bool.{beq}
use native.Mathlib.Nat.{eq_of_mul-eq-mul_right}
use lib.Ieee.{Float, nan, inf, fin, binary64, down, eq, level, of_int, round, up}
use lib.Ieee.Back.{round_whole}
use lib.Ieee.Exact.{HasValue}
use lib.Ieee.Fits.{down_pos}
use Rattle.float.specs.Compare.{equals}
use Rattle.float.proofs.Tests.{eqb_same, zero-product}

-- ---- both sides times a c above 0
eqb-times : (a b c : ℕ) → 0 < c → eqb (a * c) (b * c) ≡ eqb a b
eqb-times a b c h = eqb_same (a * c) (b * c) a b (eq_of_mul-eq-mul_right c h a b) (ap (λ (n : ℕ). n * c))

level-times : (s t : Bool) (a b c : ℕ) → 0 < c → level s (a * c) t (b * c) ≡ level s a t b
level-times s t a b c h =
    ap (λ (y : Bool). y && (beq s t || eqb (a * c) 0)) (eqb-times a b c h)
    ∙ ap (λ (y : Bool). eqb a b && (beq s t || y)) (zero-product a c h)

-- ---- y is ±n
module _ (s : Bool) (n : ℕ) where
  scaled : (m u d p : ℕ) → m * u * 1 ≡ n * d → m * u * p ≡ n * 1 * p * d
  scaled m u d p e = ap (λ (a : ℕ). a * p) (omega (arith, e)) ∙ mul_right_comm n d p ∙ ap (λ (a : ℕ). a * p * d) (omega arith)

  pub eq-whole : (y x : Float) → HasValue y s n 1 → eq x y ≡ eq x (fin s n (pos 0))
  unfolding eq
  eq-whole nan x v = absurd v
  eq-whole (inf t) x v = absurd v
  eq-whole (fin t m e) nan v = refl
  eq-whole (fin t m e) (inf u) v = refl
  eq-whole (fin t m e) (fin u k d) v =
      ap (λ (b : Bool). level u (k * up d * down e) b (m * up e * down d)) v.0
      ∙ ap (λ (a : ℕ). level u (k * up d * down e) s a) (scaled m (up e) (down e) (down d) v.1)
      ∙ level-times u s (k * up d) (n * 1 * down d) (down e) (down_pos e) ∙ ap (λ (a : ℕ). level u a s (n * 1 * down d)) (omega arith)

-- ---- an i32 as binary64, which holds it
unrounded : (z : ℤ) → SFits w32 z → (x : Float) → eq x (of_int binary64 z) ≡ equals x z
unfolding of_int
unrounded (pos n) f x =
    eq-whole false n (round binary64 false n 1) x (round_whole binary64 false n (omega (arith, f.sfits)))
unrounded (negsuc n) f x =
    eq-whole true (suc n) (round binary64 true (suc n) 1) x (round_whole binary64 true (suc n) (omega (arith, f.sfits)))

pub equals-met : (z : ℤ) → SFits w32 z → {x y : Float} → y ≡ x → eq y (of_int binary64 (to_z w32 (of_z w32 z))) ≡ equals x z
equals-met z f {x} {y} e =
    ap (λ (k : ℤ). eq y (of_int binary64 k)) (to_z-of_z f) ∙ ap (λ (a : Float). eq a (of_int binary64 z)) e ∙ unrounded z f x
