-- The root of each kind of value. Assumes nothing.
use Rattle.std.proofs.Common.{◌≡◌, ℕ, zero, suc, ◌*◌, ◌/◌, ◌^◌, ◌<◌, Bool, true, false, ℤ, sym, refl, ap, ◌∙◌, true≢false, mul-pos}
use Rattle.std.proofs.Common.{zero-mul, mul-div_cancel, arith, pow_pos}
use lib.Ieee.{Float, nan, inf, fin, down, up}
use lib.Ieee.Exact.{HasValue}
use lib.Ieee.Fits.{down_pos, up_pos}
use Rattle.float.specs.Decode.{IsFinite}
use Rattle.float.specs.Sqrt.{root_of_units, sqrt_of}

module _ (x : Float) where
  pub root-nan : x ≡ nan → x ≡ sqrt_of x
  unfolding sqrt_of
  root-nan e = e ∙ ap sqrt_of (sym e)

  pub root-infinite : (s : Bool) → x ≡ inf s → s ≡ false → x ≡ sqrt_of x
  unfolding sqrt_of
  root-infinite s e f = e ∙ ap inf f ∙ ap (λ (b : Bool). sqrt_of (inf b)) (sym f) ∙ ap sqrt_of (sym e)

  pub root-minus-infinite : (s : Bool) → x ≡ inf s → s ≡ true → nan ≡ sqrt_of x
  unfolding sqrt_of
  root-minus-infinite s e f = ap (λ (b : Bool). sqrt_of (inf b)) (sym f) ∙ ap sqrt_of (sym e)

-- ---- a finite value that is a / 2 ^ 149: it is zero where a is
none : (n : ℕ) → 0 < n → n ≡ 0 → ⊥
none n h e = omega arith

module _ (s : Bool) (a : ℕ) where
  root-zero : (x : Float) → HasValue x s a (2 ^ 149) → a ≡ 0 → x ≡ sqrt_of x
  unfolding sqrt_of
  root-zero nan v z = absurd v
  root-zero (inf t) v z = absurd v
  root-zero (fin t zero e) v z = refl
  root-zero (fin t (suc m) e) v z =
      absurd (none (suc m * up e * 2 ^ 149) (mul-pos (mul-pos {m = suc m} (omega arith) (up_pos e)) (pow_pos 149)) (v.1
      ∙ ap (λ (n : ℕ). n * down e) z ∙ zero-mul (down e)))

  module _ (some : 0 < a) where
    above : (t : Bool) (e : ℤ) → HasValue (fin t zero e) s a (2 ^ 149) → ⊥
    above t e v = none (a * down e) (mul-pos some (down_pos e)) (sym v.1 ∙ ap (λ (n : ℕ). n * 2 ^ 149) (zero-mul (up e))
        ∙ zero-mul (2 ^ 149))

    root-negative : (x : Float) → HasValue x s a (2 ^ 149) → s ≡ true → nan ≡ sqrt_of x
    unfolding sqrt_of
    root-negative nan v f = absurd v
    root-negative (inf t) v f = absurd v
    root-negative (fin t zero e) v f = absurd (above t e v)
    root-negative (fin t (suc m) e) v f = ap (λ (b : Bool). sqrt_of (fin b (suc m) e)) (sym (v.0 ∙ f))

    pub root-positive : (x : Float) → HasValue x s a (2 ^ 149) → s ≡ false → root_of_units a ≡ sqrt_of x
    unfolding sqrt_of
    root-positive nan v f = absurd v
    root-positive (inf t) v f = absurd v
    root-positive (fin t zero e) v f = absurd (above t e v)
    root-positive (fin true (suc m) e) v f = absurd (true≢false (v.0 ∙ f))
    root-positive (fin false (suc m) e) v f = sym (ap root_of_units (ap (λ (n : ℕ). n / down e) v.1 ∙ mul-div_cancel a (down_pos e)))

-- ---- the finite cases, by what `decode` answers
module _ {x : Float} {s : Bool} {t k : ℕ} (d : IsFinite x s t k) where
  pub finite-zero : t ≡ 0 → x ≡ sqrt_of x
  finite-zero z = root-zero s (t * 2 ^ k) x d.value (ap (λ (n : ℕ). n * 2 ^ k) z ∙ zero-mul (2 ^ k))

  module _ (some : t ≡ 0 → ⊥) where
    above_zero : 0 < t * 2 ^ k
    above_zero = mul-pos {m = t} (omega arith) (pow_pos k)

    pub finite-negative : s ≡ true → nan ≡ sqrt_of x
    finite-negative e = root-negative s (t * 2 ^ k) above_zero x d.value e

    pub finite-positive : s ≡ false → root_of_units (t * 2 ^ k) ≡ sqrt_of x
    finite-positive e = root-positive s (t * 2 ^ k) above_zero x d.value e
