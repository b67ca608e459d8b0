-- An exact result reduced to a width: the remainder toward zero, raised by the modulus, is not negative, and its residue is that of the
-- result. A result wrapped on the way, to a width no less, or as a factor, wraps alike in the end. Assumes nothing.
use Rattle.std.proofs.Common.{◌≡◌, ℕ, zero, suc, ◌+◌, ◌-◌, ◌*◌, ◌/◌, ◌%◌, ◌^◌, ◌<◌, ◌≤◌, T, ℤ, pos, negsuc, ◌+ℤ◌, ◌*ℤ◌, neg_ℤ, nat_abs, sym}
use Rattle.std.proofs.Common.{refl, ap, ◌∙◌, subst, mod-lt, mod-eq_of_lt, suc-mul, add-mul, arith, pow_pos, to_z-of_z, w8, w16, Fits, SFits}
use Rattle.std.proofs.Common.{to_z, of_z}
use mathlib.Core.Path.{subst⁻¹}
use native.Mathlib.Nat.{add-mod_right, add-mul-mod_self_right, mod-mod, suc-mod}
use lib.Arith.{mod-mul}
use lib.Signed.{mag_rem, non_neg, quot_z, rem_z}
use mir.Syntax.{Width}
use mir.Val.{bits, hbits}
use mir.ValLaws.{sfits_le}
use Rattle.integer.specs.Modular.{residue, wrapped}
use Rattle.integer.proofs.Division.{quotient_fits}
use Rattle.integer.proofs.Modular.{reads-wrapped, residue-mul, residue-wrapped, suc-complement}
use Rattle.integer.proofs.Representation.{natural_casts, natural-fits, natural-read, sub-ge}

abbrev raised : ℕ → ℤ → ℕ
raised m (pos n) = n % m + m
raised m (negsuc n) = m - suc n % m

module _ (m : ℕ) (h : 0 < m) where
  negative-raised : (k : ℕ) → k < m → neg_ℤ (pos k) +ℤ pos m ≡ pos (m - k)
  negative-raised zero p = ap pos (omega arith)
  negative-raised (suc k) p = sub-ge m (suc k) (omega arith)

  raised_is : (z : ℤ) → rem_z z (pos m) +ℤ pos m ≡ pos (raised m z)
  raised_is (pos n) = refl
  raised_is (negsuc n) = negative-raised (suc n % m) (mod-lt (suc n) h)

  raised_below : (z : ℤ) → raised m z < m + m
  raised_below (pos n) = omega (arith, mod-lt n h)
  raised_below (negsuc n) = omega arith

  raised-residue : (z : ℤ) → raised m z % m ≡ residue m z
  raised-residue (pos n) = add-mod_right (n % m) m ∙ mod-mod n m
  raised-residue (negsuc n) =
      ap (λ (k : ℕ). (m - k) % m) (suc-mod n m)
      ∙ ap (λ (k : ℕ). k % m) (omega (arith, mod-lt (suc (n % m)) h))
      ∙ suc-complement m h (n % m) (mod-lt n h)

-- the result is one of the width v
module _ (w v : Width) (room : 2 ^ bits w + 2 ^ bits w ≤ 2 ^ hbits v) (z : ℤ) (f : SFits v z) where
  abbrev modulus : ℕ
  modulus = 2 ^ bits w

  abbrev remainder : ℤ
  remainder = rem_z (to_z v (of_z v z)) (pos modulus)

  remainder_is : to_z v (of_z v remainder) ≡ rem_z z (pos modulus)
  remainder_is = ap (λ (y : ℤ). to_z v (of_z v (rem_z y (pos modulus)))) (to_z-of_z f) ∙ to_z-of_z (sfits_le (mag_rem z (pos modulus)) f)

  abbrev sum : ℤ
  sum = to_z v (of_z v remainder) +ℤ pos modulus

  sum_is : sum ≡ pos (raised modulus z)
  sum_is = ap (λ (y : ℤ). y +ℤ pos modulus) remainder_is ∙ raised_is modulus (pow_pos (bits w)) z

  sum_below : raised modulus z < 2 ^ hbits v
  sum_below = omega (arith, raised_below modulus (pow_pos (bits w)) z)

  pub reduce-divides : (0 < modulus) × SFits v (quot_z (to_z v (of_z v z)) (pos modulus))
  reduce-divides = (
    pow_pos (bits w),
    subst⁻¹ (λ (y : ℤ). SFits v (quot_z y (pos modulus))) (to_z-of_z f)
        (record { sfits = quotient_fits v z (pos modulus) f (λ e. subst (λ (y : ℤ). T (non_neg y)) e tt) }),
  )

  pub reduce-fits : SFits v sum
  reduce-fits = natural-fits v sum_is sum_below

  pub reduce-casts : T (non_neg (to_z v (of_z v sum))) × Fits v (nat_abs (to_z v (of_z v sum)))
  reduce-casts = natural_casts v sum_is sum_below

  pub reduce-reads : {r : ℤ} → r ≡ to_z w (nat_abs (to_z v (of_z v sum)) % modulus) → to_z w (of_z w r) ≡ wrapped w z
  unfolding wrapped
  reduce-reads e =
      reads-wrapped w z
      (e ∙ ap (λ (y : ℤ). to_z w (nat_abs y % modulus)) (natural-read v sum_is sum_below)
      ∙ ap (to_z w) (raised-residue modulus (pow_pos (bits w)) z))

-- ---- wrapped on the way
-- the residue by a multiple of m has the same residue by m
module _ (k m : ℕ) (hk : 0 < k) (hm : 0 < m) where
  complement : (q r : ℕ) → q < k → r < m → (k * m - suc (q * m + r)) % m ≡ m - suc r
  complement q r p h =
      let split : k * m ≡ (k - suc q) * m + suc q * m = sym (ap (λ (x : ℕ). x * m) (omega arith)) ∙ add-mul (k - suc q) (suc q) m in
      let next : suc q * m ≡ q * m + m = suc-mul q m in
      let whole : k * m - suc (q * m + r) ≡ m - suc r + (k - suc q) * m = omega arith in
      ap (λ (x : ℕ). x % m) whole ∙ add-mul-mod_self_right (m - suc r) (k - suc q) m ∙ mod-eq_of_lt (omega arith)

  residue-narrow : (z : ℤ) → residue (k * m) z % m ≡ residue m z
  residue-narrow (pos n) =
      ap (λ (x : ℕ). x % m) (mod-mul n hk hm ∙ omega arith) ∙ add-mul-mod_self_right (n % m) (n / m % k) m ∙ mod-mod n m
  residue-narrow (negsuc n) =
      ap (λ (x : ℕ). (k * m - suc x) % m) (mod-mul n hk hm) ∙ complement (n / m % k) (n % m) (mod-lt (n / m) hk) (mod-lt n hm)

same-residue : (w : Width) (y z : ℤ) → residue (2 ^ bits w) y ≡ residue (2 ^ bits w) z → wrapped w y ≡ wrapped w z
unfolding wrapped
same-residue w y z e = ap (to_z w) e

pub wrapped-narrow : (z : ℤ) → wrapped w8 (wrapped w16 z) ≡ wrapped w8 z
wrapped-narrow z =
    same-residue w8 (wrapped w16 z) z
    (sym (residue-narrow 256 256 (omega arith) (omega arith) (wrapped w16 z)) ∙ ap (λ (x : ℕ). x % 256) (residue-wrapped w16 z)
    ∙ residue-narrow 256 256 (omega arith) (omega arith) z)

pub wrapped-factor : (w : Width) (y z : ℤ) → wrapped w (wrapped w y *ℤ z) ≡ wrapped w (y *ℤ z)
wrapped-factor w y z =
    let m = 2 ^ bits w in
    let h = pow_pos (bits w) in
    same-residue w (wrapped w y *ℤ z) (y *ℤ z)
    (residue-mul m h (wrapped w y) z ∙ ap (λ (x : ℕ). x * residue m z % m) (residue-wrapped w y) ∙ sym (residue-mul m h y z))
