-- `residue m` carries sums, differences and products of whole numbers to those of the residues, for every m above 0; so the
-- wrapping operations on the bits give the exact result, wrapped, at every width. Assumes nothing.
use Rattle.std.proofs.Common.{◌≡◌, ℕ, zero, suc, ◌+◌, ◌-◌, ◌*◌, ◌/◌, ◌%◌, ◌^◌, ◌<◌, ℤ, pos, negsuc, ◌+ℤ◌, ◌-ℤ◌, ◌*ℤ◌, sym, ap, ap₂, ◌∙◌}
use Rattle.std.proofs.Common.{⊎_elim, nat_abs}
use Rattle.std.proofs.Common.{lt_of_le_of_lt, le_of_lt, mod-lt, mod-eq_of_lt, suc-mul, add-mul, eq-or-lt_of_le, mul-le-mul_left}
use Rattle.std.proofs.Common.{mul-lt-mul_of_pos_right, mul_right_comm, arith, pow_pos, pow-add, to_z-of_z, Fits, SFits, to_z, of_z}
use mathlib.Core.Path.{subst⁻¹}
use native.Mathlib.Nat.{mod_self, suc-mod, mod-add-mod, add-mod-mod, add-mod_right, mod-add-div'}
use native.Mathlib.Nat.{add-mul-mod_self_right, zero-mod}
use lib.IntN.{suc_ℤ, pred_ℤ, suc-pred, +ℤ-suc_ℤ, +ℤ_idr, zero-*ℤ, suc_ℤ-*ℤ, pred_ℤ-*ℤ, -ℤ-+ℤ_cancel}
use mir.Syntax.{Width}
use mir.Val.{bits, hbits}
use mir.Facts.{of_z-to_z, sfits_to_z}
use mir.ValLaws.{half_full, pow-bits}
use Rattle.integer.specs.Modular.{residue, wrapped}

-- induction by successor and predecessor, the form of the laws of `lib.IntN`
by-steps : (P : ℤ → Type 0) → P (pos 0) → ((z : ℤ) → P z → P (suc_ℤ z)) → ((z : ℤ) → P z → P (pred_ℤ z)) → (z : ℤ) → P z
by-steps P o s p (pos zero) = o
by-steps P o s p (pos (suc n)) = s (pos n) (by-steps P o s p (pos n))
by-steps P o s p (negsuc zero) = p (pos 0) o
by-steps P o s p (negsuc (suc n)) = p (negsuc n) (by-steps P o s p (negsuc n))

module _ (m : ℕ) (h : 0 < m) where
  pub residue-lt : (z : ℤ) → residue m z < m
  residue-lt (pos n) = mod-lt n h
  residue-lt (negsuc n) = omega arith

  residue-zero : residue m (pos 0) ≡ 0
  residue-zero = zero-mod m

  pub suc-complement : (a : ℕ) → a < m → suc (m - suc (suc a % m)) % m ≡ m - suc a
  suc-complement a k =
      ⊎_elim
      (λ (e : suc a ≡ m). ap (λ (x : ℕ). suc (m - suc x) % m) (ap (λ (y : ℕ). y % m) e ∙ mod_self m) ∙ ap (λ (y : ℕ). y % m) (omega arith)
      ∙ mod_self m ∙ omega arith)
      (λ (l : suc a < m). ap (λ (x : ℕ). suc (m - suc x) % m) (mod-eq_of_lt l) ∙ mod-eq_of_lt (omega arith) ∙ omega arith)
      (eq-or-lt_of_le k)

  residue-suc : (z : ℤ) → residue m (suc_ℤ z) ≡ suc (residue m z) % m
  residue-suc (pos n) = suc-mod n m
  residue-suc (negsuc zero) = zero-mod m ∙ sym (ap (λ (y : ℕ). y % m) (omega (arith, zero-mod m)) ∙ mod_self m)
  residue-suc (negsuc (suc n)) = sym (ap (λ (x : ℕ). suc (m - suc x) % m) (suc-mod n m) ∙ suc-complement (n % m) (mod-lt n h))

  suc-injective : (x y : ℕ) → x < m → y < m → suc x % m ≡ suc y % m → x ≡ y
  suc-injective x y p q e = back x p ∙ ap (λ (u : ℕ). (u + (m - 1)) % m) e ∙ sym (back y q)
    where
      back : (x : ℕ) → x < m → x ≡ (suc x % m + (m - 1)) % m
      back x p = sym (mod-add-mod (suc x) m (m - 1) ∙ ap (λ (u : ℕ). u % m) (omega arith) ∙ add-mod_right x m ∙ mod-eq_of_lt p)

  add-suc : (a b : ℤ) → residue m (a +ℤ b) ≡ (residue m a + residue m b) % m
      → residue m (a +ℤ suc_ℤ b) ≡ (residue m a + residue m (suc_ℤ b)) % m
  add-suc a b e =
      ap (residue m) (+ℤ-suc_ℤ a b) ∙ residue-suc (a +ℤ b) ∙ ap (λ (u : ℕ). suc u % m) e
      ∙ sym (suc-mod (residue m a + residue m b) m) ∙ ap (λ (u : ℕ). u % m) (omega arith)
      ∙ sym (add-mod-mod (residue m a) (suc (residue m b)) m) ∙ ap (λ (u : ℕ). (residue m a + u) % m) (sym (residue-suc b))

  add-pred : (a b : ℤ) → residue m (a +ℤ b) ≡ (residue m a + residue m b) % m
      → residue m (a +ℤ pred_ℤ b) ≡ (residue m a + residue m (pred_ℤ b)) % m
  add-pred a b e =
      suc-injective _ _ (residue-lt (a +ℤ pred_ℤ b)) (mod-lt _ h)
      (sym (residue-suc (a +ℤ pred_ℤ b)) ∙ ap (residue m) (sym (+ℤ-suc_ℤ a (pred_ℤ b)) ∙ ap (λ (y : ℤ). a +ℤ y) (suc-pred b)) ∙ e
      ∙ ap (λ (u : ℕ). (residue m a + u) % m) (ap (residue m) (sym (suc-pred b)) ∙ residue-suc (pred_ℤ b))
      ∙ add-mod-mod (residue m a) (suc (residue m (pred_ℤ b))) m ∙ ap (λ (u : ℕ). u % m) (omega arith)
      ∙ suc-mod (residue m a + residue m (pred_ℤ b)) m)

  pub residue-add : (a b : ℤ) → residue m (a +ℤ b) ≡ (residue m a + residue m b) % m
  residue-add a b =
      by-steps (λ (z : ℤ). residue m (a +ℤ z) ≡ (residue m a + residue m z) % m)
      (ap (residue m) (+ℤ_idr a)
      ∙ sym (ap (λ (u : ℕ). (residue m a + u) % m) residue-zero ∙ ap (λ (u : ℕ). u % m) (omega arith) ∙ mod-eq_of_lt (residue-lt a)))
      (λ z e. add-suc a z e) (λ z e. add-pred a z e) b

  back : (x : ℕ) → x < m → (b : ℤ) → x ≡ ((x + residue m b) % m + (m - residue m b)) % m
  back x p b = sym (mod-add-mod (x + residue m b) m (m - residue m b) ∙ ap (λ (u : ℕ). u % m) (omega (arith, residue-lt b))
      ∙ add-mod_right x m ∙ mod-eq_of_lt p)

  residue-difference : (a b : ℤ) → residue m (a -ℤ b) ≡ (residue m a + (m - residue m b)) % m
  residue-difference a b =
      back (residue m (a -ℤ b)) (residue-lt (a -ℤ b)) b
      ∙ ap (λ (u : ℕ). (u + (m - residue m b)) % m) (sym (residue-add (a -ℤ b) b) ∙ ap (residue m) (-ℤ-+ℤ_cancel a b))

  -- the one residue that b's, added to it, makes a's
  pub residue-sub : (a b : ℤ) (r : ℕ) → r < m → (r + residue m b) % m ≡ residue m a → r ≡ residue m (a -ℤ b)
  residue-sub a b r k e = back r k b ∙ ap (λ (u : ℕ). (u + (m - residue m b)) % m) e ∙ sym (residue-difference a b)

  mod-mul : (x y : ℕ) → x % m * y % m ≡ x * y % m
  mod-mul x y = sym (add-mul-mod_self_right (x % m * y) (x / m * y) m)
      ∙ ap (λ (u : ℕ). u % m) (regroup (x % m) (x / m) y ∙ ap (λ (u : ℕ). u * y) (mod-add-div' x m))
    where
      regroup : (p q y : ℕ) → p * y + q * y * m ≡ (p + q * m) * y
      regroup p q y = sym (add-mul p (q * m) y ∙ ap (λ (u : ℕ). p * y + u) (mul_right_comm q m y))

  -- the residue of one factor more, from that of one more in the residue
  one-more : (a b : ℤ) → (residue m a * residue m b % m + residue m b) % m ≡ residue m (suc_ℤ a) * residue m b % m
  one-more a b =
      mod-add-mod (residue m a * residue m b) m (residue m b) ∙ ap (λ (u : ℕ). u % m) (sym (suc-mul (residue m a) (residue m b)))
      ∙ sym (mod-mul (suc (residue m a)) (residue m b)) ∙ ap (λ (u : ℕ). u * residue m b % m) (sym (residue-suc a))

  mul-suc : (a b : ℤ) → residue m (a *ℤ b) ≡ residue m a * residue m b % m
      → residue m (suc_ℤ a *ℤ b) ≡ residue m (suc_ℤ a) * residue m b % m
  mul-suc a b e = ap (residue m) (suc_ℤ-*ℤ a b) ∙ residue-add (a *ℤ b) b ∙ ap (λ (u : ℕ). (u + residue m b) % m) e ∙ one-more a b

  mul_pred : (a b : ℤ) → residue m (a *ℤ b) ≡ residue m a * residue m b % m
      → residue m (pred_ℤ a *ℤ b) ≡ residue m (pred_ℤ a) * residue m b % m
  mul_pred a b e =
      ap (residue m) (pred_ℤ-*ℤ a b)
      ∙ sym (residue-sub (a *ℤ b) b (residue m (pred_ℤ a) * residue m b % m) (mod-lt _ h)
      (one-more (pred_ℤ a) b ∙ ap (λ (z : ℤ). residue m z * residue m b % m) (suc-pred a) ∙ sym e))

  pub residue-mul : (a b : ℤ) → residue m (a *ℤ b) ≡ residue m a * residue m b % m
  residue-mul a b =
      by-steps (λ (z : ℤ). residue m (z *ℤ b) ≡ residue m z * residue m b % m)
      (ap (residue m) (zero-*ℤ b) ∙ residue-zero
      ∙ sym (ap (λ (u : ℕ). u * residue m b % m) residue-zero ∙ ap (λ (u : ℕ). u % m) (omega arith) ∙ zero-mod m))
      (λ z e. mul-suc z b e) (λ z e. mul_pred z b e) a

-- two numbers of k bits have a product of at most k + k
pub product-below : (k : ℕ) {a b : ℕ} → a < 2 ^ k → b < 2 ^ k → a * b < 2 ^ (k + k)
product-below k {a} {b} ha hb =
    subst⁻¹ (λ (n : ℕ). a * b < n) (pow-add 2 k k)
    (lt_of_le_of_lt (mul-le-mul_left a (le_of_lt hb)) (mul-lt-mul_of_pos_right ha (pow_pos k)))

module _ (w : Width) where
  -- the bits of a number are its residue, where its size is below 2 ^ bits w, and so where it fits
  sized-bits : (z : ℤ) → nat_abs z < 2 ^ bits w → residue (2 ^ bits w) z ≡ of_z w z
  sized-bits (pos n) h = mod-eq_of_lt h
  sized-bits (negsuc n) h = ap (λ (u : ℕ). 2 ^ bits w - suc u) (mod-eq_of_lt (omega arith))

  pub size-of-fitting : (z : ℤ) → SFits w z → nat_abs z < 2 ^ bits w
  size-of-fitting (pos n) f = half_full w f.sfits
  size-of-fitting (negsuc n) f = omega (arith, f.sfits, pow-bits w, pow_pos (hbits w))

  pub residue-bits : (z : ℤ) → SFits w z → residue (2 ^ bits w) z ≡ of_z w z
  residue-bits z f = sized-bits z (size-of-fitting z f)

  pub residue-read : {n : ℕ} → Fits w n → residue (2 ^ bits w) (to_z w n) ≡ n
  residue-read f = residue-bits (to_z w _) (sfits_to_z f) ∙ of_z-to_z f

  pub residue-wrapped : (z : ℤ) → residue (2 ^ bits w) (wrapped w z) ≡ residue (2 ^ bits w) z
  unfolding wrapped
  residue-wrapped z = residue-read (record { fits = residue-lt (2 ^ bits w) (pow_pos (bits w)) z })

  pub wrapped-fits : (z : ℤ) → SFits w (wrapped w z)
  unfolding wrapped
  wrapped-fits z = sfits_to_z (record { fits = residue-lt (2 ^ bits w) (pow_pos (bits w)) z })

  pub wrapped_same : (z : ℤ) → SFits w z → wrapped w z ≡ z
  unfolding wrapped
  wrapped_same z f = ap (to_z w) (residue-bits z f) ∙ to_z-of_z f

  -- what a function that answers the wrapped z shows
  pub reads-wrapped : {r : ℤ} (z : ℤ) → r ≡ wrapped w z → to_z w (of_z w r) ≡ wrapped w z
  reads-wrapped z e = ap (λ (y : ℤ). to_z w (of_z w y)) e ∙ to_z-of_z (wrapped-fits z)

  -- a result that is kept by its bits alone
  pub reads-sized : (z : ℤ) → nat_abs z < 2 ^ bits w → to_z w (of_z w z) ≡ wrapped w z
  unfolding wrapped
  reads-sized z h = ap (to_z w) (sym (sized-bits z h))

-- the wrapping operations of the standard library, on the bits of a and b
module _ (w : Width) (a b : ℤ) (fa : SFits w a) (fb : SFits w b) where
  -- g on the bits is g on the residues
  on-bits : (g : ℕ → ℕ → ℕ) → g (of_z w a) (of_z w b) ≡ g (residue (2 ^ bits w) a) (residue (2 ^ bits w) b)
  on-bits g = ap₂ g (sym (residue-bits w a fa)) (sym (residue-bits w b fb))

  pub add_wraps : to_z w ((of_z w a + of_z w b) % 2 ^ bits w) ≡ wrapped w (a +ℤ b)
  unfolding wrapped
  add_wraps = ap (to_z w) (on-bits (λ (m n : ℕ). (m + n) % 2 ^ bits w) ∙ sym (residue-add (2 ^ bits w) (pow_pos (bits w)) a b))

  pub multiply-wraps : to_z w (of_z w a * of_z w b % 2 ^ bits w) ≡ wrapped w (a *ℤ b)
  unfolding wrapped
  multiply-wraps = ap (to_z w) (on-bits (λ (m n : ℕ). m * n % 2 ^ bits w) ∙ sym (residue-mul (2 ^ bits w) (pow_pos (bits w)) a b))

  pub subtract-wraps : to_z w ((of_z w a + (2 ^ bits w - of_z w b)) % 2 ^ bits w) ≡ wrapped w (a -ℤ b)
  unfolding wrapped
  subtract-wraps = ap (to_z w) (on-bits (λ (m n : ℕ). (m + (2 ^ bits w - n)) % 2 ^ bits w)
      ∙ sym (residue-difference (2 ^ bits w) (pow_pos (bits w)) a b))
