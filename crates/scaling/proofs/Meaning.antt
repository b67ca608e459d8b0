-- MAP takes its ends to their ends, and CONSTRAIN stays between its bounds. Assumes nothing.
use mathlib.Core.Path.{◌≡◌, refl, sym, ◌∙◌, ap, subst}
use mathlib.Core.Bool.{Bool, true, false, cond, not}
use Prim.Native.Nat.{ℕ, zero, suc, ◌*◌, ◌/◌}
use native.Mathlib.Omega.{arith}
use native.Mathlib.Nat.{mul-div_cancel_left, zero-div}
use lib.Dec.{T, ltb→lt}
use lib.IntN.{ℤ, pos, negsuc, neg_ℤ, ◌+ℤ◌, ◌-ℤ◌, ◌*ℤ◌, -ℤ-+ℤ_cancel, +ℤ_idl, +ℤ-neg_ℤ_cancel, zero-*ℤ}
use lib.Signed.{lt_z, lt_z_no, lt_z_yes, quot_z, ◌≤ℤ◌, ◌<ℤ◌, <ℤ-≤ℤ_trans, ≤ℤ_refl, clash_ℤ}
use Rattle.number.specs.Promotion.{promoted}
use Rattle.number.specs.declared.Number.TheVariants.{Int}
use Rattle.operator.specs.Binary.{extremum, ordered}
use Rattle.operator.specs.declared.operators.Extremum.TheVariants.{Min}
use Rattle.scaling.specs.Constrain.{constrained}
use Rattle.scaling.specs.Map.{exact, map_exact}

-- ---- MAP
negative_by_positive : (k b : ℕ) → quot_z (neg_ℤ (pos k)) (pos b) ≡ neg_ℤ (pos (k / b))
negative_by_positive zero b = ap pos (zero-div b) ∙ ap (λ (n : ℕ). neg_ℤ (pos n)) (sym (zero-div b))
negative_by_positive (suc k) b = refl

negative-by-negative : (k b : ℕ) → quot_z (neg_ℤ (pos k)) (negsuc b) ≡ pos (k / suc b)
negative-by-negative zero b = ap (λ (n : ℕ). neg_ℤ (pos n)) (zero-div (suc b)) ∙ ap pos (sym (zero-div (suc b)))
negative-by-negative (suc k) b = refl

cancels : (n m : ℕ) → suc n * m / suc n ≡ m
cancels n m = mul-div_cancel_left m (omega arith)

quotient-of-product : (x y : ℤ) → (x ≡ pos 0 → ⊥) → quot_z (x *ℤ y) x ≡ y
quotient-of-product (pos zero) y h = absurd (h refl)
quotient-of-product (pos (suc n)) (pos m) h = ap pos (cancels n m)
quotient-of-product (pos (suc n)) (negsuc m) h =
    negative_by_positive (suc n * suc m) (suc n) ∙ ap (λ (k : ℕ). neg_ℤ (pos k)) (cancels n (suc m))
quotient-of-product (negsuc n) (pos m) h = negative-by-negative (suc n * m) n ∙ ap pos (cancels n m)
quotient-of-product (negsuc n) (negsuc m) h = ap (λ (k : ℕ). neg_ℤ (pos k)) (cancels n (suc m))

quotient-of-zero : (z : ℤ) → quot_z (pos 0) z ≡ pos 0
quotient-of-zero (pos b) = ap pos (zero-div b)
quotient-of-zero (negsuc b) = ap (λ (n : ℕ). neg_ℤ (pos n)) (zero-div (suc b))

no_difference : (b : ℤ) → b -ℤ b ≡ pos 0
no_difference b = ap (λ (z : ℤ). z -ℤ b) (sym (+ℤ_idl b)) ∙ +ℤ-neg_ℤ_cancel (pos 0) b

pub ends : (b c d e : ℤ) → (c -ℤ b ≡ pos 0 → ⊥) → (map_exact b b c d e ≡ d) × (map_exact c b c d e ≡ e)
unfolding map_exact
ends b c d e h = (
  ap (λ (z : ℤ). quot_z z (c -ℤ b) +ℤ d) (ap (λ (z : ℤ). z *ℤ (e -ℤ d)) (no_difference b) ∙ zero-*ℤ (e -ℤ d))
      ∙ ap (λ (q : ℤ). q +ℤ d) (quotient-of-zero (c -ℤ b)) ∙ +ℤ_idl d,
  ap (λ (q : ℤ). q +ℤ d) (quotient-of-product (c -ℤ b) (e -ℤ d) h) ∙ -ℤ-+ℤ_cancel e d,
)

-- ---- CONSTRAIN
abbrev Within : ℤ → ℤ → ℤ → ℤ → Type 0
Within x a b z = (a ≤ℤ z) × (z ≤ℤ b) × (a ≤ℤ x → x ≤ℤ b → z ≡ x) × (x <ℤ a → z ≡ a) × (b <ℤ x → z ≡ b)

less : (x y : ℤ) → lt_z x y ≡ true → x <ℤ y
less x y e = lt_z_yes (subst T (sym e) tt)

no_less : (x y : ℤ) → lt_z x y ≡ false → y ≤ℤ x
no_less x y e = lt_z_no (subst (λ (t : Bool). T (not t)) (sym e) tt)

apart : (x y : ℤ) → x <ℤ y → y <ℤ x → ⊥
apart (pos a) (pos b) p q = omega (arith, ltb→lt a b p.lt, ltb→lt b a q.lt)
apart (pos a) (negsuc b) p q = p.lt
apart (negsuc a) (pos b) p q = q.lt
apart (negsuc a) (negsuc b) p q = omega (arith, ltb→lt b a p.lt, ltb→lt a b q.lt)

module _ (x a b : ℤ) (h : a ≤ℤ b) where
  -- MAX gave a
  raised : x <ℤ a → (t : Bool) → lt_z b a ≡ t → Within x a b (exact (cond t (Int b) (Int a)))
  raised l true e = clash_ℤ (less b a e) h
  raised l false e = (≤ℤ_refl a, h, λ p q. clash_ℤ l p, λ p. refl, λ p. absurd (apart x b (<ℤ-≤ℤ_trans l h) p))

  -- MAX gave x
  kept : a ≤ℤ x → (t : Bool) → lt_z b x ≡ t → Within x a b (exact (cond t (Int b) (Int x)))
  kept l true e = (h, ≤ℤ_refl b, λ p q. clash_ℤ (less b x e) q, λ p. clash_ℤ p l, λ p. refl)
  kept l false e = (l, no_less b x e, λ p q. refl, λ p. clash_ℤ p l, λ p. clash_ℤ p (no_less b x e))

  pub between : Within x a b (exact (constrained (Int x) (Int a) (Int b)))
  unfolding constrained ordered
  between = by (lt_z x a) refl
    where
      by : (t : Bool) → lt_z x a ≡ t → Within x a b (exact (extremum Min (promoted (cond t (Int a) (Int x)) (Int b))))
      by true e = raised (less x a e) (lt_z b a) refl
      by false e = kept (no_less x a e) (lt_z b x) refl
