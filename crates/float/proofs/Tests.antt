-- Tests of numbers and of truth values, and what two of them have in common. Assumes nothing.
use Rattle.std.proofs.Common.{◌≡◌, ℕ, ◌*◌, ◌<◌, ◌≤◌, Bool, true, false, ◌&&◌, T, eqb, ltb, ◌⊎◌, sym, refl, ap, ◌∙◌, subst, inl, inr, ⊎_elim}
use Rattle.std.proofs.Common.{eq-zero-or-pos, mul-pos, lt_of_not-le, zero-mul, not-le_of_lt, arith, ltb-false, ltb-true, le-ltb, lt-ltb}
use Rattle.std.proofs.Common.{eq-eqb, ne_eqb, eqb-true}
use borrow.Author.Tests.{eqb-false}

pub true-false : {X : Type 0} {b : Bool} → b ≡ true → b ≡ false → X
true-false p q = absurd (subst T (sym p ∙ q) tt)

pub and-true : (b : Bool) → (b && true) ≡ b
and-true true = refl
and-true false = refl

pub lt-or-le : (a b : ℕ) → (a < b) ⊎ (b ≤ a)
lt-or-le a b = by (ltb a b) refl
  where
    by : (t : Bool) → ltb a b ≡ t → (a < b) ⊎ (b ≤ a)
    by true e = inl (ltb-true a b e)
    by false e = inr (ltb-false a b e)

pub ltb-same : (a b c d : ℕ) → (b ≤ a → d ≤ c) → (d ≤ c → b ≤ a) → ltb a b ≡ ltb c d
ltb-same a b c d h g = by (ltb a b) refl
  where
    by : (t : Bool) → ltb a b ≡ t → ltb a b ≡ ltb c d
    by true e = e ∙ sym (lt-ltb c d (lt_of_not-le (λ (k : d ≤ c). not-le_of_lt (ltb-true a b e) (g k))))
    by false e = e ∙ sym (le-ltb c d (h (ltb-false a b e)))

pub eqb_same : (a b c d : ℕ) → (a ≡ b → c ≡ d) → (c ≡ d → a ≡ b) → eqb a b ≡ eqb c d
eqb_same a b c d h g = by (eqb a b) refl
  where
    by : (t : Bool) → eqb a b ≡ t → eqb a b ≡ eqb c d
    by true e = e ∙ sym (eq-eqb c d (h (eqb-true a b e)))
    by false e = e ∙ sym (ne_eqb c d (λ (z : c ≡ d). eqb-false a b e (g z)))

factor-zero : (a b : ℕ) → 0 < b → a * b ≡ 0 → a ≡ 0
factor-zero a b h e = ⊎_elim (λ (z : a ≡ 0). z) (λ (p : 0 < a). absurd (none (a * b) (mul-pos p h) e)) (eq-zero-or-pos a)
  where
    none : (n : ℕ) → 0 < n → n ≡ 0 → ⊥
    none n p z = omega arith

pub zero-product : (a b : ℕ) → 0 < b → eqb (a * b) 0 ≡ eqb a 0
zero-product a b h = eqb_same (a * b) 0 a 0 (factor-zero a b h) (λ (z : a ≡ 0). ap (λ (n : ℕ). n * b) z ∙ zero-mul b)
