-- t * 2 ^ e as m * 4 ^ g with a larger m turn by turn, until m has 49 digits: the loop of `scale`, and that every t above 0 is so scaled.
-- Assumes nothing.
use Rattle.std.proofs.Common.{◌≡◌, ℕ, zero, suc, ◌+◌, ◌-◌, ◌*◌, ◌/◌, ◌%◌, ◌^◌, ◌<◌, ◌≤◌, sym, refl, ap, ◌∙◌, subst, inl, inr}
use Rattle.std.proofs.Common.{not-suc-le-zero, mul_assoc, mul_comm, mul-le-mul, pow-suc, mul_left_comm, arith, pow_mono, pow-add}
use native.Mathlib.Nat.{mul-mul-mul_comm}
use Rattle.float.specs.Scale.{IsScaled}
use Rattle.float.proofs.Tests.{lt-or-le}

-- what every turn keeps
pub record Scaling (t e m g : ℕ) : Type 0 where
  pub same : m * (2 ^ g * 2 ^ g) ≡ t * 2 ^ e
  pub some : 0 < m
  pub most : m < 1125899906842624
  pub even : m % 2 ≡ 0
  pub near : g ≤ 200

two-bits : (b : ℕ) → b < 2 → 2 ^ (2 + b) ≡ 4 * (1 + b)
two-bits zero h = refl
two-bits (suc zero) h = refl
two-bits (suc (suc b)) h = absurd (none b h)
  where
    none : (b : ℕ) → suc (suc b) < 2 → ⊥
    none b h = omega arith

module _ (t e : ℕ) (pre : (0 < t) × ((t < 16777216) × ((149 ≤ e) × (e < 403)))) where
  start-same : 4 * t * (1 + e % 2) * (2 ^ (e / 2 - 1) * 2 ^ (e / 2 - 1)) ≡ t * 2 ^ e
  start-same =
      shuffle t (1 + e % 2) (2 ^ (e / 2 - 1) * 2 ^ (e / 2 - 1))
      ∙ ap (λ (n : ℕ). t * (2 ^ (e / 2 - 1) * 2 ^ (e / 2 - 1) * n)) (sym (two-bits (e % 2) (omega arith)))
      ∙ ap (λ (n : ℕ). t * (n * 2 ^ (2 + e % 2))) (sym (pow-add 2 (e / 2 - 1) (e / 2 - 1)))
      ∙ ap (λ (n : ℕ). t * n) (sym (pow-add 2 (e / 2 - 1 + (e / 2 - 1)) (2 + e % 2)) ∙ ap (λ (n : ℕ). 2 ^ n) (omega arith))
    where
      shuffle : (t b h : ℕ) → 4 * t * b * h ≡ t * (h * (4 * b))
      shuffle t b h = simp (mul_assoc, mul_comm, mul_left_comm)

  pub start-below : 4 * t * (1 + e % 2) < 134217728
  start-below = omega (arith, mul-le-mul {n₁ = 4 * t} {m₁ = 1 + e % 2} {n₂ = 4 * t} {m₂ = 2} (omega arith) (omega arith))

  pub start : Scaling t e (4 * t * (1 + e % 2)) (e / 2 - 1)
  start = record {
    same = start-same;
    some = omega (arith, mul-le-mul {n₁ = 4 * t} {m₁ = 1} {n₂ = 4 * t} {m₂ = 1 + e % 2} (omega arith) (omega arith));
    most = omega (arith, start-below);
    even = omega (arith, mul_assoc 4 t (1 + e % 2));
    near = omega arith;
  }

  module _ (m : ℕ) where
    pub shift-left : (g : ℕ) → Scaling t e m g → m < 281474976710656 → 1 ≤ g
    shift-left zero i h =
        absurd (none m (t * 2 ^ e) h i.same (mul-le-mul {n₁ = 1} {m₁ = 2 ^ 60} pre.0 (pow_mono {i = 60} (omega arith))))
      where
        none : (m n : ℕ) → m < 281474976710656 → m * 1 ≡ n → 2 ^ 60 ≤ n → ⊥
        none m n h e l = omega arith
    shift-left (suc g) i h = omega arith

    pub turn : (g : ℕ) → Scaling t e m g → m < 281474976710656 → 1 ≤ g → Scaling t e (m * 4) (g - 1)
    turn zero i h l = absurd (none l)
      where
        none : 1 ≤ 0 → ⊥
        none l = omega arith
    turn (suc g) i h l = record {
      same = ap (λ (n : ℕ). m * 4 * (2 ^ n * 2 ^ n)) (omega arith) ∙ quarter ∙ i.same;
      some = omega (arith, i.some);
      most = omega arith;
      even = omega (arith, i.even);
      near = omega (arith, i.near);
    }
      where
        quarter : m * 4 * (2 ^ g * 2 ^ g) ≡ m * (2 ^ suc g * 2 ^ suc g)
        quarter =
            mul_assoc m 4 (2 ^ g * 2 ^ g) ∙ ap (λ (n : ℕ). m * n)
            (mul_comm 4 (2 ^ g * 2 ^ g) ∙ sym (mul-mul-mul_comm (2 ^ g) 2 (2 ^ g) 2) ∙ ap (λ (n : ℕ). n * n) (sym (pow-suc 2 g)))

    pub done : (g : ℕ) → Scaling t e m g → 281474976710656 ≤ m → IsScaled t e m g
    done g i h = record { same = i.same; least = h; most = i.most; even = i.even; near = i.near }

  -- ---- the turns end, at a g of their own
  ends : (g m : ℕ) → Scaling t e m g → (m : ℕ) × (g : ℕ) × IsScaled t e m g
  ends zero m i = elim (lt-or-le m 281474976710656) [
    | inl l ↦ absurd (not-suc-le-zero (shift-left m zero i l))
    | inr h ↦ (m, zero, done m zero i h)
  ]
  ends (suc g) m i = elim (lt-or-le m 281474976710656) [
    | inl l ↦ ends g (m * 4) (subst (Scaling t e (m * 4)) (omega arith) (turn m (suc g) i l (omega arith)))
    | inr h ↦ (m, suc g, done m (suc g) i h)
  ]

  pub scaled : (m : ℕ) × (g : ℕ) × IsScaled t e m g
  scaled = ends (e / 2 - 1) (4 * t * (1 + e % 2)) start
