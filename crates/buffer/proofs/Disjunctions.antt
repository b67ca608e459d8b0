-- Tests joined by `||`, and a test of some element, as facts.
use Prim.Native.Nat.{ℕ, suc, ◌<◌}
use mathlib.Core.Path.{◌≡◌, refl}
use mathlib.Core.Bool.{Bool, true, false, ◌||◌}
use mathlib.Core.List.{List, [], ◌∷◌}
use mathlib.Core.Logic.{◌⊎◌, inl, inr, ⊎_elim}
use native.Mathlib.Omega.{arith}
use lib.ListN.{length, get_or}
use Rattle.buffer.specs.Lists.{any}
use Rattle.buffer.proofs.Bools.{not-true-is-false, true-not-false}

pub or_cases : (a b : Bool) → a || b ≡ true → (a ≡ true) ⊎ (b ≡ true)
or_cases true b h = inl refl
or_cases false b h = inr h

pub or-first : {a : Bool} (b : Bool) → a ≡ true → a || b ≡ true
or-first b h = rw h

pub or-second : (a : Bool) {b : Bool} → b ≡ true → a || b ≡ true
or-second true h = refl
or-second false h = h

pub or-false-left : (a b : Bool) → a || b ≡ false → a ≡ false
or-false-left a b h = not-true-is-false a (λ t. true-not-false (or-first b t) h)

pub or-false-right : (a b : Bool) → a || b ≡ false → b ≡ false
or-false-right a b h = not-true-is-false b (λ t. true-not-false (or-second a t) h)

pub any_none : {A : Type 0} (p : A → Bool) (l : List A) → ((x : A) → p x ≡ false) → any p l ≡ false
unfolding any
any_none p [] h = refl
any_none p (x ∷ l) h = rw (h x) (any_none p l h)

module _ {A : Type 0} (p : A → Bool) (d : A) where
  -- an element that p holds of
  pub record Some (l : List A) : Type 0 where
    pub place : ℕ
    pub inside : place < length l
    pub holds : p (get_or l place d) ≡ true

  pub any-is : (l : List A) → any p l ≡ true → Some l
  unfolding any
  any-is [] t = absurd (true-not-false t refl)
  any-is (x ∷ l) t =
      ⊎_elim (λ e. record { place = 0; inside = omega arith; holds = e })
      (λ e. let s = any-is l e in record { place = suc s.place; inside = omega (arith, s.inside); holds = s.holds })
      (or_cases (p x) (any p l) t)
