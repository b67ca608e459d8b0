-- Tests joined by `&&`, as equations.
use mathlib.Core.Path.{◌≡◌, refl, sym, ◌∙◌, subst}
use mathlib.Core.Bool.{Bool, true, false, ◌&&◌, not}
use lib.Dec.{T}

pub and_left : (a b : Bool) → a && b ≡ true → a ≡ true
and_left true b h = refl
and_left false b h = h

pub and_right : (a b : Bool) → a && b ≡ true → b ≡ true
and_right true b h = h
and_right false b h = cc

pub and_both : {a b : Bool} → a ≡ true → b ≡ true → a && b ≡ true
and_both h k = rw (h, k)

pub true-not-false : {b : Bool} → b ≡ true → b ≡ false → ⊥
true-not-false p q = subst T (sym p ∙ q) tt

-- a test is true or false
pub not-true-is-false : (b : Bool) → (b ≡ true → ⊥) → b ≡ false
not-true-is-false true h = absurd (h refl)
not-true-is-false false h = refl

pub and-false-right : (a b : Bool) → a ≡ true → a && b ≡ false → b ≡ false
and-false-right a b t h = not-true-is-false b (λ u. true-not-false (and_both t u) h)

pub not-is-true : {b : Bool} → b ≡ false → not b ≡ true
not-is-true h = rw h
