-- The tests that every operation on the disc makes first.
use Rattle.std.specs.Prelude.{Ok, Err}
use mathlib.Core.Path.{◌≡◌, refl}
use mathlib.Core.Bool.{Bool, true, false}
use mathlib.Core.List.{List}
use Prim.Native.Nat.{ℕ}
use lib.ListN.{length}
use Rattle.disc.specs.Directory.{good_disc, is_disc_length}
use Rattle.store.specs.Answer.{checked, if_usable}
use Rattle.store.specs.File.{unless}
use Rattle.store.specs.declared.Refusal.{Refusal}
use Rattle.store.specs.declared.Refusal.TheVariants.{WrongLength, BadDisc}

pub by-checks : {A : Type 0} (disc : List ℕ) (P : A → Type 0) (refuse : Refusal → A) (rest : A)
    → (is_disc_length (length disc) ≡ false → P (refuse WrongLength))
    → (good_disc disc ≡ false → P (refuse BadDisc))
    → (is_disc_length (length disc) ≡ true → good_disc disc ≡ true → P rest)
    → P (if_usable (checked disc) refuse rest)
unfolding checked
by-checks disc P refuse rest p q r = go (is_disc_length (length disc)) refl (good_disc disc) refl
  where
    go : (a : Bool) → is_disc_length (length disc) ≡ a → (b : Bool) → good_disc disc ≡ b
        → P (if_usable (unless a (Err WrongLength) (unless b (Err BadDisc) (Ok tt))) refuse rest)
    go false e b f = p e
    go true e false f = q f
    go true e true f = r e f
