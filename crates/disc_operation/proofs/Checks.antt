-- What a disc is that has passed the tests.
use Rattle.std.specs.Prelude.{Ok, Err}
use mathlib.Core.Path.{◌≡◌, refl}
use mathlib.Core.Bool.{Bool, true, false}
use mathlib.Core.List.{List}
use Prim.Native.Nat.{ℕ}
use native.Mathlib.Omega.{arith}
use lib.ListN.{length}
use Rattle.disc.specs.Directory.{Readable, good_disc, is_disc_length}
use Rattle.disc.proofs.Lengths.{readable}
use Rattle.store.specs.Answer.{checked}
use Rattle.store.specs.File.{unless}
use Rattle.store.specs.declared.Refusal.TheVariants.{WrongLength, BadDisc}

-- a disc that may be used
pub record Fit (disc : List ℕ) : Type 0 where
  pub right : is_disc_length (length disc) ≡ true
  pub sound : good_disc disc ≡ true
  pub ready : Readable disc

pub usable : (disc : List ℕ) → checked disc ≡ Ok (tt {0}) → Fit disc
unfolding checked
usable disc e = go (is_disc_length (length disc)) refl (good_disc disc) refl e
  where
    go : (a : Bool) → is_disc_length (length disc) ≡ a → (b : Bool) → good_disc disc ≡ b
        → unless a (Err WrongLength) (unless b (Err BadDisc) (Ok (tt {0}))) ≡ Ok (tt {0}) → Fit disc
    go false l b g h = absurd (let z : ◌≡◌ {A = ℕ} 0 1 = cc in omega arith)
    go true l false g h = absurd (let z : ◌≡◌ {A = ℕ} 0 1 = cc in omega arith)
    go true l true g h = record { right = l; sound = g; ready = readable disc l g }
