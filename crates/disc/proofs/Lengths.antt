-- A disc's length. What its test says is read here and in the proof of its code, nowhere else.
use mathlib.Core.Path.{◌≡◌, refl}
use mathlib.Core.Bool.{Bool, true, false, ◌||◌}
use mathlib.Core.List.{List}
use mathlib.Core.Logic.{inl, inr, ⊎_elim}
use Prim.Native.Nat.{ℕ, ◌≤◌}
use native.Mathlib.Omega.{arith}
use lib.Dec.{eqb}
use lib.ListN.{length}
use borrow.Author.Tests.{eqb-true}
use Rattle.buffer.proofs.Bools.{not-true-is-false}
use Rattle.buffer.proofs.Disjunctions.{or_cases}
use Rattle.disc.specs.Directory.{DiscLength, Readable, good_disc, is_disc_length}
use Rattle.disc.specs.Layout.{data_start, long_disc, short_disc}
use Rattle.disc.proofs.Goodness.{good-disc-is}

pub disc-length-is : (n : ℕ) → is_disc_length n ≡ true → DiscLength n
unfolding is_disc_length DiscLength
disc-length-is n e =
    ⊎_elim (λ t. inl (eqb-true n short_disc t)) (λ t. inr (eqb-true n long_disc t))
    (or_cases (eqb n short_disc) (eqb n long_disc) e)

pub is-disc-length : (n : ℕ) → DiscLength n → is_disc_length n ≡ true
unfolding is_disc_length DiscLength
is-disc-length n (inl e) = rw e refl
is-disc-length n (inr e) = rw e refl

-- of every length but the new one the test says what document 01's said
pub as_before : (n : ℕ) → (n ≡ long_disc → ⊥) → is_disc_length n ≡ eqb n short_disc
unfolding is_disc_length
as_before n h = rw (not-true-is-false (eqb n long_disc) (λ t. h (eqb-true n long_disc t))) (or_nothing (eqb n short_disc))
  where
    or_nothing : (b : Bool) → b || false ≡ b
    or_nothing true = refl
    or_nothing false = refl

-- as long as a disc has to be for its directory, and as short as for places of 16 bits
pub record DiscBounds (n : ℕ) : Type 0 where
  pub low : data_start ≤ n
  pub high : n ≤ 65535

pub disc-bounds : (n : ℕ) → is_disc_length n ≡ true → DiscBounds n
unfolding DiscLength
disc-bounds n e = go (disc-length-is n e)
  where
    go : DiscLength n → DiscBounds n
    go (inl q) = record { low = omega arith; high = omega arith }
    go (inr q) = record { low = omega arith; high = omega arith }

pub readable : (disc : List ℕ) → is_disc_length (length disc) ≡ true → good_disc disc ≡ true → Readable disc
readable disc l g =
    let n = disc-bounds (length disc) l in
    record { low = n.low; high = n.high; few = (good-disc-is disc g).few }
