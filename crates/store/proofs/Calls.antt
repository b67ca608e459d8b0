-- The calls as a whole: a refused number is below zero, why store is refused, and what free space says.
use Rattle.std.specs.Prelude.{Ok, Err, Result}
use Rattle.std.specs.Prelude.{None, Some}
use Prim.Native.Nat.{ℕ, ◌<◌}
use mathlib.Core.Path.{◌≡◌, refl, subst}
use mathlib.Core.Bool.{true}
use mathlib.Core.List.{List}
use native.Mathlib.Omega.{arith}
use lib.Dec.{ltb→lt}
use lib.IntN.{ℤ, pos}
use lib.ListN.{length}
use lib.Signed.{◌<ℤ◌}
use Rattle.disc.specs.Directory.{good_disc, is_disc_length}
use Rattle.store.specs.Answer.{Updated, answer_number, free_space_answer, store_answer, store_at, updated}
use Rattle.store.specs.File.{admission, place_of, room_on, stored}
use Rattle.store.specs.declared.Refusal.{Refusal}
use Rattle.store.specs.declared.Refusal.TheVariants.{WrongLength, BadDisc, BadArea, ShortOutput, BadName, BadSize, NameExists}
use Rattle.store.specs.declared.Refusal.TheVariants.{DirectoryFull, NoRun, NoSuchFile, FileInUse, NoSlot, NoId, NoProcess, SameState}
use Rattle.store.specs.declared.Refusal.TheVariants.{NotRunning, BadShare}
use Rattle.store.proofs.Checks.{by-checks}
use Rattle.store.proofs.Admissions.{Admitted, Denial, admitted, denied}
use Rattle.store.proofs.Rooms.{room-on-fits, room-on-most}

-- ---- numbers
-- "0 or more is done [..], −n is refusal n"
pub done-not-below : (n : ℕ) → pos n <ℤ pos 0 → ⊥
done-not-below n h = let l : n < 0 = ltb→lt n 0 h.lt in omega arith

pub refused-below : (r : Refusal) → answer_number (Err r) <ℤ pos 0
refused-below WrongLength = record { lt = tt }
refused-below BadDisc = record { lt = tt }
refused-below BadArea = record { lt = tt }
refused-below ShortOutput = record { lt = tt }
refused-below BadName = record { lt = tt }
refused-below BadSize = record { lt = tt }
refused-below NameExists = record { lt = tt }
refused-below DirectoryFull = record { lt = tt }
refused-below NoRun = record { lt = tt }
refused-below NoSuchFile = record { lt = tt }
refused-below FileInUse = record { lt = tt }
refused-below NoSlot = record { lt = tt }
refused-below NoId = record { lt = tt }
refused-below NoProcess = record { lt = tt }
refused-below SameState = record { lt = tt }
refused-below NotRunning = record { lt = tt }
refused-below BadShare = record { lt = tt }

pub refused-not-done : (r : Refusal) (n : ℕ) → answer_number (Err r) ≡ pos n → ⊥
refused-not-done r n e = done-not-below n (subst (λ (z : ℤ). z <ℤ pos 0) e (refused-below r))

-- ---- store by cases: refused, with the disc as it was, or done
pub store-cases : (disc name bytes : List ℕ) (P : Updated → Type 0)
    → ((r : Refusal) → Denial disc name (length bytes) r → P (updated (Err r) disc))
    → ((s : ℕ) → is_disc_length (length disc) ≡ true → good_disc disc ≡ true → Admitted disc name (length bytes) s
    → P (updated (Ok 0) (stored disc name bytes s)))
    → P (store_answer disc name bytes)
unfolding store_answer
store-cases disc name bytes P refused done =
    by-checks disc P _ _ (refused WrongLength) (refused BadDisc) (go (admission disc name (length bytes)) refl)
  where
    go : (a : Result ℕ Refusal) → admission disc name (length bytes) ≡ a → is_disc_length (length disc) ≡ true → good_disc disc ≡ true
        → P (store_at a disc name bytes)
    go (Err r) e l g = refused r (denied disc name (length bytes) r e)
    go (Ok s) e l g = done s l g (admitted disc name (length bytes) s e)

-- ---- free space
module _ (disc : List ℕ) (n : ℕ) where
  free-space-is : free_space_answer disc ≡ pos n → (is_disc_length (length disc) ≡ true) × (room_on disc ≡ n)
  unfolding free_space_answer room_on
  free-space-is =
      by-checks disc (λ z. z ≡ pos n → (is_disc_length (length disc) ≡ true) × (room_on disc ≡ n)) _ _
      (λ e h. absurd (refused-not-done WrongLength n h))
      (λ e h. absurd (refused-not-done BadDisc n h))
      (λ e f h. (e, cc))

  -- a file of that length has a place
  pub free-space-fits : free_space_answer disc ≡ pos n → 0 < n → (s : ℕ) × (place_of disc n ≡ Some s)
  free-space-fits e h =
      subst (λ (k : ℕ). 0 < k → (s : ℕ) × (place_of disc k ≡ Some s)) (free-space-is e).1 (room-on-fits disc) h

  -- no longer one has
  pub free-space-most : free_space_answer disc ≡ pos n → (m : ℕ) → n < m → place_of disc m ≡ None
  free-space-most e m h = let f = free-space-is e in room-on-most disc f.0 m (omega (arith, f.1))
