-- The tests of a call: what holds of every refused answer and of the rest holds of the answer; and a done call has passed them.
use Prim.Native.Nat.{ℕ, suc}
use mathlib.Core.Path.{◌≡◌, refl}
use mathlib.Core.Bool.{Bool, true, false, ◌&&◌}
use native.Mathlib.Omega.{arith}
use lib.IntN.{pos, negsuc}
use lib.ListN.{length}
use Rattle.disc.specs.Directory.{good_disc, is_disc_length}
use Rattle.store.specs.File.{unless}
use Rattle.machine.specs.Answer.{Answer, Buffers, good_area, on_good, refused}
use Rattle.machine.specs.Area.{is_area_length}
use Rattle.machine.specs.Refusals.{Passes}

module _ (P : Answer → Type 0) (b : Buffers) where
  pub tried : (test : Bool) (n : ℕ) (rest : Answer) → P (refused n b) → (test ≡ true → P rest) → P (unless test (refused n b) rest)
  tried true n rest r h = h refl
  tried false n rest r h = r

  pub on-tests : (rest : Answer) → P (refused 1 b) → P (refused 2 b) → P (refused 3 b) → (Passes b.disc b.area → P rest)
      → P (on_good b rest)
  on-tests rest one two three h =
      tried (is_disc_length (length b.disc) && is_area_length (length b.area)) 1 _ one λ p.
      tried (good_disc b.disc) 2 _ two λ d.
      tried (good_area b.disc b.area) 3 rest three λ e.
      h (record { sizes = p; disc-good = d; area-good = e })

-- ---- a call that is done has passed the tests
pub below-not-done : {A : Type 0} {m n : ℕ} → negsuc m ≡ pos n → A
below-not-done h = absurd (let z : ◌≡◌ {A = ℕ} 0 1 = cc in omega arith)

module _ (P : Answer → Type 0) (b : Buffers) (n : ℕ) where
  abbrev IfDone : Answer → Type 0
  IfDone a = a.number ≡ pos n → P a

  pub done-test : (test : Bool) (m : ℕ) (rest : Answer) → (test ≡ true → IfDone rest) → IfDone (unless test (refused (suc m) b) rest)
  done-test test m rest h = tried IfDone b test (suc m) rest below-not-done h

  pub done-tests : (rest : Answer) → (Passes b.disc b.area → IfDone rest) → IfDone (on_good b rest)
  done-tests rest h = on-tests IfDone b rest below-not-done below-not-done below-not-done h
