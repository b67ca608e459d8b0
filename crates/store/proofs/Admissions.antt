-- Why a file is admitted, and why it is not.
use Rattle.std.specs.Prelude.{Ok, Err, Result}
use Rattle.std.specs.Prelude.{None, Option, Some}
use Prim.Native.Nat.{ℕ, ◌-◌, ◌≤◌, ◌<◌}
use mathlib.Core.Path.{◌≡◌, refl, subst, subst⁻¹}
use mathlib.Core.Bool.{Bool, true, false}
use mathlib.Core.List.{List}
use native.Mathlib.Omega.{arith}
use lib.Dec.{leb, ltb}
use lib.ListN.{length, length-replicate}
use borrow.Author.Tests.{leb-true, ltb-false, ltb-true}
use Rattle.buffer.specs.Buffer.{zeros}
use Rattle.buffer.proofs.Bools.{and_left}
use Rattle.place.specs.Place.{fits}
use Rattle.place.proofs.Place.{Fits}
use Rattle.disc.specs.Directory.{file_count, good_disc, is_disc_length, lookup, taken}
use Rattle.disc.specs.Layout.{data_start, max_files}
use Rattle.disc.specs.Name.{good_name}
use Rattle.disc.proofs.Goodness.{good-disc-is}
use Rattle.store.specs.File.{admission, deny_if_found, good_size, place_of, start_or, unless}
use Rattle.store.specs.declared.Refusal.{Refusal}
use Rattle.store.specs.declared.Refusal.TheVariants.{WrongLength, BadDisc, BadArea, ShortOutput, BadName, BadSize, NameExists}
use Rattle.store.specs.declared.Refusal.TheVariants.{DirectoryFull, NoRun, NoSuchFile, FileInUse, NoSlot, NoId, NoProcess, SameState}
use Rattle.store.specs.declared.Refusal.TheVariants.{NotRunning, BadShare}
use Rattle.store.proofs.Rooms.{found-fits, no-place-none-fit}

-- admitted at start s
pub record Admitted (disc name : List ℕ) (n s : ℕ) : Type 0 where
  pub good : good_name name ≡ true
  pub some : 1 ≤ n
  pub few : file_count disc < max_files
  pub new : lookup disc name ≡ None
  pub found : place_of disc n ≡ Some s
  pub placed : Fits (taken disc) data_start (length disc) n s

-- where n bytes are admitted, n zeros are
pub zeros-admitted : {disc name : List ℕ} {n s : ℕ} → Admitted disc name n s → Admitted disc name (length (zeros n)) s
zeros-admitted {disc} {name} {n} {s} a = subst⁻¹ (λ (m : ℕ). Admitted disc name m s) (length-replicate n 0) a

-- what each refusal says where a file is to be stored: "1: a buffer has the wrong length. 2: disc not good.", then
-- "5 bad name, 6 data length 0 or above 863, 8 ten files already, 7 name exists, 9 no free run long enough", and no other
abbrev pub Denial : List ℕ → List ℕ → ℕ → Refusal → Type 0
Denial disc name n WrongLength = is_disc_length (length disc) ≡ false
Denial disc name n BadDisc = good_disc disc ≡ false
Denial disc name n BadName = good_name name ≡ false
Denial disc name n BadSize = good_size disc n ≡ false
Denial disc name n DirectoryFull = max_files ≤ file_count disc
Denial disc name n NameExists = (i : ℕ) × (lookup disc name ≡ Some i)
Denial disc name n NoRun = (s : ℕ) → fits (taken disc) data_start (length disc) n s ≡ false
Denial disc name n BadArea = ⊥
Denial disc name n ShortOutput = ⊥
Denial disc name n NoSuchFile = ⊥
Denial disc name n FileInUse = ⊥
Denial disc name n NoSlot = ⊥
Denial disc name n NoId = ⊥
Denial disc name n NoProcess = ⊥
Denial disc name n SameState = ⊥
Denial disc name n NotRunning = ⊥
Denial disc name n BadShare = ⊥

abbrev Verdict : List ℕ → List ℕ → ℕ → Result ℕ Refusal → Type 0
Verdict disc name n (Ok s) = Admitted disc name n s
Verdict disc name n (Err r) = Denial disc name n r

module _ (disc name : List ℕ) (n : ℕ) where
  verdict : Verdict disc name n (admission disc name n)
  unfolding admission
  verdict =
      go (good_name name) refl (good_size disc n) refl (ltb (file_count disc) max_files) refl (lookup disc name) refl (place_of disc n) refl
    where
      go : (a : Bool) → good_name name ≡ a → (b : Bool) → good_size disc n ≡ b → (c : Bool) → ltb (file_count disc) max_files ≡ c
          → (f : Option ℕ)
          → lookup disc name ≡ f → (g : Option ℕ) → place_of disc n ≡ g
          → Verdict disc name n
          (unless a (Err BadName) (unless b (Err BadSize) (unless c (Err DirectoryFull) (deny_if_found f (start_or g)))))
      go false p b q c r f t g u = p
      go true p false q c r f t g u = q
      go true p true q false r f t g u = ltb-false (file_count disc) max_files r
      go true p true q true r (Some i) t g u = (i, t)
      go true p true q true r None t None u = no-place-none-fit disc n u
      go true p true q true r None t (Some s) u =
          record {
            good = p;
            some = leb-true 1 n (and_left (leb 1 n) (leb n (length disc - data_start)) q);
            few = ltb-true (file_count disc) max_files r;
            new = t;
            found = u;
            placed = found-fits disc n s u;
          }

  pub admitted : (s : ℕ) → admission disc name n ≡ Ok s → Admitted disc name n s
  admitted s e = subst (λ (a : Result ℕ Refusal). Verdict disc name n a) e verdict

  pub denied : (r : Refusal) → admission disc name n ≡ Err r → Denial disc name n r
  denied r e = subst (λ (a : Result ℕ Refusal). Verdict disc name n a) e verdict

  -- refusal 8 only with ten files
  pub denied-full : good_disc disc ≡ true → admission disc name n ≡ Err DirectoryFull → file_count disc ≡ max_files
  denied-full g e = let full : max_files ≤ file_count disc = denied DirectoryFull e in omega (arith, (good-disc-is disc g).few)
