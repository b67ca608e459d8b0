-- OPEN: it goes on with some file, or its new file is refused, and then for one of document 01's four reasons.
use Rattle.std.specs.Prelude.{Ok, Err, Result}
use Rattle.std.specs.Prelude.{None, Option, Some}
use Prim.Native.Nat.{ℕ, zero, suc, ◌-◌, ◌*◌, ◌/◌}
use mathlib.Core.Path.{◌≡◌, refl, sym, subst}
use mathlib.Core.Bool.{Bool, true, false, ◌&&◌, cond}
use mathlib.Core.List.{List}
use native.Mathlib.Omega.{arith}
use lib.Dec.{leb}
use lib.Ieee.{Float as Binary32, nan, inf, fin, up, down}
use lib.IntN.{ℤ, pos, negsuc}
use lib.ListN.{length}
use borrow.Author.Tests.{le-leb}
use Rattle.buffer.specs.Buffer.{zeros}
use Rattle.buffer.proofs.Bools.{and_both, true-not-false}
use Rattle.float.specs.Whole.{in_range, signed, sized, size_of, within}
use Rattle.number.specs.Compare.{size_within}
use Rattle.number.specs.declared.Number.{Number}
use Rattle.number.specs.declared.Number.TheVariants.{Char, Int, Float}
use Rattle.place.specs.Place.{run_from}
use Rattle.disc.specs.Directory.{entry_at, good_disc, is_disc_length, lookup}
use Rattle.disc.specs.Layout.{data_start}
use Rattle.store.specs.File.{admission, good_size, stored}
use Rattle.store.specs.declared.Refusal.{Refusal}
use Rattle.store.specs.declared.Refusal.TheVariants.{WrongLength, BadDisc, BadArea, ShortOutput, BadName, BadSize, NameExists}
use Rattle.store.specs.declared.Refusal.TheVariants.{DirectoryFull, NoRun, NoSuchFile, FileInUse, NoSlot, NoId, NoProcess, SameState}
use Rattle.store.specs.declared.Refusal.TheVariants.{NotRunning, BadShare}
use Rattle.store.proofs.Admissions.{Denial, denied, denied-full}
use Rattle.store.proofs.Rooms.{free-fits}
use Rattle.machine.specs.Beyond.{Answered, answered, breaks, continues, created, created_at, new_file_size, opened, opened_at}
use Rattle.machine.specs.Effect.{opens}
use Rattle.machine.specs.NoPlace.{NewFileRefused, by_name, by_size, by-full, by-no-run}
use Rattle.machine.specs.State.{Local}
use Rattle.machine.specs.declared.Kernel.{Kernel}
use Rattle.machine.specs.declared.OpenFile.{OpenFile}
use Rattle.machine.proofs.Fields.Names.{is-name-good}

-- a size that is not refused is one of the disc's
sized-within : (max n : ℕ) (z : ℤ) → sized (within max z) ≡ Some n → leb 1 n && leb n max ≡ true
sized-within max n z e = go (in_range max z) refl z refl e
  where
    go : (inside : Bool) → in_range max z ≡ inside → (y : ℤ) → y ≡ z → sized (cond inside (Some y) None) ≡ Some n → leb 1 n
        && leb n max ≡ true
    go false p y q h = absurd (let x : ◌≡◌ {A = ℕ} 0 1 = cc in omega arith)
    go true p (pos zero) q h = absurd (let x : ◌≡◌ {A = ℕ} 0 1 = cc in omega arith)
    go true p (negsuc m) q h = absurd (let x : ◌≡◌ {A = ℕ} 0 1 = cc in omega arith)
    go true p (pos (suc m)) q h =
        let x : suc m ≡ n = cc in
        let below : leb (suc m) max ≡ true = subst (λ (y : ℤ). in_range max y ≡ true) (sym q) p in
        subst (λ (i : ℕ). leb 1 i && leb i max ≡ true) x (and_both (le-leb 1 (suc m) (omega arith)) below)

size-within : (max n : ℕ) (size : Number) → size_within max size ≡ Some n → leb 1 n && leb n max ≡ true
unfolding size_of
size-within max n (Char x) e = sized-within max n x e
size-within max n (Int x) e = sized-within max n x e
size-within max n (Float x) e = float-within x e
  where
    float-within : (x : Binary32) → size_of max x ≡ Some n → leb 1 n && leb n max ≡ true
    float-within nan e = absurd (let x : ◌≡◌ {A = ℕ} 0 1 = cc in omega arith)
    float-within (inf s) e = absurd (let x : ◌≡◌ {A = ℕ} 0 1 = cc in omega arith)
    float-within (fin s m e) h = sized-within max n (signed s (m * up e / down e)) h

module _ (disc name : List ℕ) (long : is_disc_length (length disc) ≡ true) (good : good_disc disc ≡ true) where
  -- a file of that name would have been opened, so that it exists is no reason
  denial-refuses : (n : ℕ) (size : Option ℕ) → size ≡ Some n → good_size disc n ≡ true → lookup disc name ≡ None → (r : Refusal)
      → admission disc name n ≡ Err r → Denial disc name n r → NewFileRefused disc name size
  denial-refuses n size e fit new WrongLength a d = absurd (true-not-false long d)
  denial-refuses n size e fit new BadDisc a d = absurd (true-not-false good d)
  denial-refuses n size e fit new BadName a d = by_name λ q. true-not-false (is-name-good name q) d
  denial-refuses n size e fit new BadSize a d = absurd (true-not-false fit d)
  denial-refuses n size e fit new DirectoryFull a d = by-full (denied-full disc name n good a)
  denial-refuses n size e fit new NameExists a d = absurd (let found : lookup disc name ≡ Some d.0 = d.1 in
      let z : ◌≡◌ {A = ℕ} 0 1 = cc in omega arith)
  denial-refuses n size e fit new NoRun a d = by-no-run n e (λ s free. true-not-false (free-fits disc n s free) (d s))
  denial-refuses n size e fit new BadArea a d = absurd d
  denial-refuses n size e fit new ShortOutput a d = absurd d
  denial-refuses n size e fit new NoSuchFile a d = absurd d
  denial-refuses n size e fit new FileInUse a d = absurd d
  denial-refuses n size e fit new NoSlot a d = absurd d
  denial-refuses n size e fit new NoId a d = absurd d
  denial-refuses n size e fit new NoProcess a d = absurd d
  denial-refuses n size e fit new SameState a d = absurd d
  denial-refuses n size e fit new NotRunning a d = absurd d
  denial-refuses n size e fit new BadShare a d = absurd d

  pub new-file-refused : (size : Number) (n : ℕ) → new_file_size disc size ≡ Some n → lookup disc name ≡ None → (r : Refusal)
      → admission disc name n ≡ Err r → NewFileRefused disc name (new_file_size disc size)
  new-file-refused size n e new r a =
      denial-refuses n _ e (size-within (length disc - data_start) n size e) new r a (denied disc name n r a)

  -- OPEN goes on with some file, or its new file is refused, which is fault 13
  pub open-cases : (k : Kernel) (slot : ℕ) (l : Local) (size : Number) (P : Answered → Type 0)
      → ((f : OpenFile) (after : List ℕ) → P (continues k slot disc l f after))
      → (lookup disc name ≡ None → NewFileRefused disc name (new_file_size disc size) → P (breaks 13))
      → P (answered k slot disc (opens name size l))
  unfolding answered
  open-cases k slot l size P goes refused = found (lookup disc name) refl
    where
      create : lookup disc name ≡ None → (n : ℕ) → new_file_size disc size ≡ Some n → (a : Result ℕ Refusal)
          → admission disc name n ≡ a → P (created_at k slot disc a name n l)
      create new n e (Ok s) a = goes (opened (run_from s n)) (stored disc name (zeros n) s)
      create new n e (Err r) a = refused new (new-file-refused size n e new r a)

      judged : lookup disc name ≡ None → (s : Option ℕ) → new_file_size disc size ≡ s → P (created k slot disc s name l)
      judged new None e = refused new (by_size e)
      judged new (Some n) e = create new n e (admission disc name n) refl

      found : (f : Option ℕ) → lookup disc name ≡ f → P (opened_at k slot disc f name size l)
      found (Some i) e = goes (opened (run_from (entry_at disc i).start (entry_at disc i).len)) disc
      found None e = judged e (new_file_size disc size) refl
