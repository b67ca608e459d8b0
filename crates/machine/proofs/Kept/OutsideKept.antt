-- What happens outside a process keeps a good state good: no file that a live process uses loses its entry, and a start is good.
use Prim.Native.Nat.{ℕ, ◌<◌}
use mathlib.Core.Path.{◌≡◌, subst, subst⁻¹}
use mathlib.Core.Bool.{true, false}
use mathlib.Core.List.{List}
use native.Mathlib.Omega.{arith}
use lib.ListN.{length}
use Rattle.buffer.proofs.Bools.{and_left, true-not-false}
use Rattle.disc.specs.Directory.{entry_at, file_count, good_disc}
use Rattle.disc.specs.declared.Entry.{Entry}
use Rattle.disc.proofs.Lookups.{lookup-at}
use Rattle.store.specs.File.{erased, stored}
use Rattle.store.proofs.Admissions.{Admitted}
use Rattle.store.proofs.Changes.{erased-length, erased-to}
use Rattle.store.proofs.Effects.{stored-found, stored-good, stored-length, stored-old}
use Rattle.store.proofs.Invariant.{erased-good, present}
use Rattle.machine.specs.Operations.{in_use, uses}
use Rattle.machine.specs.State.{is_live, no_process, process_at}
use Rattle.machine.specs.declared.Kernel.{Kernel}
use Rattle.machine.proofs.Kept.Begins.{starting-begins}
use Rattle.machine.proofs.Changes.Change.{GoodState, Outside, nothing, stores, erases, begins}
use Rattle.machine.proofs.Changes.Directories.{Again, files-good}
use Rattle.buffer.proofs.Kept.{any_at}
use Rattle.machine.proofs.Changes.Slots.{live_inside}
use Rattle.machine.proofs.Kept.StartKept.{started-good}

-- ---- the files that keep their entry
module _ {disc : List ℕ} (i : ℕ) (h : i < file_count disc) where
  pub stored-again : {title : List ℕ} {s : ℕ} (bytes : List ℕ) → good_disc disc ≡ true → Admitted disc title (length bytes) s
      → Again disc (stored disc title bytes s) i
  stored-again {title} {s} bytes good a =
      record {
        place = i;
        inside = omega (arith, (lookup-at (stored disc title bytes s) title (file_count disc) (stored-found bytes good a)).inside);
        same = stored-old bytes good a i h;
      }

  pub erased-again : (m : ℕ) → good_disc disc ≡ true → m < file_count disc → (i ≡ m → ⊥) → Again disc (erased disc m) i
  erased-again m good l other = let f = erased-to (present disc good m l) i h other in record { place = f.0; inside = f.1; same = f.2 }

-- ---- store, and OPEN's new file
module _ {k : Kernel} {disc title : List ℕ} (g : GoodState k disc) where
  pub stored-state-good : (bytes : List ℕ) (s : ℕ) → Admitted disc title (length bytes) s → GoodState k (stored disc title bytes s)
  stored-state-good bytes s a =
      files-good (stored disc title bytes s) g (stored-length bytes g.sound a) (stored-good bytes g.sound a)
      (λ slot i h u. stored-again i h bytes g.sound a)

-- ---- erase: "11 a live process runs it or has it open"
pub used-is-in-use : (k : Kernel) (e : Entry) (s : ℕ) → uses e (process_at k s) ≡ true → in_use k e ≡ true
unfolding in_use
used-is-in-use k e s u = any_at (uses e) k.processes s no_process (live_inside k s (and_left (is_live (process_at k s)) _ u)) u

pub erased-state-good : {k : Kernel} {disc : List ℕ} → GoodState k disc → (i : ℕ) → i < file_count disc → in_use k (entry_at disc i) ≡ false
    → GoodState k (erased disc i)
erased-state-good {k} {disc} g i h unused =
    files-good (erased disc i) g (erased-length (present disc g.sound i h)) (erased-good disc g.sound i h)
    (λ s j m u. erased-again j m i g.sound h
    (λ w. true-not-false
    (used-is-in-use k (entry_at disc i) s (subst (λ (x : ℕ). uses (entry_at disc x) (process_at k s) ≡ true) w u)) unused))

-- ---- the kinds
pub outside-good : (name : List ℕ) (k : Kernel) (disc : List ℕ) (j : Kernel) (after : List ℕ) → GoodState k disc
    → Outside name k disc j after → GoodState j after
outside-good name k disc j after g = kinds
  where
    become : (x : Kernel) (d : List ℕ) → j ≡ x → after ≡ d → GoodState x d → GoodState j after
    become x d e f h = subst⁻¹ (λ (y : Kernel). GoodState y after) e (subst⁻¹ (λ (l : List ℕ). GoodState x l) f h)

    kinds : Outside name k disc j after → GoodState j after
    kinds (nothing e f) = become _ _ e f g
    kinds (stores title bytes s a e f) = become _ _ e f (stored-state-good g bytes s a)
    kinds (erases i h u e f) = become _ _ e f (erased-state-good g i h u)
    kinds (begins slot d t e f) = become _ _ e f (started-good g (starting-begins name k disc slot d t))
