-- What a lookup finds when a file has entered, or bytes were written.
use Rattle.std.specs.Prelude.{Some}
use Prim.Native.Nat.{ℕ, ◌+◌}
use mathlib.Core.Path.{◌≡◌, ap}
use mathlib.Core.Bool.{true}
use mathlib.Core.List.{List}
use native.Mathlib.Omega.{arith}
use lib.ListN.{length}
use Rattle.buffer.specs.Lists.{index}
use Rattle.place.specs.declared.Run.{Run}
use Rattle.disc.specs.Directory.{file_count, good_disc, lookup, named, nowhere_unless}
use Rattle.disc.specs.Name.{good_name}
use Rattle.disc.specs.declared.Entry.{Entry}
use Rattle.disc.proofs.Goodness.{good-disc-is}
use Rattle.disc.proofs.Lookups.{lookup-is}
use Rattle.store.specs.File.{entered, written_at}
use Rattle.store.proofs.Admissions.{Admitted}
use Rattle.store.proofs.Changes.{Inside, entered-count, entered-new}
use Rattle.store.proofs.Changes.{written-files}
use Rattle.store.proofs.Invariant.{entered-good, room}

-- ---- what enters
module _ {disc name : List ℕ} {n s : ℕ} (good : good_disc disc ≡ true) (a : Admitted disc name n s) where
  count : file_count (entered disc name n s) ≡ file_count disc + 1
  count = entered-count n s (room a)

  pub entered-found : lookup (entered disc name n s) name ≡ Some (file_count disc)
  entered-found =
      lookup-is (entered-good a good)
      (record { good = a.good; inside = omega (arith, count); held = ap (λ (x : Entry). x.name) (entered-new n s (room a)) })

-- ---- what is written
pub written-lookup : {disc : List ℕ} {run : Run} {offset : ℕ} (bytes : List ℕ) → Inside disc run offset (length bytes)
    → good_disc disc ≡ true
    → (name : List ℕ) → lookup (written_at disc run offset bytes) name ≡ lookup disc name
unfolding lookup
written-lookup {disc} bytes inside good name =
    ap (λ (es : List Entry). nowhere_unless (good_name name) (index (named name) es))
    (written-files bytes inside (good-disc-is disc good).few)
