-- Files: the file of a name.
use Rattle.std.specs.Prelude.{None, Some}
use Prim.Native.Nat.{ℕ}
use mathlib.Core.Path.{◌≡◌, sym, ◌∙◌}
use mathlib.Core.Bool.{true}
use mathlib.Core.List.{List}
use native.Mathlib.Omega.{arith}
use lib.ListN.{length}
use Rattle.disc.specs.Directory.{Readable, good_disc, is_disc_length, lookup}
use Rattle.disc.specs.Offsets.{entry_start}
use Rattle.disc.proofs.Lengths.{readable}
use Rattle.disc.proofs.Lookups.{Located, lookup-at, lookup-is, lookup-none}
use Rattle.disc.proofs.Offsets.{entry-name}
use Rattle.machine.specs.Fields.{Named, NoFile}
use Rattle.machine.proofs.Fields.Names.{good-is-name, is-name-good, padded-spells, spells-padded}

module _ {disc name : List ℕ} {i : ℕ} where
  pub located-named : Located disc name i → Named disc name i
  located-named l =
      let n = good-is-name name l.good in
      record {
        counted = l.inside;
        good = n;
        spelled = padded-spells name (omega (arith, n.few)) disc (entry_start i) (sym (entry-name disc i) ∙ l.held);
      }

  pub named-located : Readable disc → Named disc name i → Located disc name i
  named-located r n =
      record {
        good = is-name-good name n.good;
        inside = n.counted;
        held =
            entry-name disc i
            ∙ spells-padded name (omega (arith, n.good.few)) disc (entry_start i) (omega (arith, r.low, r.few, n.counted)) n.spelled;
      }

pub lookup-named : (disc name : List ℕ) (i : ℕ) → lookup disc name ≡ Some i → Named disc name i
lookup-named disc name i e = located-named (lookup-at disc name i e)

-- on a disc that may be used
module _ (disc : List ℕ) (long : is_disc_length (length disc) ≡ true) (good : good_disc disc ≡ true) where
  pub named-lookup : (name : List ℕ) (i : ℕ) → Named disc name i → lookup disc name ≡ Some i
  named-lookup name i n = lookup-is good (named-located (readable disc long good) n)

  pub lookup-no-file : (name : List ℕ) → lookup disc name ≡ None → NoFile disc name
  lookup-no-file name e i n = lookup-none e (named-located (readable disc long good) n)
