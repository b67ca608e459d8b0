-- By the type, as `good_size` has it.
use Prim.Native.Nat.{ℕ}
use mathlib.Core.Bool.{◌&&◌, ◌||◌}
use mathlib.Core.Path.{◌≡◌}
use native.Mathlib.Omega.{arith}
use lib.Dec.{eqb, leb}
use Rattle.variable.specs.Good.{good_size}
use Rattle.variable.specs.Limits.{max_string}
use Rattle.validation.proofs.good.variables.is_good_size.Goals as goal

-- the same test where strings have the same limit
limited : (kind size limit : ℕ) → limit ≡ max_string
    → (eqb kind 1 && eqb size 1)
    || ((eqb kind 2 && eqb size 2) || ((eqb kind 4 && eqb size 4) || (eqb kind 3 && (leb 1 size && leb size limit))))
    ≡ good_size kind size
unfolding good_size
limited kind size limit e = rw e

pub returns : goal.returns
returns c = limited c.args.kind c.args.size _ (omega arith)
