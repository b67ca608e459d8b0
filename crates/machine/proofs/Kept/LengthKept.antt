-- No kind of change changes the disc's length.
use Prim.Native.Nat.{ℕ}
use mathlib.Core.Path.{◌≡◌, ap, ◌∙◌}
use mathlib.Core.List.{List}
use lib.ListN.{length}
use Rattle.store.proofs.Changes.{erased-length, written-length}
use Rattle.store.proofs.Effects.{stored-length}
use Rattle.store.proofs.Invariant.{present}
use Rattle.machine.specs.declared.Kernel.{Kernel}
use Rattle.machine.proofs.Changes.Change.{Change, GoodState, Outside, acts, begins, erases, nothing, stores, writes}
use Rattle.machine.proofs.Kept.WritesKept.{write-inside}

module _ {name : List ℕ} {k : Kernel} {disc : List ℕ} {j : Kernel} {after : List ℕ} (g : GoodState k disc) where
  pub outside-length : Outside name k disc j after → length after ≡ length disc
  outside-length (nothing e f) = ap length f
  outside-length (stores title bytes s a e f) = ap length f ∙ stored-length bytes g.sound a
  outside-length (erases i h unused e f) = ap length f ∙ erased-length (present disc g.sound i h)
  outside-length (begins slot e s x f) = ap length f

pub change-length : {name : List ℕ} {w : ℕ} {k : Kernel} {disc : List ℕ} {j : Kernel} {after : List ℕ} → GoodState k disc
    → Change name w k disc j after → length after ≡ length disc
change-length g (acts m o still x) = outside-length g o
change-length g (writes x) = ap length x.disc-after ∙ written-length x.bytes (write-inside g x)
