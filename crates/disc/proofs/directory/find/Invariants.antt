-- The loop: none of the first i entries has the name.
use Prim.Native.Nat.{ℕ, ◌<◌}
use mathlib.Core.Path.{◌≡◌}
use mathlib.Core.Bool.{false}
use Rattle.disc.specs.Directory.{entry_at, named}
use Rattle.disc.proofs.directory.find.Given as goal

abbrev pub invariant-loop-i : goal.invariant-loop-i
invariant-loop-i l = (k : ℕ) → k < l.i → named l.name (entry_at l.disc k) ≡ false
