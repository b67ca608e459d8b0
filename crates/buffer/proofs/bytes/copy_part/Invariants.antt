-- The loop: the first i bytes are copied.
use Prim.Native.Nat.{◌≤◌}
use mathlib.Core.Path.{◌≡◌}
use lib.ListN.{length, take, drop}
use Rattle.buffer.proofs.bytes.copy_part.Given as goal

abbrev pub invariant-loop-i : goal.invariant-loop-i
invariant-loop-i l = (l.i ≤ length l.dst) × (length l.dst ≡ length l.initial.dst) × (take l.i l.dst ≡ take l.i (drop l.at l.src))
