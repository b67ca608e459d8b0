-- The loop: the first i bytes are moved.
use Prim.Native.Nat.{◌+◌, ◌≤◌}
use mathlib.Core.Path.{◌≡◌}
use lib.ListN.{length}
use lib.Seq.{paste}
use Rattle.buffer.specs.Buffer.{part}
use Rattle.disc.specs.Layout.{entry_size}
use Rattle.store.proofs.file.move_up.Given as goal

abbrev pub invariant-loop-i : goal.invariant-loop-i
invariant-loop-i l = (l.i ≤ l.n) × (length l.disc ≡ length l.initial.disc)
    × (l.disc ≡ paste l.initial.disc l.at (part l.initial.disc (l.at + entry_size) l.n) l.i)
