-- The four bytes as the library weighs them are two words.
use Prim.Native.Nat.{◌+◌}
use mathlib.Core.Path.{◌≡◌}
use native.Mathlib.Omega.{arith}
use Rattle.buffer.specs.Buffer.{four_at}
use Rattle.buffer.proofs.bytes.four_at.Goals as goal

pub returns : goal.returns
unfolding four_at
returns c = let last : c.args.at + 2 + 1 ≡ c.args.at + 3 = omega arith in rw (c.from_le_bytes.ensures, last) (omega arith)
