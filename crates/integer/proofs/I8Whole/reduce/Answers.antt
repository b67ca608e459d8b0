-- The laws of Reduction at 8 bits.
use Rattle.std.proofs.Common.{w8, w64, rules}
use Rattle.integer.proofs.Reduction.{reduce-reads}
use Rattle.integer.proofs.I8Whole.reduce.Goals as goal

pub returns : goal.returns
returns c = reduce-reads w8 w64 (search rules) c.args.z c.ranges.z c.from_bits.ensures
