-- The laws of Reduction at 16 bits.
use Rattle.std.proofs.Common.{w16, w64, rules}
use Rattle.integer.proofs.Reduction.{reduce-reads}
use Rattle.integer.proofs.I16Whole.reduce.Goals as goal

pub returns : goal.returns
returns c = reduce-reads w16 w64 (search rules) c.args.z c.ranges.z c.from_bits.ensures
