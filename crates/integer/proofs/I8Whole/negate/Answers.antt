-- The law of Division on negation at 8 bits.
use Rattle.std.proofs.Common.{w8}
use Rattle.integer.proofs.Division.{negate-reads}
use Rattle.integer.proofs.I8Whole.negate.Goals as goal

pub returns : goal.returns
returns c = negate-reads w8 c.args.self c.ranges.self c.wrapping_neg.ensures
