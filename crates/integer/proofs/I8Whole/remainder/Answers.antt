-- The law of Division on the remainder at 8 bits.
use Rattle.std.proofs.Common.{w8}
use Rattle.integer.proofs.Division.{remainder-reads}
use Rattle.integer.proofs.I8Whole.remainder.Goals as goal

pub returns : goal.returns
returns c = remainder-reads w8 c.args.self c.ranges.self c.args.divisor c.ranges.divisor c.wrapping_rem.ensures
