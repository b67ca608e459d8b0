-- The law of Division on the remainder at 16 bits.
use Rattle.std.proofs.Common.{w16}
use Rattle.integer.proofs.Division.{remainder-reads}
use Rattle.integer.proofs.I16Whole.remainder.Goals as goal

pub returns : goal.returns
returns c = remainder-reads w16 c.args.self c.ranges.self c.args.divisor c.ranges.divisor c.wrapping_rem.ensures
