-- The law of Division on the quotient at 8 bits.
use Rattle.std.proofs.Common.{w8}
use Rattle.integer.proofs.Division.{quotient-reads}
use Rattle.integer.proofs.I8Whole.quotient.Goals as goal

pub returns : goal.returns
returns c = quotient-reads w8 c.args.self c.ranges.self c.args.divisor c.ranges.divisor c.wrapping_div.ensures
