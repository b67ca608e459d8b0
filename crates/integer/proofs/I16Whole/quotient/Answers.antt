-- The law of Division on the quotient at 16 bits.
use Rattle.std.proofs.Common.{w16}
use Rattle.integer.proofs.Division.{quotient-reads}
use Rattle.integer.proofs.I16Whole.quotient.Goals as goal

pub returns : goal.returns
returns c = quotient-reads w16 c.args.self c.ranges.self c.args.divisor c.ranges.divisor c.wrapping_div.ensures
