-- The law of Division on negation at 16 bits.
use Rattle.std.proofs.Common.{w16}
use Rattle.integer.proofs.Division.{negate-reads}
use Rattle.integer.proofs.I16Whole.negate.Goals as goal

pub returns : goal.returns
returns c = negate-reads w16 c.args.self c.ranges.self c.wrapping_neg.ensures
