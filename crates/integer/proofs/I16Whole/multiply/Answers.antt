-- The law `multiply-wraps` of Modular at 16 bits.
use Rattle.std.proofs.Common.{w16}
use Rattle.integer.proofs.Modular.{multiply-wraps}
use Rattle.integer.proofs.I16Whole.multiply.Goals as goal

pub returns : goal.returns
returns c = multiply-wraps w16 c.args.self c.args.other c.ranges.self c.ranges.other
