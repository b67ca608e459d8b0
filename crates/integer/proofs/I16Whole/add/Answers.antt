-- The law `add_wraps` of Modular at 16 bits.
use Rattle.std.proofs.Common.{w16}
use Rattle.integer.proofs.Modular.{add_wraps}
use Rattle.integer.proofs.I16Whole.add.Goals as goal

pub returns : goal.returns
returns c = add_wraps w16 c.args.self c.args.other c.ranges.self c.ranges.other
