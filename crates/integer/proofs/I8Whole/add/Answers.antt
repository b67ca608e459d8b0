-- The law `add_wraps` of Modular at 8 bits.
use Rattle.std.proofs.Common.{w8}
use Rattle.integer.proofs.Modular.{add_wraps}
use Rattle.integer.proofs.I8Whole.add.Goals as goal

pub returns : goal.returns
returns c = add_wraps w8 c.args.self c.args.other c.ranges.self c.ranges.other
