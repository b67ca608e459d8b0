-- The law `subtract-wraps` of Modular at 8 bits.
use Rattle.std.proofs.Common.{w8}
use Rattle.integer.proofs.Modular.{subtract-wraps}
use Rattle.integer.proofs.I8Whole.subtract.Goals as goal

pub returns : goal.returns
returns c = subtract-wraps w8 c.args.self c.args.other c.ranges.self c.ranges.other
