-- A shift by 64 or more leaves no digit. Assumes nothing.
use Rattle.float.proofs.Fractions.{no-digit-left}
use Rattle.float.proofs.quotient.cut.Goals as goal

pub returns-then-s-ge64 : goal.returns-then-s-ge64
returns-then-s-ge64 c = no-digit-left c.args.a c.args.s 64 c.ranges.a.fits c.if-s-ge64.true
