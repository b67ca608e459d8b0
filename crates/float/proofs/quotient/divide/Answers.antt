-- Rounded up, the quotient is one more than that of a - 1. Assumes nothing.
use Rattle.float.proofs.Fractions.{up_more}
use Rattle.float.proofs.quotient.divide.Goals as goal

pub returns-else-a-eq0 : goal.returns-else-a-eq0
returns-else-a-eq0 c =
    let a = c.args in
    up_more a.up a.a a.s c.if-up.true c.if-a-eq0.false c.cut.ensures
