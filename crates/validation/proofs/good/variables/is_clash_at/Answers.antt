-- Either number of places is what `reach` says.
use borrow.Author.Tests.{le-leb, lt-leb}
use Rattle.validation.specs.Columns.{few, reach}
use Rattle.validation.proofs.good.variables.is_clash_at.Goals as goal

pub returns-then-left : goal.returns-then-left
unfolding reach
returns-then-left c = rw (le-leb _ few c.if-left.true) c.is_clash.ensures

pub returns : goal.returns
unfolding reach
returns c = rw (lt-leb _ few c.if-left.false) c.is_clash-2.ensures
