-- The root of a number that is not negative is no larger, so it fits.
use Rattle.std.proofs.Common.{ap, ◌∙◌, rules}
use Rattle.operator.specs.Unary.{whole_square_root}
use Rattle.operator.proofs.OneOperand.{root-fits, root-given}
use Rattle.operator.proofs.unary.whole_root_of.Goals as goal

pub overflow_cast-whole_root : goal.overflow_cast-whole_root
overflow_cast-whole_root g c =
    root-fits g.T.Whole.width g.T.WholeNumber.number c.exact-z.result c.exact-z.ensures.bound (search rules) c.if-z-lt0.false
    c.whole_root.ensures

pub returns : goal.returns
returns g c =
    root-given g.T.Whole.width g.T.WholeNumber.number c.exact-z.result c.exact-z.ensures.bound (search rules) c.if-z-lt0.false
    c.whole_root.ensures
    c.reduce.ensures c.number.ensures
    ∙ ap (whole_square_root g.T.WholeNumber.number) c.exact-z.ensures.value
