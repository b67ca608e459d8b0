-- The law of the range, at the type's width.
use Rattle.std.proofs.Common.{ℕ, ap, ◌∙◌, rules}
use Rattle.float.specs.Whole.{whole_of}
use Rattle.operator.proofs.OneOperand.{narrowed}
use Rattle.operator.proofs.unary.float_to_whole.Goals as goal

pub returns : goal.returns
returns g c =
    let whole = c.to_whole.ensures ∙ ap (λ (max : ℕ). whole_of c.args.rounding max c.args.x) c.MAX.ensures in
    narrowed g.T.Whole.width g.met.T.Whole.max_fits c.args.rounding c.args.x whole g.T.WholeNumber.number c.in_ok-z.z
    c.in_ok-z.ensures.ok_part (search rules) c.reduce.ensures c.number.ensures
