-- OPEN's size, by the whole number that `to_whole` gives. Assumes nothing.
use Rattle.std.proofs.Common.{sym, ◌∙◌, lt_of_le_of_lt, rules}
use Rattle.float.specs.declared.whole.Rounding.TheVariants.{TowardZero}
use Rattle.float.proofs.Sizes.{size-cast, size_none, size-out, size-some, whole-mag}
use Rattle.float.proofs.whole.to_size.Goals as goal

pub overflow_cast-result : goal.overflow_cast-result
overflow_cast-result c =
    let whole = sym c.in_ok-z.was ∙ c.to_whole.ensures in
    size-cast c.in_ok-z.z (search rules) c.if-z-gt0.true
    (lt_of_le_of_lt (whole-mag TowardZero c.args.max c.args.x whole) c.ranges.max.fits)

pub returns-then-z-gt0 : goal.returns-then-z-gt0
returns-then-z-gt0 c =
    size-some c.in_ok-z.z (search rules) c.args.max c.args.x (sym c.in_ok-z.was ∙ c.to_whole.ensures) c.if-z-gt0.true

pub returns-else-z-gt0 : goal.returns-else-z-gt0
returns-else-z-gt0 c =
    size_none c.in_ok-z.z (search rules) c.args.max c.args.x (sym c.in_ok-z.was ∙ c.to_whole.ensures) c.if-z-gt0.false

pub returns-in_err-z : goal.returns-in_err-z
returns-in_err-z c = rw c.from_residual.ensures (size-out c.args.max c.args.x (sym c.in_err-z.was ∙ c.to_whole.ensures))
