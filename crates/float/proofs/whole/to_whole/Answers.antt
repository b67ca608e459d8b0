-- The whole number, by what `decode` makes of the value and by its exponent. Assumes nothing.
use Rattle.float.proofs.Values.{finite, whole-finite, whole-infinite, whole-large, whole_nan}
use Rattle.float.proofs.whole.to_whole.Goals as goal

pub returns-in-NotANumber : goal.returns-in-NotANumber
returns-in-NotANumber c = whole_nan c.args.x c.decode.ensures c.args.rounding c.args.max c.in-NotANumber.is

pub returns-in-Infinite : goal.returns-in-Infinite
returns-in-Infinite c =
    whole-infinite c.args.x c.decode.ensures c.args.rounding c.args.max c.in-Infinite.field-0 c.in-Infinite.is

pub returns-then-exponent-lt-LARGE : goal.returns-then-exponent-lt-LARGE
returns-then-exponent-lt-LARGE c =
    let parts = finite c.args.x c.decode.ensures c.in-Finite.is in
    whole-finite parts c.args.rounding c.args.max c.whole_size.ensures c.in_range.ensures

pub returns-else-exponent-lt-LARGE : goal.returns-else-exponent-lt-LARGE
returns-else-exponent-lt-LARGE c =
    let parts = finite c.args.x c.decode.ensures c.in-Finite.is in
    whole-large parts c.args.rounding c.args.max c.ranges.max.fits c.if-exponent-lt-LARGE.false
