-- What is printed, by what `decode` makes of the value and by its exponent. Assumes nothing.
use Rattle.float.proofs.Values.{finite, printed-infinite, printed-minus, printed-nan, printed-overflow, printed-plus}
use Rattle.float.proofs.print.to_printed.Goals as goal

pub returns-in-NotANumber : goal.returns-in-NotANumber
returns-in-NotANumber c = printed-nan c.args.x c.decode.ensures c.in-NotANumber.is

pub returns-in-Infinite : goal.returns-in-Infinite
returns-in-Infinite c = printed-infinite c.args.x c.decode.ensures c.in-Infinite.negative c.in-Infinite.is

pub returns-then-negative : goal.returns-then-negative
returns-then-negative c =
    let parts = finite c.args.x c.decode.ensures c.in-Finite.is in
    printed-minus parts c.if-exponent-lt-LARGE.true c.if-negative.true c.whole_size-hundredths.ensures

pub returns-else-negative : goal.returns-else-negative
returns-else-negative c =
    let parts = finite c.args.x c.decode.ensures c.in-Finite.is in
    printed-plus parts c.if-exponent-lt-LARGE.true c.if-negative.false c.whole_size-hundredths.ensures

pub returns-else-exponent-lt-LARGE : goal.returns-else-exponent-lt-LARGE
returns-else-exponent-lt-LARGE c =
    printed-overflow (finite c.args.x c.decode.ensures c.in-Finite.is) c.if-exponent-lt-LARGE.false
