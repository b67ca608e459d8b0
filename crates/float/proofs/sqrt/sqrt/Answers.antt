-- The root by what `decode` makes of the value: NaN, infinite, zero, negative, positive. Assumes nothing.
use Rattle.std.proofs.Common.{◌∙◌, subst}
use Rattle.float.specs.Decode.{IsDecoded}
use Rattle.float.proofs.RootCases.{finite-negative, finite-positive, finite-zero, root-infinite, root-minus-infinite, root-nan}
use Rattle.float.proofs.Values.{finite}
use Rattle.float.proofs.sqrt.sqrt.Goals as goal

pub returns-in-NotANumber : goal.returns-in-NotANumber
returns-in-NotANumber c = root-nan c.args.x (subst (IsDecoded c.args.x) c.in-NotANumber.is c.decode.ensures)

pub returns-then-negative : goal.returns-then-negative
unfolding lib.Ieee.of_bits
returns-then-negative c =
    let g = c.in-Infinite in
    root-minus-infinite c.args.x g.negative (subst (IsDecoded c.args.x) g.is c.decode.ensures) c.if-negative.true

pub returns-else-negative : goal.returns-else-negative
returns-else-negative c =
    let g = c.in-Infinite in
    root-infinite c.args.x g.negative (subst (IsDecoded c.args.x) g.is c.decode.ensures) c.if-negative.false

pub returns-then-significand-eq0 : goal.returns-then-significand-eq0
returns-then-significand-eq0 c =
    finite-zero (finite c.args.x c.decode.ensures c.in-Finite.is) c.if-significand-eq0.true

pub returns-then-negative-2 : goal.returns-then-negative-2
unfolding lib.Ieee.of_bits
returns-then-negative-2 c =
    let parts = finite c.args.x c.decode.ensures c.in-Finite.is in
    finite-negative parts c.if-significand-eq0.false c.if-negative-2.true

pub returns-else-negative-2 : goal.returns-else-negative-2
returns-else-negative-2 c =
    let parts = finite c.args.x c.decode.ensures c.in-Finite.is in
    c.positive_root.ensures ∙ finite-positive parts c.if-significand-eq0.false c.if-negative-2.false
