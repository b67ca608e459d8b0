-- The size by a shift to the left, or by a division that rounds. Assumes nothing.
use Rattle.std.proofs.Common.{refl, arith}
use Rattle.float.specs.declared.whole.Rounding.TheVariants.{Down, HalfAway, TowardZero, Up}
use Rattle.float.proofs.Values.{size-left, size-right}
use Rattle.float.proofs.whole.whole_size.Goals as goal

pub returns-then-k-ge-UNIT : goal.returns-then-k-ge-UNIT
returns-then-k-ge-UNIT c =
    let a = c.args in
    size-left a.a a.k a.rounding a.negative c.requires.0 c.requires.1 c.if-k-ge-UNIT.true refl

pub returns-in-TowardZero : goal.returns-in-TowardZero
returns-in-TowardZero c =
    let a = c.args in
    size-right a.a a.k a.rounding TowardZero a.negative c.in-TowardZero.is (omega arith) c.divide.ensures

pub returns-in-HalfAway : goal.returns-in-HalfAway
returns-in-HalfAway c =
    let a = c.args in
    size-right a.a a.k a.rounding HalfAway a.negative c.in-HalfAway.is (omega arith) c.nearest.ensures

pub returns-in-Down : goal.returns-in-Down
returns-in-Down c =
    let a = c.args in
    size-right a.a a.k a.rounding Down a.negative c.in-Down.is (omega arith) c.divide-in-Down.ensures

pub returns-in-Up : goal.returns-in-Up
returns-in-Up c =
    let a = c.args in
    size-right a.a a.k a.rounding Up a.negative c.in-Up.is (omega arith) c.divide-in-Up.ensures
