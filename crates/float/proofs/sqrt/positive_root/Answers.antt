-- The root has 25 digits, and its half, rounded up, 24. Assumes nothing.
use Rattle.std.proofs.Common.{◌∙◌, arith}
use Rattle.root.proofs.Squares.{met-root}
use Rattle.float.proofs.RoundedRoot.{half-24, root-25, root-bits}
use Rattle.float.proofs.sqrt.positive_root.Goals as goal

pub overflow_add-rounded : goal.overflow_add-rounded
overflow_add-rounded c =
    let a = c.args in
    let z = c.scale-scaled in
    let i = met-root c.whole_root.ensures in
    omega (arith, (root-25 a.significand a.exponent z.result.radicand z.result.shift c.whole_root.result z.ensures i).1)

pub overflow_cast-shift : goal.overflow_cast-shift
overflow_cast-shift c =
    let a = c.args in
    let z = c.scale-scaled in
    let i = met-root c.whole_root.ensures in
    omega (
      arith,
      (half-24 a.significand a.exponent z.result.radicand z.result.shift c.whole_root.result z.ensures i).1,
      z.ensures.near,
    )

pub returns : goal.returns
returns c =
    let a = c.args in
    let z = c.scale-scaled in
    let i = met-root c.whole_root.ensures in
    c.from_bits.ensures
    ∙ root-bits a.significand a.exponent z.result.radicand z.result.shift c.whole_root.result z.ensures i
