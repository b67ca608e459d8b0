-- A turn has a shift left, and the radicand grows up to 2^48. Assumes nothing.
use Rattle.float.proofs.Scaling.{shift-left, start, turn}
use Rattle.float.proofs.sqrt.scale.Goals as goal

pub loop-radicand-init : goal.loop-radicand-init
loop-radicand-init c = start c.args.significand c.args.exponent c.requires

pub overflow_sub-shift-in-loop-radicand : goal.overflow_sub-shift-in-loop-radicand
overflow_sub-shift-in-loop-radicand c =
    let l = c.loop-radicand in
    shift-left c.args.significand c.args.exponent c.requires l.radicand l.shift l.invariant c.loop-radicand-test.true

pub loop-radicand-preserved : goal.loop-radicand-preserved
loop-radicand-preserved c =
    let a = c.args in
    let l = c.loop-radicand in
    turn a.significand a.exponent c.requires l.radicand l.shift l.invariant c.loop-radicand-test.true
    (shift-left a.significand a.exponent c.requires l.radicand l.shift l.invariant c.loop-radicand-test.true)
