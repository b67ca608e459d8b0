-- The three parts stand one behind the other, with zeros behind them.
use Rattle.std.proofs.Common.{arith}
use Rattle.number.proofs.Texts.{full, text-first, zeros-behind}
use Rattle.number.proofs.text.join.Goals as goal

pub invariant_of-result : goal.invariant_of-result
invariant_of-result c =
    let a = c.args in (
      omega arith,
      full a.head.now a.body.now a.tail.now
          c.overwrite_at.ensures c.overwrite_at-2.ensures c.overwrite_at-3.ensures (omega arith),
      zeros-behind a.head.now a.body.now a.tail.now
          c.overwrite_at.ensures c.overwrite_at-2.ensures c.overwrite_at-3.ensures,
    )

pub returns : goal.returns
returns c =
    let a = c.args in
    text-first a.head.now a.body.now a.tail.now
    c.overwrite_at.ensures c.overwrite_at-2.ensures c.overwrite_at-3.ensures
