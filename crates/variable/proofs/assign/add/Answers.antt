-- The value's bytes, behind them the entry, behind it the count: the variables with the new one.
use native.Mathlib.Omega.{arith}
use Rattle.variable.specs.Bytes.{variables_of}
use Rattle.variable.proofs.Adding.{added-written}
use Rattle.variable.proofs.Bytes.{decoded-shaped}
use Rattle.variable.proofs.assign.add.Goals as goal

pub returns : goal.returns
returns c =
    let bytes = c.args.variables.now in
    added-written (variables_of bytes) (decoded-shaped bytes (omega arith)) c.args.e c.args.bytes.now c.count_of-used.ensures
    c.requires.2 c.put_memory.ensures c.put_entry.ensures c.put_count.ensures
