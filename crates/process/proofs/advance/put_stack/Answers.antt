-- The head is laid above what is kept, behind it the tail, behind that zeros.
use Prim.Native.Nat.{◌+◌, ◌-◌}
use native.Mathlib.Omega.{arith}
use lib.ListN.{length}
use Rattle.buffer.specs.Buffer.{zeros}
use Rattle.machine.specs.Area.{stack_at}
use Rattle.machine.specs.Limits.{stack_size}
use Rattle.area.specs.Parts.{record_at}
use Rattle.buffer.proofs.Runs.{three-laid}
use Rattle.process.proofs.advance.put_stack.Goals as goal

pub returns : goal.returns
returns c =
    let a = c.args in
    let bottom = record_at a.slot + stack_at in
    let middle = a.kept + length a.head.now in
    let sp = middle + length a.tail.now in
    three-laid a.area.now a.head.now a.tail.now (zeros (stack_size - sp)) (bottom + a.kept) (bottom + middle) (bottom + sp)
    (omega arith) (omega arith) (omega arith) c.overwrite_at.new.dst c.overwrite_at-2.new.dst c.zero_at.new.dst
    c.overwrite_at.ensures c.overwrite_at-2.ensures c.zero_at.ensures
