-- The fields of the entry's six bytes.
use Prim.Native.Nat.{◌+◌, ◌*◌}
use native.Mathlib.Omega.{arith}
use Rattle.buffer.proofs.Parts.{part-to}
use Rattle.variable.specs.Limits.{entries_at, entry_size}
use Rattle.variable.proofs.Bytes.{entry_read}
use Rattle.variable.proofs.table.entry_at.Goals as goal

pub returns : goal.returns
returns c =
    let a = c.args in
    let e = part-to a.variables.now (entries_at + a.i * entry_size) entry_size in
    rw (entry_read a.variables.now a.i (omega arith)) (cc)
