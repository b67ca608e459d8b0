-- The part from a place to 64 bytes behind it is a record's.
use native.Mathlib.Omega.{arith}
use Rattle.buffer.proofs.Parts.{part_length, part-to}
use Rattle.machine.specs.Limits.{record_size}
use Rattle.area.specs.Parts.{record_at}
use Rattle.area.proofs.records.record_at.Goals as goal

pub returns : goal.returns
returns c =
    let a = c.args in
    let at = record_at a.slot in
    let e = part-to a.area.now at record_size in
    (e, rw e (part_length a.area.now at record_size (omega arith)))
