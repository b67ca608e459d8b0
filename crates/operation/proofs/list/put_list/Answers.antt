-- The next line is laid behind those before.
use Prim.Native.Nat.{ℕ, ◌≤◌}
use mathlib.Core.Path.{ap}
use mathlib.Core.List.{List}
use native.Mathlib.Omega.{arith}
use lib.ListN.{length}
use Rattle.buffer.proofs.Lines.{lines, written_all, written_next, written_none, written-room}
use Rattle.machine.specs.Area.{kernel_of, process_of}
use Rattle.machine.specs.Operations.{list_text}
use Rattle.machine.specs.Limits.{slot_count}
use Rattle.area.specs.Parts.{process_in}
use Rattle.operation.specs.Lines.{line_of}
use Rattle.operation.proofs.Lines.{live-lines}
use Rattle.operation.proofs.list.put_list.Goals as goal

-- the output has room for the lines of all slots
roomy : (area out : List ℕ) → length (list_text (kernel_of area)) ≤ length out
    → length (lines line_of (process_in area) slot_count) ≤ length out
roomy area out h = omega (arith, ap length (live-lines area))

pub loop-slot-init : goal.loop-slot-init
loop-slot-init c = written_none _ _ _ _

pub put_line-at-requires : goal.put_line-at-requires
put_line-at-requires c =
    let room = roomy c.args.area.now c.args.out.now c.requires.area_in_bounds in
    record {
      bytes_len = c.record_at.ensures.1;
      bytes_in_bounds = written-room _ _ _ _ room c.loop-slot.invariant (omega arith) (ap process_of c.record_at.ensures.0);
    }

pub loop-slot-preserved : goal.loop-slot-preserved
loop-slot-preserved c =
    let room = roomy c.args.area.now c.args.out.now c.requires.area_in_bounds in
    written_next _ _ _ _ room c.loop-slot.invariant (omega arith) (ap process_of c.record_at.ensures.0) c.put_line-at.ensures

pub returns : goal.returns
returns c = rw (live-lines c.args.area.now) at (written_all _ _ _ _ c.loop-slot.invariant (omega arith))
