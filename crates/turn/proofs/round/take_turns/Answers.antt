-- Share after share of the ten slots, each in the rest of the output.
use native.Mathlib.Omega.{arith}
use lib.ListN.{length-drop, length-take}
use Rattle.machine.specs.Limits.{share_room}
use Rattle.machine.specs.Operations.{share_of_turns, slots}
use Rattle.turn.proofs.Going.{going-all, going-first, going_on, next-short, out-room}
use Rattle.turn.proofs.Rounding.{share-steady, slot_is}
use Rattle.turn.proofs.round.take_turns.Goals as goal

pub loop-slot-init : goal.loop-slot-init
loop-slot-init c =
    going-first share_of_turns share_room slots c.args.clock c.args.disc.now c.args.area.now c.args.out.now c.requires.0
    (λ i. omega (arith, c.type_inv.area i)) c.requires.1

pub take_share-printed-requires : goal.take_share-printed-requires
take_share-printed-requires c =
    let g = c.loop-slot.invariant in
    let low = c.loop-slot-test.true in
    let room = out-room g low in
    (g.passes, low, simp (length-take, length-drop) (omega arith))

pub overflow_add-printed : goal.overflow_add-printed
overflow_add-printed c =
    let g = c.loop-slot.invariant in
    let low = c.loop-slot-test.true in
    let short = next-short g share-steady _ low (slot_is _ low) _ _ _ _ _ c.take_share-printed.ensures in
    omega (arith, g.little, g.few)

pub loop-slot-preserved : goal.loop-slot-preserved
loop-slot-preserved c =
    let low = c.loop-slot-test.true in
    let done = c.take_share-printed in
    going_on c.loop-slot.invariant share-steady c.loop-slot.slot low (slot_is _ low) done.result _ _ _ done.ensures

pub returns : goal.returns
returns c =
    let g = c.loop-slot.invariant in (
      going-all g (omega arith),
      omega (arith, g.few, g.little),
    )
