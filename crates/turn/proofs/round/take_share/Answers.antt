-- Turn after turn of one slot's share, each in the rest of the output.
use Prim.Native.Nat.{ℕ, ◌<◌}
use mathlib.Core.Path.{ap, ◌∙◌}
use native.Mathlib.Omega.{arith}
use borrow.Author.Rules.{rules}
use lib.ListN.{length, replicate, get_or-replicate, length-drop, length-replicate, length-take}
use Rattle.machine.specs.Area.{kernel_of}
use Rattle.machine.specs.Limits.{turn_room}
use Rattle.machine.specs.Operations.{in_order, turn_if_running}
use Rattle.turn.specs.Turns.{turn_left_by}
use Rattle.turn.proofs.Passing.{area-size}
use Rattle.turn.proofs.Going.{going-all, going-first, going_on, next-short, out-room}
use Rattle.turn.proofs.Rounding.{due-few, due-share, turn-steady}
use Rattle.turn.proofs.round.take_share.Goals as goal

-- the turns of a slot's share
listed : (slot n : ℕ) {taken : ℕ} → taken < n → taken < length (replicate n slot)
listed slot n h = omega (arith, length-replicate n slot)

pub turns_due-due-requires : goal.turns_due-due-requires
turns_due-due-requires c = (area-size c.requires.0, c.requires.1)

pub loop-taken-init : goal.loop-taken-init
loop-taken-init c =
    let a = c.args in
    let n = c.turns_due-due.result in
    let few = due-few a.slot a.clock a.disc.now a.area.now c.requires.0 in
    going-first turn_if_running turn_room (replicate n a.slot) a.clock a.disc.now a.area.now a.out.now c.requires.0
    (λ i. search rules) (omega (arith, few, c.turns_due-due.ensures, c.requires.2, length-replicate n a.slot))

pub turn_if_running-printed-requires : goal.turn_if_running-printed-requires
turn_if_running-printed-requires c =
    let g = c.loop-taken.invariant in
    let room = out-room g (listed c.args.slot _ c.loop-taken-test.true) in
    (g.passes, c.requires.1, simp (length-take, length-drop) (omega arith))

pub overflow_add-printed : goal.overflow_add-printed
overflow_add-printed c =
    let a = c.args in
    let n = c.turns_due-due.result in
    let h = c.loop-taken-test.true in
    let few = due-few a.slot a.clock a.disc.now a.area.now c.requires.0 in
    let g = c.loop-taken.invariant in
    let here = get_or-replicate n c.loop-taken._taken a.slot 0 h in
    let short = next-short g turn-steady a.slot (listed a.slot n h) here _ _ _ _ _ c.turn_if_running-printed.ensures in
    omega (arith, g.little, few, c.turns_due-due.ensures)

pub loop-taken-preserved : goal.loop-taken-preserved
loop-taken-preserved c =
    let a = c.args in
    let n = c.turns_due-due.result in
    let h = c.loop-taken-test.true in
    let here = get_or-replicate n c.loop-taken._taken a.slot 0 h in
    let done = c.turn_if_running-printed in
    going_on c.loop-taken.invariant turn-steady a.slot (listed a.slot n h) here done.result _ _ _ done.ensures

pub returns : goal.returns
returns c =
    let a = c.args in
    let n = c.turns_due-due.result in
    going-all c.loop-taken.invariant (omega (arith, c.loop-taken-test.false, length-replicate n a.slot))
    ∙ ap (λ (m : ℕ). turn_left_by (in_order turn_if_running (replicate m a.slot) (kernel_of a.area.now) a.clock a.disc.now) a.out.now)
    c.turns_due-due.ensures
    ∙ ap (λ t. turn_left_by t a.out.now) (due-share a.slot a.clock a.disc.now a.area.now)
