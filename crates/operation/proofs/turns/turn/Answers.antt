-- Behind the tests, the turn of a slot that runs, if the output has room for it.
use Rattle.std.proofs.lemmas.Result.{err_from_is_err_and}
use Rattle.std.specs.Prelude.{Ok}
use mathlib.Core.Path.{sym, ap, ◌∙◌}
use native.Mathlib.Omega.{arith}
use borrow.Author.Tests.{le-leb, le-ltb, lt-ltb}
use lib.ListN.{length}
use Rattle.machine.specs.Answer.{answer}
use Rattle.machine.specs.Limits.{slot_count, turn_room}
use Rattle.machine.specs.Refusals.{MayTurn}
use Rattle.machine.proofs.Demands.Rounds.{turn-not-running, turn-running}
use Rattle.machine.proofs.Demands.TurnCalls.{prints-little}
use Rattle.turn.specs.Turns.{TurnLeft}
use Rattle.turn.proofs.Passing.{area-size}
use Rattle.operation.specs.Answers.{answered, lent}
use Rattle.operation.proofs.FirstTests.{first-passed, first-refused, first_short}
use Rattle.operation.proofs.turns.turn.Goals as goal
use Rattle.operation.proofs.turns.turn.Goals.{then-at-ge-SLOT_COUNT-via-then-at-ge-SLOT_COUNT}
use Rattle.operation.proofs.turns.turn.Goals.{then-at-ge-SLOT_COUNT-via-else-at-ge-SLOT_COUNT+then-not-is_running}

pub returns-in_err-check : goal.returns-in_err-check
unfolding answer
returns-in_err-check c =
    let p = err_from_is_err_and c.from_residual.result c.from_residual.ensures.1 in
    rw (p.1, p.2) (first-refused _ _ c.in_err-check.ensures _ _)

pub returns-then-out-lt-TURN_ROOM : goal.returns-then-out-lt-TURN_ROOM
unfolding answer
returns-then-out-lt-TURN_ROOM c =
    first_short _ _ c.in_ok-check.ensures _ turn_room _ c.if-out-lt-TURN_ROOM.true

pub returns-then-at-ge-SLOT_COUNT : goal.returns-then-at-ge-SLOT_COUNT
unfolding answer
returns-then-at-ge-SLOT_COUNT c =
    let a = c.args in
    let p = first-passed _ _ c.in_ok-check.ensures in
    let r = le-leb turn_room (length a.out.now) c.if-out-lt-TURN_ROOM.false in
    elim c.then-at-ge-SLOT_COUNT.branch [
      | then-at-ge-SLOT_COUNT-via-then-at-ge-SLOT_COUNT w ↦
          rw (p.sizes, p.disc-good, p.area-good, r, le-ltb _ slot_count w.if-at-ge-SLOT_COUNT.true)
      | then-at-ge-SLOT_COUNT-via-else-at-ge-SLOT_COUNT+then-not-is_running w ↦
          sym (turn-not-running (lent a.disc.now a.area.now a.out.now) a.slot a.clock p r
          (lt-ltb a.slot slot_count w.if-at-ge-SLOT_COUNT.false) (sym w.is_running.ensures ∙ w.if-not-is_running.true))
    ]

pub is_running-requires : goal.is_running-requires
is_running-requires c =
    (area-size (first-passed _ _ c.in_ok-check.ensures), omega (arith, c.if-at-ge-SLOT_COUNT.false))

pub turn_slot-requires : goal.turn_slot-requires
turn_slot-requires c = (
  first-passed _ _ c.in_ok-check.ensures,
  c.if-at-ge-SLOT_COUNT.false,
  c.if-out-lt-TURN_ROOM.false,
  sym c.is_running.ensures ∙ c.if-not-is_running.false,
)

pub overflow_cast-result : goal.overflow_cast-result
overflow_cast-result c =
    let a = c.args in
    let size = ap (λ (l : TurnLeft). l.count) c.turn_slot.ensures in
    let may : MayTurn (lent a.disc.now a.area.now a.out.now) a.slot =
    record {
      passes = first-passed _ _ c.in_ok-check.ensures;
      room = le-leb turn_room (length a.out.now) c.if-out-lt-TURN_ROOM.false;
      low = lt-ltb a.slot slot_count c.if-at-ge-SLOT_COUNT.false;
      running = sym c.is_running.ensures ∙ c.if-not-is_running.false;
    } in
    omega (arith, prints-little (lent a.disc.now a.area.now a.out.now) a.slot a.clock may)

pub returns : goal.returns
returns c =
    let a = c.args in
    let left = c.turn_slot.ensures in
    let p = first-passed _ _ c.in_ok-check.ensures in
    let r = le-leb turn_room (length a.out.now) c.if-out-lt-TURN_ROOM.false in
    let low = lt-ltb a.slot slot_count c.if-at-ge-SLOT_COUNT.false in
    (λ i. answered (Ok (left i).count) (left i).disc (left i).area (left i).out)
    ∙ sym (turn-running (lent a.disc.now a.area.now a.out.now) a.slot a.clock p r low
    (sym c.is_running.ensures ∙ c.if-not-is_running.false))
