-- Behind the tests, the turns of all slots, if the output has room for them.
use Rattle.std.proofs.lemmas.Result.{err_from_is_err_and}
use Rattle.std.specs.Prelude.{Ok}
use native.Mathlib.Omega.{arith}
use Rattle.machine.specs.Answer.{answer}
use Rattle.machine.specs.Limits.{round_room}
use Rattle.operation.specs.Answers.{answered}
use Rattle.operation.proofs.FirstTests.{first-passed, first-refused, first-roomy, first_short}
use Rattle.operation.proofs.turns.round.Goals as goal

pub returns-in_err-check : goal.returns-in_err-check
unfolding answer
returns-in_err-check c =
    let p = err_from_is_err_and c.from_residual.result c.from_residual.ensures.1 in
    rw (p.1, p.2) (first-refused _ _ c.in_err-check.ensures _ _)

pub returns-then-out-lt-ROUND_ROOM : goal.returns-then-out-lt-ROUND_ROOM
unfolding answer
returns-then-out-lt-ROUND_ROOM c =
    first_short _ _ c.in_ok-check.ensures _ round_room _ c.if-out-lt-ROUND_ROOM.true

pub take_turns-requires : goal.take_turns-requires
take_turns-requires c = (first-passed _ _ c.in_ok-check.ensures, omega (arith, c.if-out-lt-ROUND_ROOM.false))

pub overflow_cast-result : goal.overflow_cast-result
overflow_cast-result c = omega (arith, c.take_turns.ensures.1)

pub returns : goal.returns
unfolding answer
returns c =
    let left = c.take_turns.ensures.0 in
    first-roomy _ _ c.in_ok-check.ensures _ round_room _ (omega (arith, c.if-out-lt-ROUND_ROOM.false))
    (λ i. answered (Ok (left i).count) (left i).disc (left i).area (left i).out)
