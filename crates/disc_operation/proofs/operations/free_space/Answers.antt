-- `operations::free_space` meets its contract: behind the tests of the disc, the room that it has.
use mathlib.Core.Path.{sym, ap, ◌∙◌}
use native.Mathlib.Omega.{arith}
use lib.IntN.{pos}
use Rattle.std.proofs.lemmas.Result.{err_from_is_err_and}
use Rattle.store.specs.Answer.{free_space_answer}
use Rattle.store.proofs.Rooms.{room-on-is, room-on-small}
use Rattle.disc_operation.proofs.Checks.{usable}
use Rattle.disc_operation.proofs.operations.free_space.Goals as goal

pub returns-in_err-check : goal.returns-in_err-check
unfolding free_space_answer
returns-in_err-check c =
    let p = err_from_is_err_and c.from_residual.result c.from_residual.ensures.1 in rw (p.1, p.2, sym c.in_err-check.ensures)

pub room_on-requires : goal.room_on-requires
room_on-requires c = (usable c.args.disc.now (sym c.in_ok-check.ensures)).ready

pub overflow_cast-result : goal.overflow_cast-result
overflow_cast-result c =
    let d = c.args.disc.now in
    omega (arith, c.room_on.ensures, room-on-small d, (usable d (sym c.in_ok-check.ensures)).ready.high)

pub returns : goal.returns
unfolding free_space_answer
returns c = rw (sym c.in_ok-check.ensures) (ap pos (c.room_on.ensures ∙ room-on-is c.args.disc.now))
