-- Behind the tests, the slot that the search found.
use Rattle.std.proofs.lemmas.Result.{err_from_is_err_and}
use mathlib.Core.Path.{sym}
use Rattle.operation.proofs.FirstTests.{first-passed}
use Rattle.turn.proofs.Passing.{area-size}
use Rattle.operation.proofs.commands.live_slot.Goals as goal

pub returns-in_err-check : goal.returns-in_err-check
returns-in_err-check c =
    let p = err_from_is_err_and c.from_residual.result c.from_residual.ensures.1 in rw (p.1, p.2, sym c.in_err-check.ensures)

pub slot_of-requires : goal.slot_of-requires
slot_of-requires c = area-size (first-passed c.args.disc.now c.args.area.now c.in_ok-check.ensures)

pub returns : goal.returns
returns c = rw (c.ok_or.ensures.value, sym c.in_ok-check.ensures, c.slot_of.ensures)
