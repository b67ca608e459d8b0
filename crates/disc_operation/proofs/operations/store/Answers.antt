-- `operations::store` meets its contract: behind the tests of the disc and of the file, it is entered and written.
use Rattle.std.specs.Prelude.{Ok}
use mathlib.Core.Path.{◌≡◌, sym, ap}
use native.Mathlib.Omega.{arith}
use lib.ListN.{length}
use Rattle.std.proofs.lemmas.Result.{err_from_is_err_and}
use Rattle.store.specs.Answer.{store_answer, updated}
use Rattle.store.specs.File.{stored}
use Rattle.store.proofs.Admissions.{admitted}
use Rattle.store.proofs.Invariant.{admitted-small, room}
use Rattle.disc_operation.proofs.Checks.{usable}
use Rattle.disc_operation.proofs.operations.store.Goals as goal

pub returns-in_err-check : goal.returns-in_err-check
unfolding store_answer
returns-in_err-check c =
    let p = err_from_is_err_and c.from_residual.result c.from_residual.ensures.1 in rw (p.1, p.2, sym c.in_err-check.ensures)

pub admit-requires : goal.admit-requires
admit-requires c = (usable c.args.disc.now (sym c.in_ok-check.ensures)).ready

pub returns-in_err-start : goal.returns-in_err-start
unfolding store_answer
returns-in_err-start c =
    let p = err_from_is_err_and c.from_residual-in_err-start.result c.from_residual-in_err-start.ensures.1 in
    rw (p.1, p.2, sym c.in_ok-check.ensures, sym c.in_err-start.ensures)

pub enter-requires : goal.enter-requires
enter-requires c =
    let a = c.args in
    let e = admitted a.disc.now a.name.now (length a.«data».now) c.in_ok-start.start (sym c.in_ok-start.ensures) in
    let r = (usable a.disc.now (sym c.in_ok-check.ensures)).ready in
    let small = admitted-small e r.high in
    record { readable = r; disc_bound = (e.few, (room e).short, small.1, small.0) }

pub overflow_cast-run : goal.overflow_cast-run
overflow_cast-run c =
    let a = c.args in
    let e = admitted a.disc.now a.name.now (length a.«data».now) c.in_ok-start.start (sym c.in_ok-start.ensures) in
    omega (arith, (admitted-small e (usable a.disc.now (sym c.in_ok-check.ensures)).ready.high).0)

pub overflow_cast-run-2 : goal.overflow_cast-run-2
overflow_cast-run-2 c =
    let a = c.args in
    let e = admitted a.disc.now a.name.now (length a.«data».now) c.in_ok-start.start (sym c.in_ok-start.ensures) in
    omega (arith, (admitted-small e (usable a.disc.now (sym c.in_ok-check.ensures)).ready.high).1)

pub write_at-requires : goal.write_at-requires
write_at-requires c =
    let a = c.args in
    let e = admitted a.disc.now a.name.now (length a.«data».now) c.in_ok-start.start (sym c.in_ok-start.ensures) in
    (omega arith, omega (arith, e.placed.high))

pub returns : goal.returns
unfolding store_answer
returns c =
    let a = c.args in
    let left : c.write_at.new.disc ≡ stored a.disc.now a.name.now a.«data».now c.in_ok-start.start =
    rw (← c.enter.ensures) c.write_at.ensures in
    rw (sym c.in_ok-check.ensures, sym c.in_ok-start.ensures) (ap (updated (Ok 0)) left)
