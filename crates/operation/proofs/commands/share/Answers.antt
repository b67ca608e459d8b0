-- A share from 1 to 8 is put into the record of the process.
use Rattle.std.specs.Prelude.{Ok}
use Rattle.std.proofs.lemmas.Result.{err_from_is_err_and}
use Prim.Native.Nat.{ℕ}
use mathlib.Core.Path.{refl, ap, ◌∙◌}
use mathlib.Core.List.{List}
use native.Mathlib.Omega.{arith}
use borrow.Author.Tests.{le-leb, lt-leb}
use Rattle.machine.specs.Answer.{answer}
use Rattle.machine.specs.Area.{kernel_bytes, kernel_of}
use Rattle.machine.specs.Limits.{max_share}
use Rattle.machine.specs.Operations.{share_at, shared}
use Rattle.machine.specs.State.{with_process, with_share}
use Rattle.machine.specs.declared.Process.{Process}
use Rattle.operation.specs.Answers.{answered}
use Rattle.turn.proofs.Passing.{area-size}
use Rattle.operation.proofs.Commanding.{behind, found, not-found}
use Rattle.operation.proofs.commands.share.Goals as goal
use Rattle.operation.proofs.commands.share.Goals.{then-turns-lt1-via-then-turns-lt1, then-turns-lt1-via-else-turns-lt1+then-turns}

pub returns-in_err-slot : goal.returns-in_err-slot
unfolding answer shared
returns-in_err-slot c out =
    let p = err_from_is_err_and c.from_residual.result c.from_residual.ensures.1 in
    rw (p.1, p.2)
    (not-found c.args.disc.now c.args.area.now c.args.id out (λ f. share_at f c.args.turns (kernel_of c.args.area.now)) refl
    c.in_err-slot.ensures)

pub returns-then-turns-lt1 : goal.returns-then-turns-lt1
unfolding answer shared
returns-then-turns-lt1 c out =
    let a = c.args in
    behind a.disc.now a.area.now a.id out (λ f. share_at f a.turns (kernel_of a.area.now))
    (found a.disc.now a.area.now a.id c.in_ok-slot.ensures)
    (elim c.then-turns-lt1.branch [
      | then-turns-lt1-via-then-turns-lt1 w ↦ rw (lt-leb 1 _ w.if-turns-lt1.true)
      | then-turns-lt1-via-else-turns-lt1+then-turns w ↦
          rw (le-leb 1 a.turns (omega (arith, w.if-turns-lt1.false)), lt-leb _ max_share w.if-turns.true)
    ])

pub process_at-p-requires : goal.process_at-p-requires
process_at-p-requires c =
    let f = found c.args.disc.now c.args.area.now c.args.id c.in_ok-slot.ensures in
    record { area_len = area-size f.passes; slot_lt_slot_count = f.low }

pub put_back-requires : goal.put_back-requires
put_back-requires c =
    let f = found c.args.disc.now c.args.area.now c.args.id c.in_ok-slot.ensures in (area-size f.passes, f.low)

pub returns : goal.returns
unfolding answer shared
returns c out =
    let a = c.args in
    let k = kernel_of a.area.now in
    let low = le-leb 1 a.turns (omega (arith, c.if-turns-lt1.false)) in
    let high = le-leb a.turns max_share (omega (arith, c.if-turns.false)) in
    behind a.disc.now a.area.now a.id out (λ f. share_at f a.turns k) (found a.disc.now a.area.now a.id c.in_ok-slot.ensures)
    (rw (low, high)
    (ap (λ (l : List ℕ). answered (Ok 0) a.disc.now l out)
    (c.put_back.ensures
    ∙ ap (λ (q : Process). kernel_bytes (with_process k c.in_ok-slot.slot (with_share q a.turns))) c.process_at-p.ensures)))
