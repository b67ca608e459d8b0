-- Where the process has another state its record is put back with that one.
use Rattle.std.specs.Prelude.{Ok}
use Rattle.std.proofs.lemmas.Result.{err_from_is_err_and}
use Prim.Native.Nat.{ℕ}
use mathlib.Core.Path.{◌≡◌, refl, sym, ap, ◌∙◌}
use mathlib.Core.List.{List}
use borrow.Author.Tests.{eq-eqb, ne_eqb}
use Rattle.machine.specs.Area.{kernel_bytes, kernel_of}
use Rattle.machine.specs.State.{process_at, with_process, with_state}
use Rattle.machine.specs.declared.Process.{Process}
use Rattle.operation.specs.Answers.{answered}
use Rattle.operation.specs.Commands.{turned_at}
use Rattle.turn.proofs.Passing.{area-size}
use Rattle.operation.proofs.Commanding.{behind, found, not-found}
use Rattle.operation.proofs.commands.change_state.Goals as goal

pub returns-in_err-slot : goal.returns-in_err-slot
returns-in_err-slot c out =
    let p = err_from_is_err_and c.from_residual.result c.from_residual.ensures.1 in
    rw (p.1, p.2)
    (not-found c.args.disc.now c.args.area.now c.args.id out (λ f. turned_at f c.args.state (kernel_of c.args.area.now)) refl
    c.in_err-slot.ensures)

pub process_at-p-requires : goal.process_at-p-requires
process_at-p-requires c =
    let f = found c.args.disc.now c.args.area.now c.args.id c.in_ok-slot.ensures in
    record { area_len = area-size f.passes; slot_lt_slot_count = f.low }

pub returns-then-p-state : goal.returns-then-p-state
returns-then-p-state c out =
    let a = c.args in
    let same : (process_at (kernel_of a.area.now) c.in_ok-slot.slot).state ≡ a.state =
    ap (λ (p : Process). p.state) (sym c.process_at-p.ensures) ∙ c.if-p-state.true in
    behind a.disc.now a.area.now a.id out (λ f. turned_at f a.state (kernel_of a.area.now))
    (found a.disc.now a.area.now a.id c.in_ok-slot.ensures) (rw (eq-eqb _ _ same))

pub put_back-requires : goal.put_back-requires
put_back-requires c =
    let f = found c.args.disc.now c.args.area.now c.args.id c.in_ok-slot.ensures in (area-size f.passes, f.low)

pub returns : goal.returns
returns c out =
    let a = c.args in
    let k = kernel_of a.area.now in
    let read : (process_at k c.in_ok-slot.slot).state ≡ c.process_at-p.result.state =
    ap (λ (p : Process). p.state) (sym c.process_at-p.ensures) in
    behind a.disc.now a.area.now a.id out (λ f. turned_at f a.state k) (found a.disc.now a.area.now a.id c.in_ok-slot.ensures)
    (rw (ne_eqb _ _ (λ e. c.if-p-state.false (sym read ∙ e)))
    (ap (λ (l : List ℕ). answered (Ok 0) a.disc.now l out)
    (c.put_back.ensures
    ∙ ap (λ (q : Process). kernel_bytes (with_process k c.in_ok-slot.slot (with_state q a.state))) c.process_at-p.ensures)))
