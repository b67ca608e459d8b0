-- The process is ended.
use Rattle.std.specs.Prelude.{Ok}
use Rattle.std.proofs.lemmas.Result.{err_from_is_err_and}
use Prim.Native.Nat.{ℕ}
use mathlib.Core.Path.{refl, ap}
use mathlib.Core.List.{List}
use Rattle.machine.specs.Answer.{answer}
use Rattle.machine.specs.Area.{kernel_of}
use Rattle.machine.specs.Operations.{kill, command_at, commanded}
use Rattle.operation.specs.Answers.{answered}
use Rattle.turn.proofs.Passing.{area-size, few-variables}
use Rattle.operation.proofs.Commanding.{behind, found, not-found}
use Rattle.operation.proofs.commands.kill.Goals as goal

pub returns-in_err-slot : goal.returns-in_err-slot
unfolding answer commanded
returns-in_err-slot c out =
    let p = err_from_is_err_and c.from_residual.result c.from_residual.ensures.1 in
    rw (p.1, p.2)
    (not-found c.args.disc.now c.args.area.now c.args.id out (λ f. command_at f kill (kernel_of c.args.area.now)) refl
    c.in_err-slot.ensures)

pub finish-requires : goal.finish-requires
finish-requires c =
    let f = found c.args.disc.now c.args.area.now c.args.id c.in_ok-slot.ensures in (area-size f.passes, f.low, few-variables f.passes)

pub returns : goal.returns
unfolding answer commanded
returns c out =
    let a = c.args in
    behind a.disc.now a.area.now a.id out (λ f. command_at f kill (kernel_of a.area.now))
    (found a.disc.now a.area.now a.id c.in_ok-slot.ensures)
    (ap (λ (l : List ℕ). answered (Ok 0) a.disc.now l out) c.finish.ensures)
