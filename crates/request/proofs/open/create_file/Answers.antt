-- A file that is admitted is created and open; one that is not is fault 13.
use Rattle.std.specs.Prelude.{Result}
use Prim.Native.Nat.{ℕ}
use mathlib.Core.Path.{sym, ap, ◌∙◌}
use mathlib.Core.List.{List}
use native.Mathlib.Omega.{arith}
use Rattle.machine.specs.Area.{kernel_of}
use Rattle.machine.specs.Beyond.{Answered, created_at}
use Rattle.process.specs.Stepping.{left, stack_of}
use Rattle.stack.specs.Steps.{about, keeping}
use Rattle.store.specs.declared.Refusal.{Refusal}
use Rattle.store.proofs.Admissions.{admitted}
use Rattle.store.proofs.Invariant.{admitted-small, room}
use Rattle.request.proofs.Answering.{answers, breaks-off}
use Rattle.request.proofs.open.create_file.Goals as goal

pub create-requires : goal.create-requires
create-requires c =
    let a = c.args in
    let h = admitted a.disc.now (about a.d) a.n c.in-Ok.start (sym c.in-Ok.ensures) in
    record {
      readable = c.requires.1;
      disc_bound = (h.few, (room h).short);
      data_start_le_start = (h.placed.low, h.placed.high);
    }

pub overflow_cast-start : goal.overflow_cast-start
overflow_cast-start c =
    let a = c.args in
    let h = admitted a.disc.now (about a.d) a.n c.in-Ok.start (sym c.in-Ok.ensures) in
    omega (arith, (admitted-small h c.requires.1.high).0)

pub returns-in-Ok : goal.returns-in-Ok
returns-in-Ok c =
    let a = c.args in
    let answer : Result ℕ Refusal → Answered =
    λ x. created_at (kernel_of a.area.now) a.slot a.disc.now x (about a.d) a.n (keeping (stack_of a.p) a.d) in
    answers c.requires.0 a.disc.now
    (ap (λ (l : List ℕ). left l c.open_run.new.area) c.create.ensures ∙ c.open_run.ensures a.disc.now _)
    (ap answer c.in-Ok.ensures)

pub returns-in-Err : goal.returns-in-Err
returns-in-Err c =
    let a = c.args in
    let answer : Result ℕ Refusal → Answered =
    λ x. created_at (kernel_of a.area.now) a.slot a.disc.now x (about a.d) a.n (keeping (stack_of a.p) a.d) in
    breaks-off c.requires.0 a.disc.now (ap answer (sym c.in-Err.ensures)) c.fail.ensures
