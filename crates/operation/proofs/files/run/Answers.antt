-- Behind the tests, the program is started where a slot, its file and an ID are found; else the refusal says what was not.
use Rattle.std.specs.Prelude.{Ok}
use Rattle.std.proofs.lemmas.Result.{err_from_is_err_and}
use mathlib.Core.Path.{◌≡◌, ap, ◌∙◌}
use native.Mathlib.Omega.{arith}
use Rattle.disc.specs.Directory.{entry_at}
use Rattle.machine.specs.Answer.{answer, run_at}
use Rattle.machine.specs.Area.{kernel_bytes, kernel_of}
use Rattle.machine.specs.Start.{started}
use Rattle.machine.specs.Start.{Starting as StartOf}
use Rattle.turn.proofs.Passing.{area-size, disc-readable, next_low}
use Rattle.operation.specs.Answers.{answered, lent}
use Rattle.operation.proofs.FirstTests.{first_done, first-passed, first-refused}
use Rattle.operation.proofs.files.run.Goals as goal

pub returns-in_err-check : goal.returns-in_err-check
unfolding answer
returns-in_err-check c out =
    let p = err_from_is_err_and c.from_residual.result c.from_residual.ensures.1 in
    rw (p.1, p.2) (first-refused _ _ c.in_err-check.ensures out _)

pub find_start-requires : goal.find_start-requires
find_start-requires c = (
  disc-readable (first-passed c.args.disc.now c.args.area.now c.in_ok-check.ensures),
  area-size (first-passed
      c.args.disc.now c.args.area.now c.in_ok-check.ensures),
)

pub next_id-next-requires : goal.next_id-next-requires
next_id-next-requires c = area-size (first-passed c.args.disc.now c.args.area.now c.in_ok-check.ensures)

pub entry_at-requires : goal.entry_at-requires
entry_at-requires c =
    let r = disc-readable (first-passed c.args.disc.now c.args.area.now c.in_ok-check.ensures) in
    (r.low, omega (arith, (rw c.in_ok-start.was at c.find_start.ensures.1).file-low, r.few))

pub start-requires : goal.start-requires
start-requires c = (
  area-size (first-passed c.args.disc.now c.args.area.now c.in_ok-check.ensures),
  (rw c.in_ok-start.was at c.find_start.ensures.1).slot-low,
  omega
      (arith, next_low (first-passed c.args.disc.now c.args.area.now c.in_ok-check.ensures)),
)

pub returns : goal.returns
unfolding answer
returns c out =
    let a = c.args in
    let k = kernel_of a.area.now in
    let s = c.in_ok-start.start in
    let begun : c.start.new.area ≡ kernel_bytes (started k s.slot (entry_at a.disc.now s.place)) =
    c.start.ensures ∙ (λ i. kernel_bytes (started k s.slot (c.entry_at.ensures i))) in
    let found = rw c.in_ok-start.was at c.find_start.ensures.0 in
    first_done _ _ c.in_ok-check.ensures out
    ((λ i. answered (Ok (c.next_id-next.ensures i)) a.disc.now (begun i) out)
    ∙ ap (λ (s : StartOf). run_at s k (lent a.disc.now a.area.now out)) found)

pub returns-in_err-start : goal.returns-in_err-start
unfolding answer
returns-in_err-start c out =
    let a = c.args in
    let p = err_from_is_err_and c.from_residual-in_err-start.result c.from_residual-in_err-start.ensures.1 in
    let refused = rw c.in_err-start.was at c.find_start.ensures.0 in
    rw (p.1, p.2) (first_done _ _ c.in_ok-check.ensures out
    (ap (λ (s : StartOf). run_at s (kernel_of a.area.now) (lent a.disc.now a.area.now out)) refused))
