-- Behind the tests, the lines of the live processes, if the output has room.
use Rattle.std.proofs.lemmas.Result.{err_from_is_err_and}
use Rattle.std.specs.Prelude.{Ok}
use Prim.Native.Nat.{ℕ}
use mathlib.Core.Path.{◌≡◌, ap, ap₂}
use mathlib.Core.List.{List}
use native.Mathlib.Omega.{arith}
use lib.ListN.{length}
use Rattle.machine.specs.Answer.{answer, other_answer}
use Rattle.machine.specs.Area.{kernel_of}
use Rattle.machine.specs.Limits.{slot_count}
use Rattle.machine.specs.Operations.{list_text}
use Rattle.operation.specs.Answers.{answered}
use Rattle.turn.proofs.Passing.{area-size}
use Rattle.operation.proofs.FirstTests.{first-passed, first-refused, first-roomy, first_short}
use Rattle.operation.proofs.Lines.{list-short, live-lines}
use Rattle.operation.proofs.list.list.Goals as goal

pub returns-in_err-check : goal.returns-in_err-check
unfolding answer other_answer
returns-in_err-check c =
    let p = err_from_is_err_and c.from_residual.result c.from_residual.ensures.1 in
    rw (p.1, p.2) (first-refused _ _ c.in_err-check.ensures _ _)

pub list_length-requires : goal.list_length-requires
list_length-requires c = area-size (first-passed _ _ c.in_ok-check.ensures)

pub returns-then-out-list_length : goal.returns-then-out-list_length
unfolding answer other_answer
returns-then-out-list_length c =
    first_short _ _ c.in_ok-check.ensures _ (length (list_text (kernel_of c.args.area.now))) _
    (omega (arith, c.list_length.ensures))

pub put_list-requires : goal.put_list-requires
put_list-requires c =
    record {
      area_len = area-size (first-passed _ _ c.in_ok-check.ensures);
      area_in_bounds = omega (arith, c.list_length.ensures);
    }

pub overflow_cast-result : goal.overflow_cast-result
overflow_cast-result c =
    let area = c.args.area.now in
    omega (arith, c.put_list.ensures.place, ap length (live-lines area), list-short area slot_count)

pub returns : goal.returns
unfolding answer other_answer
returns c =
    let a = c.args in
    let text = list_text (kernel_of a.area.now) in
    let n : c.put_list.result ≡ length text = omega (arith, c.put_list.ensures.place) in
    first-roomy _ _ c.in_ok-check.ensures a.out.now (length text) _ (omega (arith, c.list_length.ensures))
    (ap₂ (λ (m : ℕ) (l : List ℕ). answered (Ok m) a.disc.now a.area.now l) n c.put_list.ensures.bytes)
