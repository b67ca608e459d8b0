-- Behind the tests, the file of the name is found, and where no process uses it erased.
use Rattle.std.specs.Prelude.{None, Option, Some, Ok, Err}
use Rattle.std.specs.Option.{ok_or}
use Rattle.std.proofs.lemmas.Result.{err_from_is_err_and}
use Prim.Native.Nat.{ℕ}
use mathlib.Core.Path.{◌≡◌, sym, ap, ◌∙◌}
use mathlib.Core.List.{List}
use native.Mathlib.Omega.{arith}
use Rattle.disc.specs.Directory.{entry_at}
use Rattle.disc.proofs.Lookups.{lookup-at}
use Rattle.store.specs.declared.Refusal.{Refusal}
use Rattle.store.specs.declared.Refusal.TheVariants.{NoSuchFile}
use Rattle.machine.specs.Answer.{answer, erase_at, other_answer}
use Rattle.machine.specs.Area.{kernel_of}
use Rattle.machine.specs.Operations.{in_use}
use Rattle.machine.specs.declared.Kernel.{Kernel}
use Rattle.operation.specs.Answers.{answered, lent}
use Rattle.turn.proofs.Passing.{area-size, disc-readable}
use Rattle.operation.proofs.FirstTests.{first_done, first-passed, first-refused}
use Rattle.operation.proofs.files.erase.Goals as goal

-- what is answered where no file has the name
missing : (disc area out : List ℕ) (k : Kernel) (f : Option ℕ) (r : Refusal) → Err r ≡ ok_or f NoSuchFile
    → answered (Err r) disc area out ≡ erase_at f k (lent disc area out)
missing disc area out k None r e =
    let same : r ≡ NoSuchFile = cc in ap (λ (x : Refusal). answered (Err x) disc area out) same
missing disc area out k (Some i) r e = absurd (let z : ◌≡◌ {A = ℕ} 0 1 = cc in omega arith)

pub returns-in_err-check : goal.returns-in_err-check
unfolding answer other_answer
returns-in_err-check c out =
    let p = err_from_is_err_and c.from_residual.result c.from_residual.ensures.1 in
    rw (p.1, p.2) (first-refused _ _ c.in_err-check.ensures out _)

pub find-requires : goal.find-requires
find-requires c = disc-readable (first-passed _ _ c.in_ok-check.ensures)

pub returns-in_err-i : goal.returns-in_err-i
unfolding answer other_answer
returns-in_err-i c out =
    let p = err_from_is_err_and c.from_residual-in_err-i.result c.from_residual-in_err-i.ensures.1 in
    let a = c.args in
    rw (p.1, p.2)
    (first_done _ _ c.in_ok-check.ensures out
    (rw (sym c.find.ensures) (missing a.disc.now a.area.now out _ c.find.result c.in_err-i.field-0.0 c.in_err-i.ensures.value)))

pub entry_at-requires : goal.entry_at-requires
entry_at-requires c =
    let r = disc-readable (first-passed _ _ c.in_ok-check.ensures) in
    (r.low, omega (arith, (lookup-at _ _ _ (sym c.find.ensures ∙ c.in_ok-i.ensures.ok_part)).inside, r.few))

pub is_in_use-requires : goal.is_in_use-requires
is_in_use-requires c = area-size (first-passed c.args.disc.now _ c.in_ok-check.ensures)

pub returns-then-is_in_use : goal.returns-then-is_in_use
unfolding answer other_answer
returns-then-is_in_use c out =
    let k = kernel_of c.args.area.now in
    let tested : in_use k (entry_at c.args.disc.now c.in_ok-i.i) ≡ c.is_in_use.result =
    ap (in_use k) (sym c.entry_at.ensures) ∙ sym c.is_in_use.ensures in
    first_done _ _ c.in_ok-check.ensures out
    (rw (sym c.find.ensures ∙ c.in_ok-i.ensures.ok_part, tested ∙ c.if-is_in_use.true))

pub erase_entry-requires : goal.erase_entry-requires
erase_entry-requires c = record {
  readable = disc-readable (first-passed _ _ c.in_ok-check.ensures);
  i_bound = (lookup-at _ _ _ (sym c.find.ensures ∙ c.in_ok-i.ensures.ok_part)).inside;
}

pub returns : goal.returns
unfolding answer other_answer
returns c out =
    let k = kernel_of c.args.area.now in
    let tested : in_use k (entry_at c.args.disc.now c.in_ok-i.i) ≡ c.is_in_use.result =
    ap (in_use k) (sym c.entry_at.ensures) ∙ sym c.is_in_use.ensures in
    first_done _ _ c.in_ok-check.ensures out
    (rw (sym c.find.ensures ∙ c.in_ok-i.ensures.ok_part, tested ∙ c.if-is_in_use.false)
    (ap (λ (l : List ℕ). answered (Ok 0) l c.args.area.now out) c.erase_entry.ensures))
