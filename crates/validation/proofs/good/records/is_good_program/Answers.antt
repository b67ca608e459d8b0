-- No file is empty; a run that is no file's, and the name of the file of that run.
use Rattle.std.specs.Prelude.{None, Option, Some}
use mathlib.Core.Path.{◌≡◌, refl, sym, ap, subst, ◌∙◌}
use Prim.Native.Nat.{ℕ}
use mathlib.Core.Bool.{Bool}
use mathlib.Core.List.{List}
use native.Mathlib.Omega.{arith}
use lib.ListN.{take}
use Rattle.buffer.specs.Buffer.{four_at}
use Rattle.buffer.specs.Lists.{same}
use Rattle.buffer.proofs.Fours.{Bytes}
use Rattle.disc.specs.Layout.{name_size}
use Rattle.disc.specs.declared.Entry.{Entry}
use Rattle.disc.proofs.InPlace.{name-in-place}
use Rattle.machine.specs.GoodArea.{is_program}
use Rattle.validation.specs.Columns.{FileOf}
use Rattle.validation.proofs.Files.{empty-any, found-any, missed-any}
use Rattle.validation.proofs.good.records.is_good_program.Goals as goal

-- the name in the record against an entry's
abbrev named : List ℕ → Entry → Bool
named bytes e = same (take name_size bytes) e.name

sought : (runs bytes : List ℕ) {run : ℕ} {file : Option ℕ} → run ≡ four_at bytes 16 → FileOf runs run file
    → FileOf runs (four_at bytes 16) file
sought runs bytes {run} {file} e s = subst (λ (n : ℕ). FileOf runs n file) e s

pub overflow_mul-file : goal.overflow_mul-file
overflow_mul-file c =
    let f = c.in-Some.ensures.found c.in-Some.file refl in
    omega (arith, f.0)

pub same_name-requires : goal.same_name-requires
same_name-requires c =
    let f = c.in-Some.ensures.found c.in-Some.file refl in
    (omega arith, omega (arith, f.0, c.requires.0.readable.low))

pub returns-then-run-eq0 : goal.returns-then-run-eq0
unfolding is_program
returns-then-run-eq0 c =
    let a = c.args in
    let known : Bytes a.disc.now = λ n. omega (arith, c.type_inv.disc n) in
    sym (empty-any a.disc.now a.runs.now c.requires.0 known a.bytes.now (λ n. omega (arith, c.type_inv.bytes n)) 16
    (named a.bytes.now) (sym c.four_at-run.ensures ∙ c.if-run-eq0.true))

pub returns-in-None : goal.returns-in-None
unfolding is_program
returns-in-None c =
    let a = c.args in
    let known : Bytes a.disc.now = λ n. omega (arith, c.type_inv.disc n) in
    sym (missed-any a.disc.now a.runs.now c.requires.0 known a.bytes.now (λ n. omega (arith, c.type_inv.bytes n)) 16
    None (sought a.runs.now a.bytes.now c.four_at-run.ensures c.in-None.ensures)
    (named a.bytes.now) refl)

pub returns-in-Some : goal.returns-in-Some
unfolding is_program
returns-in-Some c =
    let a = c.args in
    let known : Bytes a.disc.now = λ n. omega (arith, c.type_inv.disc n) in
    c.same_name.ensures
    ∙ ap (same (take name_size a.bytes.now)) (name-in-place a.disc.now c.in-Some.file)
    ∙ found-any a.disc.now a.runs.now c.requires.0 known a.bytes.now (λ n. omega (arith, c.type_inv.bytes n)) 16
    (Some c.in-Some.file) (sought a.runs.now a.bytes.now c.four_at-run.ensures c.in-Some.ensures) (named a.bytes.now)
    (λ z. c.if-run-eq0.false (c.four_at-run.ensures ∙ z)) c.in-Some.file refl
