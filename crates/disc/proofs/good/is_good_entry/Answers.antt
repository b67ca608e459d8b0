-- Its tests are those of `good_entry`, in their order, on the name and the run of the entry in place.
use Prim.Native.Nat.{ℕ, ◌+◌, ◌≤◌}
use mathlib.Core.Path.{◌≡◌, sym, ap, ◌∙◌}
use mathlib.Core.Bool.{true}
use lib.Dec.{leb}
use lib.ListN.{length}
use borrow.Author.Rules.{rules}
use borrow.Author.Tests.{le-leb}
use Rattle.buffer.proofs.Bools.{not-true-is-false, true-not-false}
use Rattle.place.specs.declared.Run.{Run}
use Rattle.disc.specs.Directory.{good_entry}
use Rattle.disc.specs.Layout.{data_start}
use Rattle.disc.specs.Name.{good_field}
use Rattle.disc.proofs.Goodness.{good-entry-is}
use Rattle.disc.proofs.InPlace.{name-in-place}
use Rattle.disc.proofs.good.is_good_entry.Goals as goal

pub returns-then-not-is_good_field : goal.returns-then-not-is_good_field
unfolding good_entry
returns-then-not-is_good_field c =
    rw (sym (c.is_good_field.ensures ∙ ap good_field (name-in-place c.args.disc.now c.args.i)) ∙ c.if-not-is_good_field.true)

pub returns-then-from-ge-DATA_START : goal.returns-then-from-ge-DATA_START
unfolding good_entry
returns-then-from-ge-DATA_START c =
    let field : c.is_good_field.result ≡ true = search rules in
    let some : 1 ≤ c.run_at-run.result.len = search rules in
    let above : data_start ≤ c.run_at-run.result.start = search rules in
    rw (
      sym (c.is_good_field.ensures ∙ ap good_field (name-in-place c.args.disc.now c.args.i)) ∙ field,
      le-leb _ _ (rw c.run_at-run.ensures at some),
      le-leb _ _ (rw c.run_at-run.ensures at above),
    )
    (ap (λ (n : ℕ). leb n (length c.args.disc.now))
    (c.end.ensures.0 ∙ ap (λ (u : Run). u.start + u.len) c.run_at-run.ensures))

pub returns-else-from-ge-DATA_START : goal.returns-else-from-ge-DATA_START
returns-else-from-ge-DATA_START c =
    c.if-from-ge-DATA_START.false
    ∙ sym (not-true-is-false _ λ g.
    let x = good-entry-is _ _ g in
    let field : c.is_good_field.result ≡ true =
    c.is_good_field.ensures ∙ ap good_field (name-in-place c.args.disc.now c.args.i) ∙ x.field in
    let some : 1 ≤ c.run_at-run.result.len = rw c.run_at-run.ensures x.some in
    let above : data_start ≤ c.run_at-run.result.start = rw c.run_at-run.ensures x.low in
    let passed : c.if-run-ge1.value ≡ true = search rules in
    true-not-false passed c.if-from-ge-DATA_START.false)
