-- Header, records, IDs and variables, one after the other.
use mathlib.Core.Path.{sym, ap, ◌∙◌}
use mathlib.Core.List.{List}
use Prim.Native.Nat.{ℕ}
use Rattle.buffer.specs.Lists.{keep, pairs}
use Rattle.variable.specs.Good.{good_variables}
use Rattle.variable.specs.Bytes.{variables_of}
use Rattle.validation.specs.Columns.{differs, is_id}
use Rattle.validation.proofs.Goodness.{bad-header, bad-ids, bad-records, variables-left}
use Rattle.validation.proofs.good.is_good_area.Goals as goal

pub returns-then-not-is_good_header : goal.returns-then-not-is_good_header
returns-then-not-is_good_header c =
    let a = c.args in
    sym (bad-header a.disc.now a.area.now (sym c.is_good_header.ensures ∙ c.if-not-is_good_header.true))

pub returns-then-not-are_good : goal.returns-then-not-are_good
returns-then-not-are_good c =
    let a = c.args in
    sym (bad-records a.disc.now a.area.now (sym c.are_good.ensures ∙ c.if-not-are_good.true))

pub returns-then-not-are_distinct : goal.returns-then-not-are_distinct
returns-then-not-are_distinct c =
    let a = c.args in
    let ids = c.are_distinct.ensures ∙ ap (pairs differs) c.live_ids-ids.ensures in
    sym (bad-ids a.disc.now a.area.now (sym c.are_good.ensures ∙ c.if-not-are_good.false) (sym ids ∙ c.if-not-are_distinct.true))

pub returns : goal.returns
returns c =
    let a = c.args in
    let ids = c.are_distinct.ensures ∙ ap (pairs differs) c.live_ids-ids.ensures in
    c.are_good-2.ensures
    ∙ ap (λ (l : List ℕ). good_variables (keep is_id l) (variables_of a.area.now)) c.live_ids-ids.ensures
    ∙ variables-left a.disc.now a.area.now (sym c.are_good.ensures ∙ c.if-not-are_good.false)
    (sym c.is_good_header.ensures ∙ c.if-not-is_good_header.false) (sym ids ∙ c.if-not-are_distinct.false)
