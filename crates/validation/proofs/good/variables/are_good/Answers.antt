-- The count, then the parts of the test one after the other.
use mathlib.Core.Path.{sym, ◌∙◌}
use native.Mathlib.Omega.{arith}
use Rattle.buffer.specs.Lists.{keep}
use Rattle.validation.specs.Columns.{is_id}
use Rattle.validation.proofs.Clashes.{owner-column-length}
use Rattle.validation.proofs.VariableTests.{column-owners, in_parts, no-variables, too_many, variable_count}
use Rattle.validation.proofs.good.variables.are_good.Goals as goal

pub returns-then-count-gt-MAX_VARIABLES : goal.returns-then-count-gt-MAX_VARIABLES
returns-then-count-gt-MAX_VARIABLES c =
    let a = c.args in
    sym (too_many (keep is_id a.ids.now) a.area.now c.if-count-gt-MAX_VARIABLES.true)

pub returns-then-count-eq0 : goal.returns-then-count-eq0
returns-then-count-eq0 c = let a = c.args in sym (no-variables (keep is_id a.ids.now) a.area.now c.if-count-eq0.true)

pub returns-then-not-are_sized : goal.returns-then-not-are_sized
returns-then-not-are_sized c =
    let a = c.args in
    rw (in_parts (keep is_id a.ids.now) a.area.now c.if-count-gt-MAX_VARIABLES.false, sym c.are_sized.ensures ∙ c.if-not-are_sized.true)

pub are_owned-requires : goal.are_owned-requires
are_owned-requires c =
    let m = c.if-count-gt-MAX_VARIABLES.false in
    (rw c.fill_words.ensures (owner-column-length c.args.area.now (variable_count c.args.area.now) m), c.requires.1, omega arith)

pub returns-then-not-are_owned : goal.returns-then-not-are_owned
returns-then-not-are_owned c =
    let a = c.args in
    let owned = column-owners (keep is_id a.ids.now) a.area.now c.are_owned.result c.fill_words.new.column c.fill_words.ensures
    c.are_owned.ensures in
    rw (
      in_parts (keep is_id a.ids.now) a.area.now c.if-count-gt-MAX_VARIABLES.false,
      sym c.are_sized.ensures ∙ c.if-not-are_sized.false,
      sym owned ∙ c.if-not-are_owned.true,
    )

pub returns : goal.returns
returns c =
    let a = c.args in
    let owned = column-owners (keep is_id a.ids.now) a.area.now c.are_owned.result c.fill_words.new.column c.fill_words.ensures
    c.are_owned.ensures in
    rw (
      in_parts (keep is_id a.ids.now) a.area.now c.if-count-gt-MAX_VARIABLES.false,
      sym c.are_sized.ensures ∙ c.if-not-are_sized.false,
      sym owned ∙ c.if-not-are_owned.false,
    )
    c.are_beside.ensures
