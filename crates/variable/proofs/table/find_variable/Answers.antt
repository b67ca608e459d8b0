-- The first entry below the count that has that name and owner.
use Rattle.std.proofs.Common.{ℕ, ◌≡◌, true, false, get_or, arith, rules}
use Rattle.std.proofs.lemmas.Iterator.{first_from_Range}
use Rattle.buffer.proofs.Tables.{index-tab-first}
use Rattle.variable.specs.Bytes.{variables_of}
use Rattle.variable.specs.Table.{find, is_of, no_variable}
use Rattle.variable.specs.declared.Variable.{Variable}
use Rattle.variable.proofs.Bytes.{decoded-shaped}
use Rattle.variable.proofs.Views.{take-tab}
use Rattle.variable.proofs.table.find_variable.Goals as goal

pub returns : goal.returns
unfolding find
returns c =
    let a = c.args in
    let v = variables_of a.variables.now in
    let n = (decoded-shaped a.variables.now (search rules)).entries in
    let at : ℕ → Variable = λ k. get_or v.entries k no_variable in
    rw (take-tab v.entries no_variable v.count (omega (arith, c.requires.1)), ← c.count_of.ensures)
    (index-tab-first at c.count_of.result (is_of a.name a.owner) c.find.result
    (first_from_Range _ _ _ _ (λ k. is_of a.name a.owner (at k) ≡ true) (λ k. is_of a.name a.owner (at k) ≡ false) c.find.ensures.ran
    (λ x q k. search rules) (λ x q k. search rules)))
