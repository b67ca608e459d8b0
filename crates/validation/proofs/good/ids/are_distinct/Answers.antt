-- Each slot is asked whether its ID is new, up to the first whose ID is not.
use Rattle.std.proofs.Common.{◌∙◌, refl, arith, rules, tests, get_or, take}
use Rattle.std.proofs.lemmas.Iterator.{YieldsList-from_range}
use Rattle.std.proofs.lemmas.Iterator.Search.{all_from_yields_List}
use Rattle.buffer.specs.Lists.{all}
use Rattle.machine.specs.Limits.{slot_count}
use Rattle.validation.specs.Columns.{differs}
use Rattle.validation.proofs.Slots.{pairs-range}
use Rattle.validation.proofs.good.ids.are_distinct.Goals as goal

pub returns : goal.returns
returns c =
    let ids = c.args.ids.now in
    all_from_yields_List (λ i. all (λ d. differs d (get_or ids i 0)) (take i ids)) _ _ c.all.result c.all.ensures.ran
    (YieldsList-from_range 0 slot_count slot_count refl refl) (λ x b q k. search (rules, tests))
    ∙ pairs-range differs ids 0 slot_count (omega arith)
