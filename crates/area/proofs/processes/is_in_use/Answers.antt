-- Each slot of the ten is asked, up to the first that uses the file.
use Rattle.std.proofs.Common.{◌∙◌, refl, rules, tests}
use Rattle.std.proofs.lemmas.Iterator.{YieldsList-from_range}
use Rattle.std.proofs.lemmas.Iterator.Search.{any_from_yields_List}
use Rattle.buffer.proofs.Tables.{any-range}
use Rattle.machine.specs.Area.{kernel_of}
use Rattle.machine.specs.Limits.{slot_count}
use Rattle.machine.specs.Operations.{in_use, uses}
use Rattle.area.specs.Parts.{process_in}
use Rattle.area.proofs.processes.is_in_use.Goals as goal

pub returns : goal.returns
unfolding in_use kernel_of
returns c =
    let at = process_in c.args.area.now in
    any_from_yields_List (λ k. uses c.args.e (at k)) _ _ c.any.result c.any.ensures.ran
    (YieldsList-from_range 0 slot_count slot_count refl refl) (λ x b q k. search (rules, tests))
    ∙ any-range (uses c.args.e) at slot_count
