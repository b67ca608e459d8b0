-- Each record is tested, up to the first that is not good.
use Rattle.std.proofs.Common.{◌∙◌, refl, rules, tests}
use Rattle.std.proofs.lemmas.Iterator.{YieldsList-from_range}
use Rattle.std.proofs.lemmas.Iterator.Search.{all_from_yields_List}
use Rattle.buffer.specs.Buffer.{word_at}
use Rattle.disc.specs.Directory.{files}
use Rattle.machine.specs.Area.{kernel_of}
use Rattle.machine.specs.GoodArea.{good_process}
use Rattle.machine.specs.Limits.{next_at, slot_count}
use Rattle.area.specs.Parts.{process_in}
use Rattle.validation.proofs.Slots.{all-range}
use Rattle.validation.proofs.good.records.are_good.Goals as goal

pub returns : goal.returns
unfolding kernel_of
returns c =
    let at = process_in c.args.area.now in
    let good = good_process (files c.args.disc.now) (word_at c.args.area.now next_at) in
    all_from_yields_List (λ k. good (at k)) _ _ c.all.result c.all.ensures.ran
    (YieldsList-from_range 0 slot_count slot_count refl refl) (λ x b q k. search (rules, tests))
    ∙ all-range good at slot_count
