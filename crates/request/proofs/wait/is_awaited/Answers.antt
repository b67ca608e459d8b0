-- Each slot of the ten is asked, up to the first that is awaited.
use Rattle.std.proofs.Common.{◌∙◌, ap, refl, rules, tests}
use Rattle.std.proofs.lemmas.Iterator.{YieldsList-from_range}
use Rattle.std.proofs.lemmas.Iterator.Search.{any_from_yields_List}
use Rattle.area.specs.Parts.{process_in}
use Rattle.area.proofs.Reading.{process-read}
use Rattle.buffer.specs.Lists.{any}
use Rattle.buffer.proofs.Lists.{tab-same}
use Rattle.buffer.proofs.Tables.{any-range}
use Rattle.machine.specs.Area.{kernel_of}
use Rattle.machine.specs.Limits.{slot_count}
use Rattle.machine.specs.State.{process_at}
use Rattle.request.specs.Answers.{is_awaited_by}
use Rattle.request.proofs.wait.is_awaited.Goals as goal

pub returns : goal.returns
unfolding kernel_of
returns c =
    let area = c.args.area.now in
    let at = process_at (kernel_of area) in
    any_from_yields_List (λ k. is_awaited_by c.args.id (at k)) _ _ c.any.result c.any.ensures.ran
    (YieldsList-from_range 0 slot_count slot_count refl refl) (λ x b q k. search (rules, tests))
    ∙ any-range (is_awaited_by c.args.id) at slot_count
    ∙ ap (any (is_awaited_by c.args.id)) (tab-same at (process_in area) slot_count (λ i h. process-read area i h))
