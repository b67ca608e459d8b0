-- `file::room_on` meets its contract: the longest run among those taken.
use mathlib.Core.Path.{ap, ◌∙◌}
use mathlib.Core.List.{List}
use lib.ListN.{length}
use Rattle.place.specs.Place.{longest}
use Rattle.place.specs.declared.Run.{Run}
use Rattle.disc.specs.Layout.{data_start}
use Rattle.disc.proofs.Entries.{taken-first}
use Rattle.store.specs.File.{room_on}
use Rattle.store.proofs.file.room_on.Goals as goal

pub returns : goal.returns
unfolding room_on
returns c =
    let n = c.file_count-count in
    let d = c.args.disc.now in
    c.longest_run.ensures
    ∙ ap (λ (l : List Run). longest l data_start (length d))
    (taken-first d _ n.result c.requires.few n.ensures c.taken_runs-runs.ensures)
