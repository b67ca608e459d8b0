-- The state byte of the record says whether the process runs.
use mathlib.Core.Path.{sym, ap, ◌∙◌}
use lib.Dec.{eqb}
use lib.ListN.{get_or}
use Rattle.area.proofs.Reading.{process-read}
use Rattle.machine.specs.State.{is_running}
use Rattle.turn.proofs.round.is_running.Goals as goal

pub returns : goal.returns
returns c =
    ap (λ l. eqb (get_or l 14 0) 114) c.record_at-bytes.ensures.0
    ∙ ap is_running (sym (process-read c.args.area.now c.args.slot c.requires.1))
