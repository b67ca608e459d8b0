-- Low byte first.
use mathlib.Core.Path.{◌∙◌}
use Rattle.area.proofs.records.put_next_id.Goals as goal

pub returns : goal.returns
returns c =
    c.overwrite_at.ensures ∙ rw (c.low-low.ensures, c.high-high.ensures)
