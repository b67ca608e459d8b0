-- `name::pad` meets its contract: a name laid over zeros is the name and zeros behind it.
use mathlib.Core.Path.{◌∙◌}
use Rattle.buffer.proofs.Buffer.{overwrite-zeros}
use Rattle.disc.specs.Layout.{name_size}
use Rattle.disc.proofs.name.pad.Goals as goal

pub returns : goal.returns
returns c = c.overwrite_at.ensures ∙ overwrite-zeros c.args.name.now name_size
