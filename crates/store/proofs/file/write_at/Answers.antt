-- `file::write_at` meets its contract: bytes in a row are laid over.
use mathlib.Core.Path.{◌∙◌}
use Rattle.store.proofs.Steps.{written-steps}
use Rattle.store.proofs.file.write_at.Goals as goal

pub returns : goal.returns
returns c =
    let a = c.args in
    c.overwrite_at.ensures ∙ written-steps a.disc.now a.run a.offset a.bytes.now
