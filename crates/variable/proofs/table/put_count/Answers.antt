-- The count's byte laid over is the bytes of the variables with that count.
use mathlib.Core.Path.{◌∙◌}
use borrow.Author.Rules.{rules}
use Rattle.variable.proofs.Bytes.{count-written}
use Rattle.variable.proofs.table.put_count.Goals as goal

pub returns : goal.returns
returns c =
    c.overwrite_at.ensures
    ∙ count-written c.args.variables.now (λ i. search rules) c.requires c.args.count
