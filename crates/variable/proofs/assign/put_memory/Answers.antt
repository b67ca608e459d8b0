-- Bytes of memory laid over are the bytes of the variables with that memory.
use mathlib.Core.Path.{◌∙◌}
use borrow.Author.Rules.{rules}
use Rattle.variable.proofs.Bytes.{memory-written}
use Rattle.variable.proofs.assign.put_memory.Goals as goal

pub returns : goal.returns
returns c =
    c.overwrite_at.ensures
    ∙ memory-written c.args.variables.now (λ i. search rules) c.requires.0 c.args.at
    c.args.bytes.now c.requires.1
