-- Closed up, zeros behind, the new count: the variables that are left.
use borrow.Author.Rules.{rules}
use Rattle.variable.specs.Bytes.{variables_of}
use Rattle.variable.proofs.Bytes.{decoded-shaped}
use Rattle.variable.proofs.Closing.{closed_all}
use Rattle.variable.proofs.free.free.Goals as goal

pub returns : goal.returns
returns g c test says =
    let bytes = c.args.variables.now in
    closed_all (variables_of bytes) (decoded-shaped bytes (search rules)) test c.requires.1
    c.count_of-count.ensures (c.close_up-kept.ensures.closed test says) c.blank.ensures c.put_count.ensures
