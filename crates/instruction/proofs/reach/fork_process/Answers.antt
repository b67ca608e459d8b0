-- The name is the string less its zero.
use Rattle.operator.specs.declared.instruction.Types.TheVariants.{AnyString}
use Rattle.stack.proofs.Popping.{string-text, value-on-top}
use Rattle.instruction.proofs.reach.fork_process.Goals as goal

pub overflow_sub-name : goal.overflow_sub-name
overflow_sub-name c =
    let st = c.args.frame.now.process.stack.now in
    (string-text st _ _ _ (value-on-top AnyString st c.in_ok-name.name c.in_ok-name.ensures)).0

pub returns : goal.returns
returns c =
    let st = c.args.frame.now.process.stack.now in
    let top = value-on-top AnyString st c.in_ok-name.name c.in_ok-name.ensures in
    let name = string-text st _ _ _ top in
    rw (top.pops, ← name.1) c.act_on.ensures
