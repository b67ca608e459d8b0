-- One operand comes off the stack, and the operator's answer goes onto it. Its fault ends the instruction.
use Rattle.std.proofs.Common.{refl, Ok, Err}
use Rattle.machine.specs.Effect.{operates}
use Rattle.operator.specs.Unary.{unary}
use Rattle.operator.specs.declared.operators.Operator.TheVariants.{OfOne}
use Rattle.evaluation.proofs.Operands.{behind-frame, fault-handed-on, one-operand}
use Rattle.evaluation.proofs.operate.operate_one.Goals as goal

pub returns-in_err-x : goal.returns-in_err-x
unfolding operates
returns-in_err-x c =
    let f = c.args.frame.now in
    let x = c.in_err-x in
    let fault = x.field-0.0 in
    let step = c.from_residual in
    one-operand f.process.stack.now (OfOne c.args.operator) (behind-frame f) (Err fault)
    x.ensures.0 (unary c.args.operator)
    step.result refl (fault-handed-on f.process.stack.now step.result fault step.ensures.1)

pub returns : goal.returns
unfolding operates
returns c =
    let f = c.args.frame.now in
    let x = c.in_ok-x in
    one-operand f.process.stack.now (OfOne c.args.operator) (behind-frame f) (Ok x.x)
    x.ensures.0 (unary c.args.operator)
    c.push_outcome.result c.apply-answer.ensures c.push_outcome.ensures
