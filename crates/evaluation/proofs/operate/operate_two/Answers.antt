-- The second operand comes off first: the other's type is judged only then.
-- A fault that ends it early stands for each operand from there on.
use Rattle.std.proofs.Common.{refl, Ok, Err}
use Rattle.machine.specs.Effect.{operates}
use Rattle.operator.specs.Binary.{binary}
use Rattle.operator.specs.declared.operators.Operator.TheVariants.{OfTwo}
use Rattle.evaluation.proofs.Operands.{behind-frame, fault-handed-on, two_operands}
use Rattle.evaluation.proofs.operate.operate_two.Goals as goal

pub returns-in_err-y : goal.returns-in_err-y
unfolding operates
returns-in_err-y c =
    let f = c.args.frame.now in
    let y = c.in_err-y in
    let fault = y.field-0.0 in
    let step = c.from_residual in
    two_operands f.process.stack.now (OfTwo c.args.operator) (behind-frame f) (Err fault) (Err fault)
    y.ensures.0 refl (binary c.args.operator)
    step.result refl (fault-handed-on f.process.stack.now step.result fault step.ensures.1)

pub returns-in_err-x : goal.returns-in_err-x
unfolding operates
returns-in_err-x c =
    let f = c.args.frame.now in
    let y = c.in_ok-y in
    let x = c.in_err-x in
    let fault = x.field-0.0 in
    let step = c.from_residual-in_err-x in
    two_operands f.process.stack.now (OfTwo c.args.operator) (behind-frame f) (Ok y.y) (Err fault)
    y.ensures.0 (x.ensures.next y.y.number) (binary c.args.operator)
    step.result refl (fault-handed-on f.process.stack.now step.result fault step.ensures.1)

pub returns : goal.returns
unfolding operates
returns c =
    let f = c.args.frame.now in
    let y = c.in_ok-y in
    let x = c.in_ok-x in
    two_operands f.process.stack.now (OfTwo c.args.operator) (behind-frame f) (Ok y.y) (Ok x.x)
    y.ensures.0 (x.ensures.next y.y.number) (binary c.args.operator)
    c.push_outcome.result c.apply-answer.ensures c.push_outcome.ensures
