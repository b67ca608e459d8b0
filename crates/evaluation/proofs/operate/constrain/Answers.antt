-- Three operands come off, b first.
-- A fault that ends it early stands for each operand from there on.
use Rattle.std.proofs.Common.{refl, ap, Ok, Err}
use Rattle.machine.specs.Effect.{operates}
use Rattle.operator.specs.declared.operators.Operator.TheVariants.{Scale}
use Rattle.operator.specs.declared.operators.Scaling.TheVariants.{Constrain}
use Rattle.scaling.specs.Constrain.{constrained}
use Rattle.evaluation.proofs.Operands.{behind-frame, fault-handed-on, three-operands}
use Rattle.evaluation.proofs.operate.constrain.Goals as goal

pub returns-in_err-b : goal.returns-in_err-b
unfolding operates
returns-in_err-b c =
    let f = c.args.frame.now in
    let b = c.in_err-b in
    let fault = b.field-0.0 in
    let step = c.from_residual in
    three-operands f.process.stack.now (Scale Constrain) (behind-frame f) (λ x a b. Ok (constrained x a b))
    (Err fault) (Err fault) (Err fault) b.ensures.0 refl refl
    step.result refl (fault-handed-on f.process.stack.now step.result fault step.ensures.1)

pub returns-in_err-a : goal.returns-in_err-a
unfolding operates
returns-in_err-a c =
    let f = c.args.frame.now in
    let b = c.in_ok-b in
    let a = c.in_err-a in
    let fault = a.field-0.0 in
    let step = c.from_residual-in_err-a in
    three-operands f.process.stack.now (Scale Constrain) (behind-frame f) (λ x a b. Ok (constrained x a b))
    (Ok b.b) (Err fault) (Err fault) b.ensures.0 (a.ensures.next b.b.number) refl
    step.result refl (fault-handed-on f.process.stack.now step.result fault step.ensures.1)

pub returns-in_err-x : goal.returns-in_err-x
unfolding operates
returns-in_err-x c =
    let f = c.args.frame.now in
    let b = c.in_ok-b in
    let a = c.in_ok-a in
    let x = c.in_err-x in
    let fault = x.field-0.0 in
    let step = c.from_residual-in_err-x in
    three-operands f.process.stack.now (Scale Constrain) (behind-frame f) (λ x a b. Ok (constrained x a b))
    (Ok b.b) (Ok a.a) (Err fault) b.ensures.0 (a.ensures.next b.b.number) (x.ensures.next a.a.number)
    step.result refl (fault-handed-on f.process.stack.now step.result fault step.ensures.1)

pub returns : goal.returns
unfolding operates
returns c =
    let f = c.args.frame.now in
    let b = c.in_ok-b in
    let a = c.in_ok-a in
    let x = c.in_ok-x in
    three-operands f.process.stack.now (Scale Constrain) (behind-frame f) (λ x a b. Ok (constrained x a b))
    (Ok b.b) (Ok a.a) (Ok x.x) b.ensures.0 (a.ensures.next b.b.number) (x.ensures.next a.a.number)
    c.push_number.result (ap Ok c.constrain-answer.ensures) c.push_number.ensures
