-- Five operands come off, e first.
-- A fault that ends it early stands for each operand from there on.
use Rattle.std.proofs.Common.{refl, Ok, Err}
use Rattle.machine.specs.Effect.{operates}
use Rattle.operator.specs.declared.operators.Operator.TheVariants.{Scale}
use Rattle.operator.specs.declared.operators.Scaling.TheVariants.{Map}
use Rattle.scaling.specs.Map.{mapped}
use Rattle.evaluation.proofs.Operands.{behind-frame, fault-handed-on, five-operands}
use Rattle.evaluation.proofs.operate.map.Goals as goal

pub returns-in_err-e : goal.returns-in_err-e
unfolding operates
returns-in_err-e c =
    let f = c.args.frame.now in
    let e = c.in_err-e in
    let fault = e.field-0.0 in
    let step = c.from_residual in
    five-operands f.process.stack.now (Scale Map) (behind-frame f) mapped (Err fault) (Err fault) (Err fault) (Err fault) (Err fault)
    e.ensures.0 refl refl refl refl
    step.result refl (fault-handed-on f.process.stack.now step.result fault step.ensures.1)

pub returns-in_err-d : goal.returns-in_err-d
unfolding operates
returns-in_err-d c =
    let f = c.args.frame.now in
    let e = c.in_ok-e in
    let d = c.in_err-d in
    let fault = d.field-0.0 in
    let step = c.from_residual-in_err-d in
    five-operands f.process.stack.now (Scale Map) (behind-frame f) mapped (Ok e.e) (Err fault) (Err fault) (Err fault) (Err fault)
    e.ensures.0 (d.ensures.next e.e.number) refl refl refl
    step.result refl (fault-handed-on f.process.stack.now step.result fault step.ensures.1)

pub returns-in_err-c : goal.returns-in_err-c
unfolding operates
returns-in_err-c c =
    let f = c.args.frame.now in
    let e = c.in_ok-e in
    let d = c.in_ok-d in
    let c' = c.in_err-c in
    let fault = c'.field-0.0 in
    let step = c.from_residual-in_err-c in
    five-operands f.process.stack.now (Scale Map) (behind-frame f) mapped (Ok e.e) (Ok d.d) (Err fault) (Err fault) (Err fault)
    e.ensures.0 (d.ensures.next e.e.number) (c'.ensures.next d.d.number) refl refl
    step.result refl (fault-handed-on f.process.stack.now step.result fault step.ensures.1)

pub returns-in_err-b : goal.returns-in_err-b
unfolding operates
returns-in_err-b c =
    let f = c.args.frame.now in
    let e = c.in_ok-e in
    let d = c.in_ok-d in
    let c' = c.in_ok-c in
    let b = c.in_err-b in
    let fault = b.field-0.0 in
    let step = c.from_residual-in_err-b in
    five-operands f.process.stack.now (Scale Map) (behind-frame f) mapped (Ok e.e) (Ok d.d) (Ok c'.c) (Err fault) (Err fault)
    e.ensures.0 (d.ensures.next e.e.number) (c'.ensures.next d.d.number) (b.ensures.next c'.c.number) refl
    step.result refl (fault-handed-on f.process.stack.now step.result fault step.ensures.1)

pub returns-in_err-a : goal.returns-in_err-a
unfolding operates
returns-in_err-a c =
    let f = c.args.frame.now in
    let e = c.in_ok-e in
    let d = c.in_ok-d in
    let c' = c.in_ok-c in
    let b = c.in_ok-b in
    let a = c.in_err-a in
    let fault = a.field-0.0 in
    let step = c.from_residual-in_err-a in
    five-operands f.process.stack.now (Scale Map) (behind-frame f) mapped (Ok e.e) (Ok d.d) (Ok c'.c) (Ok b.b) (Err fault)
    e.ensures.0 (d.ensures.next e.e.number) (c'.ensures.next d.d.number) (b.ensures.next c'.c.number) (a.ensures.next b.b.number)
    step.result refl (fault-handed-on f.process.stack.now step.result fault step.ensures.1)

pub returns : goal.returns
unfolding operates
returns c =
    let f = c.args.frame.now in
    let e = c.in_ok-e in
    let d = c.in_ok-d in
    let c' = c.in_ok-c in
    let b = c.in_ok-b in
    let a = c.in_ok-a in
    five-operands f.process.stack.now (Scale Map) (behind-frame f) mapped (Ok e.e) (Ok d.d) (Ok c'.c) (Ok b.b) (Ok a.a)
    e.ensures.0 (d.ensures.next e.e.number) (c'.ensures.next d.d.number) (b.ensures.next c'.c.number) (a.ensures.next b.b.number)
    c.push_outcome.result c.map-answer.ensures c.push_outcome.ensures
