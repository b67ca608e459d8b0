-- The value comes off the stack, and its text is the output.
use Rattle.std.proofs.Common.{arith}
use Rattle.buffer.proofs.Parts.{part-to}
use Rattle.operator.specs.declared.instruction.Types.TheVariants.{AnyValue}
use Rattle.stack.proofs.Popping.{value-on-top, value-small}
use Rattle.instruction.proofs.values.print.Goals as goal

pub print_value-requires : goal.print_value-requires
print_value-requires c =
    let st = c.args.frame.now.process.stack.now in
    let v = c.in_ok-x.x in
    let top = value-on-top AnyValue st v c.in_ok-x.ensures in
    let size = top.size in
    rw (part-to st v.at v.len)
    (record { short = omega (arith, top.inside); few = λ n. omega (arith, value-small st v.kind v.at v.len top n) }, omega arith)
