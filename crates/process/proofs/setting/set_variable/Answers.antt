-- The variables are set in place; then the process goes on, or ends where no place was found.
use Rattle.std.proofs.Common.{◌≡◌, length, sym, arith, rules}
use lib.Seq.{length-take-le}
use Rattle.std.specs.Prelude.{Err}
use Rattle.machine.specs.Limits.{stack_size}
use Rattle.process.proofs.Assigning.{set-done, set-few, set_on, set-refused}
use Rattle.process.proofs.setting.set_variable.Goals as goal

pub slice_bounds-bytes-end : goal.slice_bounds-bytes-end
slice_bounds-bytes-end c =
    let size : length c.args.d.bytes ≡ stack_size = search rules in
    omega (arith, c.requires.0.len)

pub slice_bounds-assign_in-end : goal.slice_bounds-assign_in-end
slice_bounds-assign_in-end c =
    let size : length c.args.d.bytes ≡ stack_size = search rules in
    sym (length-take-le c.args.d.len c.args.d.bytes (omega (arith, c.requires.0.len)))

pub assign_in-placing-requires : goal.assign_in-placing-requires
assign_in-placing-requires c =
    let d = c.args.d in
    let t = c.requires.0 in
    let size : length d.bytes ≡ stack_size = search rules in
    let n = length-take-le d.len d.bytes (omega (arith, t.len)) in
    (t.size, t.few, omega (arith, c.requires.1), omega (arith, t.len))

pub go_on-requires : goal.go_on-requires
go_on-requires c =
    let t = c.requires.0 in
    (omega (arith, t.size), t.low, set_on t c.args.name c.args.kind c.assign_in-placing.ensures c.in-Ok.is)

pub returns-in-Ok : goal.returns-in-Ok
returns-in-Ok c =
    set-done c.requires.0 c.args.name c.args.kind c.assign_in-placing.ensures c.in-Ok.is c.go_on.ensures

pub finish-requires : goal.finish-requires
finish-requires c =
    let t = c.requires.0 in
    (omega (arith, t.size), t.low, set-few t c.args.name c.args.kind c.assign_in-placing.ensures (Err c.in-Err.field-0) tt c.in-Err.is)

pub returns-in-Err : goal.returns-in-Err
returns-in-Err c =
    set-refused c.requires.0 c.args.name c.args.kind c.assign_in-placing.ensures (Err c.in-Err.field-0) tt c.in-Err.is
    c.placing_fault.ensures c.finish.ensures
