-- The program's part of the disc and the stack's bytes below SP go to the instruction.
use Rattle.std.proofs.Common.{◌≤◌, ◌≡◌, length, sym, arith, rules}
use lib.Seq.{length-take-le}
use Rattle.buffer.proofs.Parts.{part_length, part-to}
use Rattle.disc.proofs.Locations.{contents-part}
use Rattle.machine.specs.Limits.{stack_size}
use Rattle.stack.specs.Ready.{max_code}
use Rattle.process.proofs.fetch.next_step.Goals as goal

pub slice_bounds-stack-end : goal.slice_bounds-stack-end
slice_bounds-stack-end c =
    let size : length c.args.p.stack ≡ stack_size = search rules in
    omega arith

pub slice_bounds-execute-end-2 : goal.slice_bounds-execute-end-2
slice_bounds-execute-end-2 c =
    let size : length c.args.p.stack ≡ stack_size = search rules in
    sym (length-take-le c.args.p.sp c.args.p.stack (omega arith))

pub execute-requires : goal.execute-requires
execute-requires c =
    let p = c.args.p in
    let disc = c.args.disc.now in
    let size : length p.stack ≡ stack_size = search rules in
    let short : p.code.len ≤ max_code = search rules in
    let below = length-take-le p.sp p.stack (omega arith) in (
      rw (part-to disc p.code.start p.code.len) (omega (arith, part_length disc p.code.start p.code.len c.requires.0)),
      omega arith,
      c.requires.2,
      c.requires.3,
    )

pub returns : goal.returns
returns c =
    let a = c.args in
    rw (part-to a.disc.now a.p.code.start a.p.code.len, ← contents-part a.disc.now a.p.code) at c.execute.ensures
