-- The registers and the stack's bytes over the area are the bytes of the state with that process gone on.
use borrow.Author.Rules.{rules}
use mathlib.Core.Path.{refl}
use Rattle.machine.proofs.Bytes.Area.{kernel-encode-decode}
use Rattle.process.proofs.Advancing.{went-on-bytes}
use Rattle.process.proofs.advance.go_on.Goals as goal

pub returns : goal.returns
returns c =
    let a = c.args in
    let area = a.area.now in
    let whole = kernel-encode-decode area (search rules) c.requires.0 in
    went-on-bytes area c.requires.0 whole a.slot c.requires.1 a.kept a.pc a.loopstart a.head.now a.tail.now a.file
    c.requires.2 refl c.put_registers.ensures c.put_stack.ensures
