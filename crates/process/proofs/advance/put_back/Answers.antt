-- The record's bytes over the area are the bytes of the state with that process.
use borrow.Author.Rules.{rules}
use mathlib.Core.Path.{sym, ◌∙◌}
use Rattle.machine.proofs.Bytes.Area.{kernel-encode-decode}
use Rattle.machine.proofs.Bytes.Sizes.{SizedProcess}
use Rattle.area.proofs.Writing.{process-written}
use Rattle.process.proofs.advance.put_back.Goals as goal

pub returns : goal.returns
returns c =
    let sized : SizedProcess c.args.p =
    record { name = search rules; stack = search rules } in
    let a = c.args in
    let whole = kernel-encode-decode a.area.now (search rules) c.requires.0 in
    c.put_process.ensures ∙ sym (process-written a.area.now c.requires.0 whole a.slot a.p c.requires.1 sized)
