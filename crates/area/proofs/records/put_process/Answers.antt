-- The name is laid, behind it the registers, behind them the stack: one record's bytes.
use Prim.Native.Nat.{◌+◌}
use mathlib.Core.Path.{◌≡◌, ap, ◌∙◌}
use native.Mathlib.Omega.{arith}
use borrow.Author.Rules.{rules}
use lib.ListN.{length}
use Rattle.buffer.specs.Buffer.{overwrite}
use Rattle.disc.specs.Layout.{name_size}
use Rattle.machine.specs.Area.{register_bytes, stack_at}
use Rattle.machine.specs.Limits.{stack_size}
use Rattle.area.specs.Parts.{record_at}
use Rattle.buffer.proofs.Runs.{three-laid}
use Rattle.area.proofs.records.put_process.Goals as goal

pub overwrite_at-requires : goal.overwrite_at-requires
overwrite_at-requires c =
    let sizes : (length c.args.p.name ≡ name_size) × (length c.args.p.stack ≡ stack_size) = search rules in
    omega arith

pub overwrite_at-requires-3 : goal.overwrite_at-requires-3
overwrite_at-requires-3 c =
    let sizes : (length c.args.p.name ≡ name_size) × (length c.args.p.stack ≡ stack_size) = search rules in
    omega arith

pub returns : goal.returns
returns c =
    let p = c.args.p in
    let at = record_at c.args.slot in
    let sizes : (length p.name ≡ name_size) × (length p.stack ≡ stack_size) = search rules in
    let one = c.overwrite_at.new.dst in
    three-laid c.args.area.now p.name (register_bytes p) p.stack at (at + name_size) (at + stack_at)
    (omega arith) (omega arith) (omega arith) one c.overwrite_at-2.new.dst c.overwrite_at-3.new.dst c.overwrite_at.ensures
    (c.overwrite_at-2.ensures ∙ ap (overwrite one (at + name_size)) c.register_bytes-registers.ensures) c.overwrite_at-3.ensures
