-- The step of the process is its instruction's effect, and what is carried out and printed is that effect; or its fault ends it.
use mathlib.Core.Path.{◌≡◌, sym, ap, ◌∙◌}
use borrow.Author.Rules.{rules}
use lib.ListN.{length}
use Rattle.machine.specs.Area.{kernel_of}
use Rattle.machine.specs.Limits.{stack_size}
use Rattle.machine.specs.State.{is_running}
use Rattle.process.specs.Stepping.{stack_of}
use Rattle.turn.proofs.Bounded.{carries, effect_is, fault_is, may-step}
use Rattle.turn.proofs.Passing.{area-size, few-variables}
use Rattle.turn.proofs.Printed.{turn-faulted, turn-taken}
use Rattle.turn.proofs.take.take_turn.Goals as goal

pub next_step-requires : goal.next_step-requires
next_step-requires c =
    let a = c.args in
    let (passes, low, _, is, runs) = c.requires in
    may-step a.disc.now a.area.now passes a.slot low (sym (ap is_running is) ∙ runs) a.p is

pub carry_out-requires : goal.carry_out-requires
carry_out-requires c =
    let a = c.args in
    let (passes, low, _, is, runs) = c.requires in
    let d = c.in-Ok.d in
    let size : length d.bytes ≡ stack_size = search rules in
    carries a.disc.now a.area.now passes a.slot low (sym (ap is_running is) ∙ runs) a.p is a.clock d size c.in-Ok.ensures

pub print-requires : goal.print-requires
print-requires c = (c.in-Ok.ensures.len, c.requires.2)

pub returns-in-Ok : goal.returns-in-Ok
returns-in-Ok c =
    let a = c.args in
    let (passes, low, _, is, runs) = c.requires in
    let d = c.in-Ok.d in
    turn-taken (kernel_of a.area.now) a.slot a.disc.now a.clock (stack_of a.p) d
    (effect_is a.disc.now a.area.now passes a.slot low (sym (ap is_running is) ∙ runs) a.p is a.clock d c.in-Ok.ensures)
    c.print.result c.carry_out.new.disc c.carry_out.new.area a.out.now c.print.new.out c.carry_out.ensures c.print.ensures

pub fail-requires : goal.fail-requires
fail-requires c = (area-size c.requires.0, c.requires.1, few-variables c.requires.0)

pub returns-in-Err : goal.returns-in-Err
returns-in-Err c =
    let a = c.args in
    let (passes, low, _, is, runs) = c.requires in
    turn-faulted (kernel_of a.area.now) a.slot a.disc.now a.clock _
    (fault_is a.disc.now a.area.now passes a.slot low (sym (ap is_running is) ∙ runs) a.p is a.clock _ c.in-Err.ensures)
    c.fail.new.area a.out.now c.fail.ensures
