-- A slot that runs has its turn; any other changes nothing, and its area is already the bytes of the state that it says.
use mathlib.Core.Path.{◌≡◌, sym, ap, ◌∙◌}
use mathlib.Core.Bool.{true, false}
use mathlib.Core.List.{[]}
use borrow.Author.Rules.{rules}
use borrow.Author.Tests.{eq-eqb, ne_eqb}
use lib.Seq.{paste-zero}
use Rattle.machine.specs.Area.{AreBytes, Whole, kernel_of}
use Rattle.machine.specs.Operations.{turn_if_running}
use Rattle.machine.specs.State.{is_running, process_at}
use Rattle.machine.proofs.Bytes.Area.{kernel-encode-decode}
use Rattle.turn.specs.Turns.{turn_left}
use Rattle.turn.proofs.Passing.{area-size}
use Rattle.turn.proofs.round.turn_if_running.Goals as goal

pub process_at-p-requires : goal.process_at-p-requires
process_at-p-requires c = record { area_len = area-size c.requires.0; slot_lt_slot_count = c.requires.1 }

pub take_turn-requires : goal.take_turn-requires
take_turn-requires c =
    (c.requires.0, c.requires.1, c.requires.2, c.process_at-p.ensures, eq-eqb _ _ c.if-p-eq-RUNNING.true)

pub returns-then-p-eq-RUNNING : goal.returns-then-p-eq-RUNNING
unfolding turn_if_running
returns-then-p-eq-RUNNING c =
    let running : is_running c.process_at-p.result ≡ true = eq-eqb _ _ c.if-p-eq-RUNNING.true in
    rw (sym (ap is_running c.process_at-p.ensures) ∙ running) c.take_turn.ensures

pub returns : goal.returns
unfolding turn_if_running
returns c =
    let a = c.args in
    let idle : is_running (process_at (kernel_of a.area.now) a.slot) ≡ false =
    sym (ap is_running c.process_at-p.ensures) ∙ ne_eqb _ _ c.if-p-eq-RUNNING.false in
    let bytes : AreBytes a.area.now = λ i. search rules in
    let whole : Whole a.area.now = kernel-encode-decode a.area.now bytes (area-size c.requires.0) in
    rw idle (λ t. turn_left 0 a.disc.now (sym whole t) (sym (paste-zero a.out.now 0 []) t))
