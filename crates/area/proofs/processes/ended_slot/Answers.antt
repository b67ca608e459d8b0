-- The first slot of the ten whose process passes the test.
use Rattle.std.proofs.Common.{◌≡◌, Bool, true, false, not, rules}
use Rattle.std.proofs.lemmas.Iterator.{first_from_Range}
use Rattle.buffer.proofs.Tables.{index-tab-first}
use Rattle.machine.specs.Area.{kernel_of}
use Rattle.machine.specs.Limits.{slot_count}
use Rattle.machine.specs.State.{ended_slot, is_live}
use Rattle.machine.specs.declared.Process.{Process}
use Rattle.area.specs.Parts.{process_in}
use Rattle.area.proofs.processes.ended_slot.Goals as goal

pub returns : goal.returns
unfolding ended_slot kernel_of
returns c =
    let at = process_in c.args.area.now in
    let passes : Process → Bool = λ p. not (is_live p) in
    index-tab-first at slot_count passes c.find.result
    (first_from_Range _ _ _ _ (λ k. passes (at k) ≡ true) (λ k. passes (at k) ≡ false) c.find.ensures.ran
    (λ x q k. search rules) (λ x q k. search rules))
