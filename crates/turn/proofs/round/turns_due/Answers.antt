-- State and share of the record, read in place.
use mathlib.Core.Path.{◌≡◌, sym, ap, ◌∙◌}
use borrow.Author.Tests.{eq-eqb, ne_eqb}
use Prim.Native.Nat.{ℕ, ◌<◌}
use mathlib.Core.List.{List}
use lib.Dec.{eqb}
use lib.ListN.{get_or}
use Rattle.area.proofs.Reading.{process-read}
use Rattle.area.specs.Parts.{record_at}
use Rattle.buffer.specs.Buffer.{part}
use Rattle.machine.specs.Area.{kernel_of}
use Rattle.machine.specs.Limits.{record_size, slot_count}
use Rattle.machine.specs.State.{is_running, process_at}
use Rattle.machine.specs.declared.Process.{Process}
use Rattle.turn.proofs.round.turns_due.Goals as goal

module _ (area : List ℕ) (slot : ℕ) (low : slot < slot_count) {bytes : List ℕ} (read : bytes ≡ part area (record_at slot) record_size) where
  state-is : is_running (process_at (kernel_of area) slot) ≡ eqb (get_or bytes 14 0) 114
  state-is = ap is_running (process-read area slot low) ∙ sym (ap (λ l. eqb (get_or l 14 0) 114) read)

  share-is : (process_at (kernel_of area) slot).share ≡ get_or bytes 31 0
  share-is = ap (λ (p : Process). p.share) (process-read area slot low) ∙ sym (ap (λ l. get_or l 31 0) read)

pub returns-then-bytes-ne-RUNNING : goal.returns-then-bytes-ne-RUNNING
returns-then-bytes-ne-RUNNING c =
    rw (state-is c.args.area.now c.args.slot c.requires.1 c.record_at-bytes.ensures.0 ∙ ne_eqb _ _ c.if-bytes-ne-RUNNING.true)

pub returns-then-bytes-eq0 : goal.returns-then-bytes-eq0
returns-then-bytes-eq0 c =
    let a = c.args in
    let running = state-is a.area.now a.slot c.requires.1 c.record_at-bytes.ensures.0 ∙ eq-eqb _ _ c.if-bytes-ne-RUNNING.false in
    rw (running, share-is a.area.now a.slot c.requires.1 c.record_at-bytes.ensures.0, eq-eqb _ 0 c.if-bytes-eq0.true)

pub returns : goal.returns
returns c =
    let a = c.args in
    let running = state-is a.area.now a.slot c.requires.1 c.record_at-bytes.ensures.0 ∙ eq-eqb _ _ c.if-bytes-ne-RUNNING.false in
    rw (running, share-is a.area.now a.slot c.requires.1 c.record_at-bytes.ensures.0, ne_eqb _ 0 c.if-bytes-eq0.false)
