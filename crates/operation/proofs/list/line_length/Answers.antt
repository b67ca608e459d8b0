-- A number's digits, a name's bytes, and four more; nothing for a process that has ended.
use Prim.Native.Nat.{ℕ}
use mathlib.Core.Path.{sym, ap, ◌∙◌}
use native.Mathlib.Omega.{arith}
use lib.ListN.{length}
use Rattle.decimal.specs.Decimal.{decimal, max_digits}
use Rattle.decimal.proofs.Laws.{digits-few}
use Rattle.disc.proofs.Names.{field-short, text-measured}
use Rattle.machine.specs.Area.{process_of}
use Rattle.operation.proofs.Lines.{ended-line, live-line, process-line-long}
use Rattle.operation.proofs.list.line_length.Goals as goal

pub returns-then-not-is_live : goal.returns-then-not-is_live
returns-then-not-is_live c =
    sym (ap length (ended-line (process_of c.args.bytes.now) (sym c.is_live.ensures ∙ c.if-not-is_live.true)))

-- both are short, so that their sum fits
pub overflow_add-result : goal.overflow_add-result
overflow_add-result c =
    let named = text-measured _ _ c.text_length.ensures in
    omega (arith, digits-few max_digits c.word_at-id.result, field-short c.args.bytes.now)

pub overflow_add-result-2 : goal.overflow_add-result-2
overflow_add-result-2 c =
    let named = text-measured _ _ c.text_length.ensures in
    omega (arith, digits-few max_digits c.word_at-id.result, field-short c.args.bytes.now)

pub returns : goal.returns
returns c =
    let p = process_of c.args.bytes.now in
    let live = live-line p (sym c.is_live.ensures ∙ c.if-not-is_live.false) in
    let named = text-measured _ _ c.text_length.ensures in
    omega (arith, ap length live, process-line-long p, ap (λ (n : ℕ). length (decimal n)) c.word_at-id.ensures)
