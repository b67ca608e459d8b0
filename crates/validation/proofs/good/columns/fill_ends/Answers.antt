-- Each turn fills one place more with the sum of address and size.
use Prim.Native.Nat.{ℕ, ◌+◌, ◌*◌}
use mathlib.Core.Path.{ap₂}
use native.Mathlib.Omega.{arith}
use Rattle.buffer.proofs.Parts.{part-byte}
use Rattle.validation.proofs.Columns.{column-filled, column-next, column-none}
use Rattle.variable.specs.Limits.{entries_at, entry_size}
use Rattle.validation.proofs.good.columns.fill_ends.Goals as goal

pub loop-i-init : goal.loop-i-init
loop-i-init c = column-none _ _ _

pub loop-i-preserved : goal.loop-i-preserved
loop-i-preserved c =
    let a = c.args.area.now in
    let at = entries_at + c.loop-i.i * entry_size in
    column-next _ _ _ c.loop-i.invariant (omega arith) (omega arith)
    (rw (part-byte a at entry_size 2 (omega arith), part-byte a at entry_size 3 (omega arith))
    (ap₂ (λ (x y : ℕ). x + y) c.wide.ensures.0 c.wide-in-loop-i.ensures.0))

pub returns : goal.returns
returns c = column-filled _ _ _ c.loop-i.invariant (omega arith)
