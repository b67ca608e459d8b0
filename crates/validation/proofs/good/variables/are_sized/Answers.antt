-- Each turn tests one variable more.
use Prim.Native.Nat.{ℕ, ◌+◌, ◌*◌}
use mathlib.Core.Path.{◌≡◌, refl, sym, ap, ap₂, ◌∙◌}
use mathlib.Core.Bool.{Bool, ◌&&◌}
use native.Mathlib.Omega.{arith}
use Rattle.buffer.specs.Lists.{all, tab}
use Rattle.buffer.proofs.Equivalence.{all-tab-more}
use Rattle.buffer.proofs.Parts.{part-byte}
use Rattle.validation.specs.Columns.{sized}
use Rattle.variable.specs.Limits.{entries_at, entry_size}
use Rattle.variable.specs.Bytes.{variable_in}
use Rattle.validation.proofs.good.variables.are_sized.Goals as goal

pub loop-i-init : goal.loop-i-init
unfolding all tab
loop-i-init c = (omega arith, refl)

-- what the tests of a turn say of the variable
tested : (c : goal.After-is_inside) → c.is_good_size.result && c.is_inside.result ≡ sized (variable_in c.args.area.now c.loop-i.i)
unfolding sized
tested c =
    let a = c.args.area.now in
    let at = entries_at + c.loop-i.i * entry_size in
    cc (part-byte a at entry_size 1 (omega arith), part-byte a at entry_size 2 (omega arith), part-byte a at entry_size 3 (omega arith))

pub loop-i-preserved : goal.loop-i-preserved
loop-i-preserved c = (
  omega arith,
  ap₂ (λ (x y : Bool). x && y) c.loop-i.invariant.1 (tested c)
      ∙ sym (all-tab-more sized (variable_in c.args.area.now) c.loop-i.i),
)

pub returns : goal.returns
returns c =
    let a = c.args in
    let q : c.loop-i.i ≡ a.count = omega arith in
    c.loop-i.invariant.1 ∙ ap (λ (n : ℕ). all sized (tab (variable_in a.area.now) n)) q
