-- Each turn tests one owner more.
use Prim.Native.Nat.{ℕ}
use mathlib.Core.Path.{◌≡◌, refl, sym, ap, ap₂, ◌∙◌}
use mathlib.Core.Bool.{Bool, ◌&&◌}
use native.Mathlib.Omega.{arith}
use lib.ListN.{take}
use Rattle.buffer.specs.Lists.{all}
use Rattle.buffer.proofs.Equivalence.{all-take-more}
use Rattle.validation.proofs.good.variables.are_owned.Invariants.{owns}
use Rattle.validation.proofs.good.variables.are_owned.Goals as goal

pub loop-i-init : goal.loop-i-init
unfolding all
loop-i-init c = refl

pub loop-i-preserved : goal.loop-i-preserved
loop-i-preserved c =
    let a = c.args in
    ap₂ (λ (x y : Bool). x && y) c.loop-i.invariant c.is_owner-good.ensures
    ∙ sym (all-take-more (owns a.ids.now) a.owners.now c.loop-i.i 0 (omega arith))

pub returns : goal.returns
returns c =
    let a = c.args in
    let whole : c.loop-i.i ≡ a.count = omega arith in
    c.loop-i.invariant ∙ ap (λ (k : ℕ). all (owns a.ids.now) (take k a.owners.now)) whole
