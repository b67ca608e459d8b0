-- The root stays between low and low + width, which falls to 1.
use Prim.Native.Nat.{ℕ, suc, ◌+◌, ◌-◌, ◌*◌, ◌/◌, ◌^◌, ◌<◌}
use mathlib.Core.Path.{◌≡◌, refl, ap, ◌∙◌}
use native.Mathlib.Nat.{pow-suc}
use native.Mathlib.Omega.{arith}
use lib.Pow.{pow_pos}
use borrow.Author.Rules.{rules}
use Rattle.root.proofs.Bisection.{upper-half, lower-half, single}
use Rattle.root.proofs.whole_root.Goals as goal
use Rattle.root.proofs.whole_root.Goals.{then-low-half, else-low-half}

-- ---- the width, by how many turns there were
halved : (k w : ℕ) → k < 32 → w ≡ 2 ^ (32 - k) → (1 < w) × (w - w / 2 ≡ 2 ^ (32 - (k + 1)))
halved k w h e =
    let left = 32 - (k + 1) in
    let one-more : 32 - k ≡ suc left = omega arith in
    let twice : w ≡ 2 ^ left * 2 = e ∙ ap (λ (m : ℕ). 2 ^ m) one-more ∙ pow-suc 2 left in
    let some : 0 < 2 ^ left = pow_pos left in
    (omega arith, omega arith)

pub loop-init : goal.loop-init
loop-init c = (omega arith, refl, search rules)

pub loop-preserved : goal.loop-preserved
loop-preserved c =
    let l = c.loop in
    let w = halved l.counter l.width (omega arith) l.invariant.1 in (
      omega arith,
      w.1,
      elim c.if-low-half.branch [
        | then-low-half t ↦ upper-half c.args.n l.low l.width l.invariant.2 w.0 t.low-is t.if-low-half.true
        | else-low-half t ↦ lower-half c.args.n l.low l.width l.invariant.2 w.0 t.low-is t.if-low-half.false
      ],
    )

pub returns : goal.returns
returns c =
    let l = c.loop in
    let none : 32 - l.counter ≡ 0 = omega arith in
    let one : l.width ≡ 1 = l.invariant.1 ∙ ap (λ (m : ℕ). 2 ^ m) none in
    single c.args.n l.low l.width l.invariant.2 (omega (arith, one))
