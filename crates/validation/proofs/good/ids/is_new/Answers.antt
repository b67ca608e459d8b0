-- ID 0 is always new; another one is compared with each before it.
use Prim.Native.Nat.{ℕ}
use mathlib.Core.Path.{◌≡◌, refl, sym, ap, ◌∙◌}
use mathlib.Core.Bool.{Bool, ◌&&◌}
use native.Mathlib.Omega.{arith}
use lib.ListN.{get_or, take}
use Rattle.buffer.specs.Lists.{all}
use Rattle.buffer.proofs.Equivalence.{all-take-more}
use Rattle.validation.proofs.Slots.{none-differs, other, some-differs}
use Rattle.validation.proofs.good.ids.is_new.Goals as goal

pub returns-then-id-eq0 : goal.returns-then-id-eq0
returns-then-id-eq0 c =
    let a = c.args in
    none-differs (get_or a.ids.now a.i 0) (take a.i a.ids.now) c.if-id-eq0.true

pub loop-j-init : goal.loop-j-init
unfolding all
loop-j-init c = refl

pub loop-j-preserved : goal.loop-j-preserved
loop-j-preserved c =
    let ids = c.args.ids.now in
    let id = get_or ids c.args.i 0 in
    ap (λ (x : Bool). x && other id (get_or ids c.loop-j.j 0)) c.loop-j.invariant
    ∙ sym (all-take-more (other id) ids c.loop-j.j 0 (omega arith))

pub returns : goal.returns
returns c =
    let a = c.args in
    let id = get_or a.ids.now a.i 0 in
    let whole : c.loop-j.j ≡ a.i = omega arith in
    c.loop-j.invariant ∙ ap (λ (k : ℕ). all (other id) (take k a.ids.now)) whole
    ∙ some-differs id (take a.i a.ids.now) c.if-id-eq0.false
