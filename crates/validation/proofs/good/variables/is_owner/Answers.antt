-- Each turn compares one slot more; ID 0 owns nothing.
use mathlib.Core.Path.{refl, sym, ap, ◌∙◌}
use mathlib.Core.Bool.{Bool, ◌&&◌, ◌||◌, not}
use native.Mathlib.Omega.{arith}
use lib.Dec.{eqb}
use lib.ListN.{get_or}
use lib.Seq.{take_all}
use Rattle.buffer.specs.Lists.{any}
use Rattle.buffer.proofs.Equivalence.{any-take-more}
use Rattle.validation.proofs.Slots.{owner-kept}
use Rattle.validation.proofs.good.variables.is_owner.Goals as goal

pub loop-i-init : goal.loop-i-init
unfolding any
loop-i-init c = refl

pub loop-i-preserved : goal.loop-i-preserved
loop-i-preserved c =
    let a = c.args in
    ap (λ (x : Bool). x || eqb a.id (get_or a.ids.now c.loop-i.i 0)) c.loop-i.invariant
    ∙ sym (any-take-more (eqb a.id) a.ids.now c.loop-i.i 0 (omega arith))

pub returns : goal.returns
returns c =
    let a = c.args in
    ap (λ (x : Bool). not (eqb a.id 0) && x) (c.loop-i.invariant
    ∙ ap (any (eqb a.id)) (take_all c.loop-i.i a.ids.now (omega arith)))
    ∙ owner-kept a.id a.ids.now
