-- The laws of Mapping on the three differences and the number added.
use mathlib.Core.Path.{sym, ◌∙◌, ap₂}
use lib.IntN.{ℤ, ◌*ℤ◌, ◌+ℤ◌}
use lib.Signed.{quot_z}
use Rattle.scaling.specs.Map.{map_exact}
use Rattle.scaling.proofs.Mapping.{adds, divides, reads-exact}
use Rattle.scaling.proofs.map.Operands.map_exact.Goals as goal

pub nonzero_div-result : goal.nonzero_div-result
nonzero_div-result c =
    let x = c.difference in
    let y = c.difference-2 in
    let z = c.difference-3 in
    divides x.result y.result x.type_inv y.type_inv x.ensures.1 y.ensures.1 z.result z.type_inv
    (λ e. c.requires (sym z.ensures.0 ∙ e))

pub overflow_add-result : goal.overflow_add-result
overflow_add-result c =
    let x = c.difference in
    let y = c.difference-2 in
    let z = c.difference-3 in
    let d = c.exact_of in
    adds x.result y.result x.type_inv y.type_inv x.ensures.1 y.ensures.1 z.result z.type_inv d.result d.type_inv

pub returns : goal.returns
unfolding map_exact
returns c =
    let x = c.difference in
    let y = c.difference-2 in
    let z = c.difference-3 in
    let d = c.exact_of in
    reads-exact x.result y.result x.type_inv y.type_inv x.ensures.1 y.ensures.1 z.result z.type_inv d.result d.type_inv
    ∙ ap₂ (λ (p q : ℤ). p +ℤ q) (ap₂ quot_z (ap₂ (λ (p q : ℤ). p *ℤ q) x.ensures.0 y.ensures.0) z.ensures.0) d.ensures
