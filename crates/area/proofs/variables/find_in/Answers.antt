-- The lookup in the front.
use mathlib.Core.Path.{ap, sym, ◌∙◌}
use Rattle.variable.specs.Table.{find}
use Rattle.variable.specs.declared.Variables.{Variables}
use Rattle.area.proofs.Front.{front-few, front_length, variables-front}
use Rattle.area.proofs.variables.find_in.Goals as goal

pub slice_bounds-find_variable-end : goal.slice_bounds-find_variable-end
slice_bounds-find_variable-end c = sym (front_length c.args.area.now c.requires.0)

pub find_variable-requires : goal.find_variable-requires
find_variable-requires c = front-few c.args.area.now c.requires.0 c.requires.1

pub returns : goal.returns
returns c =
    let a = c.args in
    c.find_variable.ensures ∙ ap (λ (v : Variables). find v a.name a.owner) (variables-front a.area.now)
