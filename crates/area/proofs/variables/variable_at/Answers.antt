-- The entry that the front says.
use mathlib.Core.Path.{ap, sym, ◌∙◌}
use lib.ListN.{get_or}
use Rattle.variable.specs.Table.{no_variable}
use Rattle.variable.specs.declared.Variables.{Variables}
use Rattle.area.proofs.Front.{front_length, variables-front}
use Rattle.area.proofs.variables.variable_at.Goals as goal

pub slice_bounds-entry_at-end : goal.slice_bounds-entry_at-end
slice_bounds-entry_at-end c = sym (front_length c.args.area.now c.requires.0)

pub entry_at-requires : goal.entry_at-requires
entry_at-requires c = (front_length c.args.area.now c.requires.0, c.requires.1)

pub returns : goal.returns
returns c =
    c.entry_at.ensures
    ∙ ap (λ (v : Variables). get_or v.entries c.args.i no_variable) (variables-front c.args.area.now)
