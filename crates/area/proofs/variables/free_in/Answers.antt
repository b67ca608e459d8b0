-- The front without the variables that go, the rest as it was: the state without them.
use mathlib.Core.Path.{ap, refl, sym, ◌∙◌}
use borrow.Author.Rules.{rules}
use lib.ListN.{length}
use mathlib.Core.Path.{◌≡◌}
use Rattle.machine.specs.Area.{kernel_of}
use Rattle.machine.specs.Limits.{area_length}
use Rattle.machine.proofs.Bytes.Area.{kernel-encode-decode}
use Rattle.variable.specs.Bytes.{variables_bytes}
use Rattle.variable.specs.Table.{freed}
use Rattle.variable.specs.declared.Variables.{Variables}
use Rattle.area.proofs.Front.{front-few, front_length, variables-front, variables-laid}
use Rattle.area.proofs.variables.free_in.Goals as goal

pub slice_bounds-free-end-2 : goal.slice_bounds-free-end-2
slice_bounds-free-end-2 g c = sym (front_length c.args.area.now (search rules))

pub free-requires : goal.free-requires
free-requires g c = let few = front-few c.args.area.now (search rules) c.requires.1 in search rules

pub returns : goal.returns
returns g c test says =
    let area = c.args.area.now in
    let size : length area ≡ area_length = search rules in
    variables-laid area size (kernel-encode-decode area (λ i. search rules) size)
    (freed (kernel_of area).variables test)
    (c.free.ensures test says ∙ ap (λ (v : Variables). variables_bytes (freed v test)) (variables-front area)) refl
