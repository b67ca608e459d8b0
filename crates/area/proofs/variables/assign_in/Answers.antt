-- The front as a SET leaves it, the rest as it was: the state with those variables.
use mathlib.Core.Path.{ap, refl, sym, ◌∙◌}
use borrow.Author.Rules.{rules}
use Rattle.machine.specs.Area.{kernel_of}
use Rattle.machine.proofs.Bytes.Area.{kernel-encode-decode}
use Rattle.variable.specs.Assign.{assigned, value_of}
use Rattle.variable.specs.Bytes.{variables_bytes}
use Rattle.variable.specs.declared.Variables.{Variables}
use Rattle.area.proofs.Front.{front-few, front_length, variables-front, variables-laid}
use Rattle.area.proofs.variables.assign_in.Goals as goal

pub slice_bounds-assign-end-2 : goal.slice_bounds-assign-end-2
slice_bounds-assign-end-2 c = sym (front_length c.args.area.now c.requires.0)

pub assign-requires : goal.assign-requires
assign-requires c =
    let f = front-few c.args.area.now c.requires.0 c.requires.1 in
    (f.0, f.1, c.requires.2, c.requires.3)

pub returns : goal.returns
returns c =
    let a = c.args in
    let area = a.area.now in
    let x = value_of a.kind a.bytes.now in
    let e = c.assign.ensures in record {
      placing = e.placing ∙ ap (λ (v : Variables). (assigned v a.name a.owner x).placing) (variables-front area);
      left = variables-laid area c.requires.0 (kernel-encode-decode area (λ i. search rules) c.requires.0)
          (assigned (kernel_of area).variables a.name a.owner x).variables
          (e.variables ∙ ap (λ (v : Variables). variables_bytes (assigned v a.name a.owner x).variables) (variables-front area))
          refl;
    }
