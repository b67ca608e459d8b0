-- The number's bytes are the first of those encoded.
use Rattle.std.proofs.Common.{take}
use mathlib.Core.Path.{subst⁻¹}
use Prim.Native.Nat.{◌≤◌}
use Rattle.number.specs.declared.value.Encoded.{Encoded}
use Rattle.stack.proofs.Steps.{encoded-few, number_pushed}
use Rattle.stack.proofs.frame.Running.push_number.Goals as goal

pub as_slice-requires : goal.as_slice-requires
as_slice-requires c =
    let e = c.encode-encoded in
    subst⁻¹ (λ (e : Encoded). e.kind ≤ 4) e.ensures (encoded-few c.args.a)

pub returns : goal.returns
returns c =
    let a = c.args in
    rw (← number_pushed a.a (take a.kept a.self.now.stack.now), ← c.encode-encoded.ensures, ← c.as_slice.ensures)
    c.push_item.ensures
