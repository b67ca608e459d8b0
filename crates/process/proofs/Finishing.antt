-- An end: its variables freed in place and then the record put back are the bytes of the state with the process ended.
use Prim.Native.Nat.{ℕ, ◌≤◌}
use mathlib.Core.Path.{◌≡◌, ap, ◌∙◌}
use mathlib.Core.List.{List}
use lib.ListN.{length}
use Rattle.variable.specs.Limits.{max_variables}
use Rattle.variable.specs.Table.{freed, freed_all}
use Rattle.variable.specs.declared.Variable.{Variable}
use Rattle.variable.proofs.Freeing.{freed-shaped}
use mathlib.Core.Bool.{Bool}
use Rattle.machine.specs.Area.{kernel_bytes, kernel_of}
use Rattle.machine.specs.Ended.{ended, ended_process}
use Rattle.machine.specs.Limits.{area_length}
use Rattle.machine.specs.State.{process_at, with_process, with_variables}
use Rattle.machine.specs.declared.Process.{Process}
use Rattle.machine.proofs.Bytes.Area.{kernel-decode-encode}
use Rattle.machine.proofs.Bytes.Sizes.{decoded-sized, with-variables-sized}

-- what an area says after a freeing
pub freed-state : (area next : List ℕ) (gone : Variable → Bool) → length area ≡ area_length
    → (kernel_of area).variables.count ≤ max_variables
    → next ≡ kernel_bytes (with_variables (kernel_of area) (freed (kernel_of area).variables gone))
    → kernel_of next ≡ with_variables (kernel_of area) (freed (kernel_of area).variables gone)
freed-state area next gone size few x =
    let k = kernel_of area in
    let sized = decoded-sized area size in
    let left = freed k.variables gone in
    ap kernel_of x
    ∙ kernel-decode-encode (with_variables k left)
    (with-variables-sized k sized left (freed-shaped k.variables gone few sized.variables))

pub finished-bytes : (area next : List ℕ) (slot fault : ℕ) {p q : Process} {after : List ℕ}
    → p ≡ process_at (kernel_of area) slot
    → kernel_of next ≡ with_variables (kernel_of area) (freed_all (kernel_of area).variables p.id)
    → q ≡ ended_process p fault → after ≡ kernel_bytes (with_process (kernel_of next) slot q)
    → after ≡ kernel_bytes (ended (kernel_of area) slot fault)
unfolding ended
finished-bytes area next slot fault {p} {q} e n r x =
    let k = kernel_of area in
    x
    ∙ (λ t. kernel_bytes (with_process (n t) slot (r t)))
    ∙ ap (λ (o : Process). kernel_bytes (with_process (with_variables k (freed_all k.variables o.id)) slot (ended_process o fault))) e
