-- `file::enter` meets its contract: the new entry is put last, and the count goes up.
use Prim.Native.Nat.{ℕ, ◌*◌}
use mathlib.Core.Path.{ap, ◌∙◌}
use mathlib.Core.List.{List}
use native.Mathlib.Omega.{arith}
use Rattle.buffer.specs.Buffer.{overwrite}
use Rattle.disc.specs.Directory.{entry_bytes}
use Rattle.disc.specs.Layout.{entry_size}
use Rattle.store.proofs.Steps.{entered-steps}
use Rattle.store.proofs.file.enter.Goals as goal

pub returns : goal.returns
returns c =
    let n = c.file_count-count in
    let a = c.args in
    entered-steps a.disc.now (omega arith) _ a.name.now a.n a.start n.result n.ensures (omega arith)
    (c.put_entry.ensures
    ∙ ap (λ (l : List ℕ). overwrite a.disc.now (n.result * entry_size) (entry_bytes (record { name = l; start = a.start; len = a.n })))
    c.pad-field.ensures)
