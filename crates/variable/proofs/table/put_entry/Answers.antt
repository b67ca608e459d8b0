-- The entry's bytes laid over are the bytes of the variables with that entry.
use Prim.Native.Nat.{ℕ, ◌+◌, ◌*◌}
use mathlib.Core.Path.{ap, ◌∙◌}
use mathlib.Core.List.{List}
use borrow.Author.Rules.{rules}
use Rattle.buffer.specs.Buffer.{overwrite}
use Rattle.variable.specs.Limits.{entries_at, entry_size}
use Rattle.variable.proofs.Bytes.{entry-written}
use Rattle.variable.proofs.table.put_entry.Goals as goal

pub returns : goal.returns
returns c =
    let a = c.args in
    c.overwrite_at.ensures
    ∙ ap (λ (b : List ℕ). overwrite a.variables.now (entries_at + a.i * entry_size) b) c.entry_bytes-bytes.ensures
    ∙ entry-written a.variables.now (λ i. search rules) c.requires.0 a.i a.e c.requires.1
