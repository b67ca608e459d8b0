-- `directory::put_entry` meets its contract: the name is laid, and behind it the four bytes of the two words.
use Prim.Native.Nat.{ℕ, ◌+◌, ◌*◌}
use mathlib.Core.Path.{◌≡◌, sym, ap, ◌∙◌}
use mathlib.Core.List.{List, [], ◌∷◌, ◌++◌, append_assoc}
use lib.ListN.{length}
use Rattle.buffer.specs.Buffer.{overwrite, word_bytes}
use Rattle.buffer.proofs.Buffer.{overwrite-joined}
use Rattle.disc.specs.Layout.{entry_size, name_size}
use native.Mathlib.Omega.{arith}
use borrow.Author.Rules.{rules}
use Rattle.disc.proofs.directory.put_entry.Goals as goal

pub overwrite_at-requires : goal.overwrite_at-requires
overwrite_at-requires c =
    let named : length c.args.entry.name ≡ name_size = search rules in
    omega arith

pub returns : goal.returns
returns c =
    let named : length c.args.entry.name ≡ name_size = search rules in
    let at = c.args.i * entry_size in
    let d = c.args.disc.now in
    let e = c.args.entry in
    let fields = c.low.result ∷ c.high.result ∷ c.low-2.result ∷ c.high-2.result ∷ [] in
    let words : fields ≡ word_bytes e.start ++ word_bytes e.len = cc in
    c.overwrite_at-2.ensures
    ∙ ap (λ (l : List ℕ). overwrite l (at + name_size) fields) c.overwrite_at.ensures
    ∙ overwrite-joined d e.name fields at (at + name_size) (omega arith) (omega arith)
    ∙ ap (overwrite d at) (ap (λ (l : List ℕ). e.name ++ l) words
    ∙ sym (append_assoc e.name (word_bytes e.start) (word_bytes e.len)))
