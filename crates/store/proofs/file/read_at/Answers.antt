-- `file::read_at` meets its contract: a part of the disc is a part of the file.
use Prim.Native.Nat.{ℕ}
use mathlib.Core.Path.{sym, ap, ◌∙◌}
use mathlib.Core.List.{List}
use native.Mathlib.Omega.{arith}
use lib.ListN.{length}
use Rattle.buffer.specs.Buffer.{part}
use Rattle.buffer.proofs.Parts.{part-of-part}
use Rattle.disc.proofs.Locations.{contents-part}
use Rattle.store.specs.File.{read_at}
use Rattle.store.proofs.file.read_at.Goals as goal

pub returns : goal.returns
unfolding read_at
returns c =
    let a = c.args in
    let n = length a.out.now in
    c.copy_part.ensures
    ∙ sym (part-of-part a.disc.now a.run.start a.run.len a.offset n (omega arith))
    ∙ ap (λ (l : List ℕ). part l a.offset n) (sym (contents-part a.disc.now a.run))
