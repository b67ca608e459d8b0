-- `directory::entry_at` meets its contract: the name and the two words are the fields of the entry's bytes.
use Prim.Native.Nat.{◌*◌}
use Rattle.disc.specs.Directory.{entry_at}
use Rattle.disc.specs.Layout.{entry_size}
use Rattle.disc.proofs.Entries.{entry-fields}
use native.Mathlib.Omega.{arith}
use Rattle.disc.proofs.directory.entry_at.Goals as goal

pub returns : goal.returns
unfolding entry_at
returns c =
    let a = c.args in
    entry-fields a.disc.now (a.i * entry_size) _ _ _ (omega arith) c.copy_part.ensures c.word_at-start.ensures
    c.word_at-len.ensures
