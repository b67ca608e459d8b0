-- The bytes spelled are the first twelve.
use native.Mathlib.Omega.{arith}
use Rattle.buffer.specs.Lists.{tab}
use Rattle.buffer.proofs.Words.{spelled}
use Rattle.disc.specs.Layout.{name_size}
use Rattle.area.proofs.records.name_of.Goals as goal

pub returns : goal.returns
unfolding tab
returns c =
    spelled c.args.bytes.now 0 name_size (omega arith)
