-- A CHAR's power is an INT's, reduced.
use Rattle.std.proofs.Common.{rules, ap}
use Rattle.number.specs.declared.Number.TheVariants.{Char}
use Rattle.scaling.proofs.Powers.{char-raised}
use Rattle.scaling.proofs.power.raise.Goals as goal

pub returns-in-Chars : goal.returns-in-Chars
returns-in-Chars c =
    rw c.in-Chars.is (ap Char (char-raised c.in-Chars.x (search rules) c.args.n c.power16.result
    (record { sfits = c.power16.type_inv }) c.power16.ensures c.reduce.ensures))
