-- Free space through C: the operation's answer under its number.
use mathlib.Core.Path.{ap, ◌∙◌}
use borrow.Author.Rules.{rules}
use mir.Facts.{to_z-of_z}
use mir.Syntax.{w32}
use lib.IntN.{ℤ}
use Rattle.machine.specs.Answer.{answer, other_answer}
use Rattle.export.specs.Returned.{returned}
use Rattle.export.proofs.Numbered.{numbered}
use Rattle.export.proofs.arduinos_free_space.Goals as goal

pub returns : goal.returns
unfolding answer other_answer
returns c area out =
    let a = c.args in
    numbered _ _ _ (to_z-of_z {w = w32} (search rules) ∙ c.number.ensures)
    (ap (λ (n : ℤ). returned n a.disc.now area out) c.free_space.ensures)
