-- Store through C: the operation's answer under its number.
use mathlib.Core.Path.{ap, ◌∙◌}
use borrow.Author.Rules.{rules}
use mir.Facts.{to_z-of_z}
use mir.Syntax.{w32}
use Rattle.machine.specs.Answer.{answer, on_disc, other_answer}
use Rattle.operation.specs.Answers.{lent}
use Rattle.store.specs.Answer.{Updated}
use Rattle.export.proofs.Numbered.{numbered}
use Rattle.export.proofs.arduinos_store.Goals as goal

pub returns : goal.returns
unfolding answer other_answer
returns c area out =
    let a = c.args in
    numbered _ _ _ (to_z-of_z {w = w32} (search rules) ∙ c.number.ensures)
    (ap (λ (u : Updated). on_disc u (lent a.disc.now area out)) c.store.ensures)
