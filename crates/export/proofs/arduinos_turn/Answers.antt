-- Turn through C: the operation's answer under its number.
use mathlib.Core.Path.{◌∙◌}
use borrow.Author.Rules.{rules}
use mir.Facts.{to_z-of_z}
use mir.Syntax.{w32}
use Rattle.export.proofs.Numbered.{numbered}
use Rattle.export.proofs.arduinos_turn.Goals as goal

pub returns : goal.returns
returns c =
    numbered _ _ _ (to_z-of_z {w = w32} (search rules) ∙ c.number.ensures) c.turn.ensures
