-- One byte of the zeros is set.
use Prim.Native.Nat.{ℕ}
use borrow.Author.Rules.{rules}
use mathlib.Core.Path.{ap, ◌∙◌}
use mathlib.Core.List.{List}
use lib.ListN.{replicate, set}
use Rattle.machine.specs.Limits.{next_at}
use Rattle.operation.proofs.format.clear_area.Goals as goal

pub returns : goal.returns
returns c =
    ap (λ (l : List ℕ). set l next_at 1) (c.fill.ensures.after (λ y e. search rules) ∙ ap (λ (n : ℕ). replicate n 0) c.requires)
