-- The loop: whether none of the first j has the ID.
use mathlib.Core.Path.{◌≡◌}
use lib.ListN.{take}
use Rattle.buffer.specs.Lists.{all}
use Rattle.validation.proofs.Slots.{other}
use Rattle.validation.proofs.good.ids.is_new.Given as goal

abbrev pub invariant-loop-j : goal.invariant-loop-j
invariant-loop-j l = l.new ≡ all (other l.id) (take l.j l.ids)
