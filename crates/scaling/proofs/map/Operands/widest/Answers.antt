-- One number after another.
use Rattle.scaling.proofs.map.Operands.widest.Goals as goal

pub returns : goal.returns
returns c =
    rw (← c.wider_of.ensures, ← c.wider_of-of_two.ensures, ← c.wider_of-2.ensures, ← c.wider_of-3.ensures)
    c.wider_of-4.ensures
