-- What C gets back: the number, and the three buffers as they are then.
use Rattle.std.specs.Prelude.{ℕ, List, ℤ}
use Rattle.machine.specs.Answer.{Answer}

abbrev pub returned : ℤ → (disc area out : List ℕ) → Answer
returned number disc area out = record { number = number; disc = disc; area = area; out = out }
