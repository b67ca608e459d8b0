-- The answers of the operations on both buffers.
use Rattle.std.specs.Prelude.{ℕ, List, Result}
use Rattle.store.specs.Answer.{answer_number}
use Rattle.store.specs.declared.Refusal.{Refusal}
use Rattle.machine.specs.Answer.{Buffers}
use Rattle.machine.specs.Answer.{Answer as Expected}

-- an answer with the buffers as they are then
abbrev pub answered : Result ℕ Refusal → (disc area out : List ℕ) → Expected
answered r disc area out = record { number = answer_number r; disc = disc; area = area; out = out }

abbrev pub lent : (disc area out : List ℕ) → Buffers
lent disc area out = record { disc = disc; area = area; out = out }
