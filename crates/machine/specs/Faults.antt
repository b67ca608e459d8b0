-- Which faults an instruction can have.
use Rattle.std.specs.Prelude.{ℕ, ◌≡◌, true, cond, List, [], ◌∷◌, eqb}
use Rattle.buffer.specs.Lists.{any}
use Rattle.machine.specs.Answer.{Buffers}
use Rattle.machine.specs.AtPc.{AtPc}
use Rattle.machine.specs.Demands.{EndsWith}

-- Document 01's faults by the bytes of the instructions that reach beyond their process; any other instruction ends
-- its process by STOP's 0 or one of 1 to 9
abbrev pub reaching_faults : List (ℕ × List ℕ)
reaching_faults =
    (5, 2 ∷ 5 ∷ 6 ∷ 10 ∷ []) ∷ (53, 5 ∷ 6 ∷ 13 ∷ []) ∷ (54, []) ∷ (55, 5 ∷ 6 ∷ 11 ∷ 12 ∷ []) ∷
    (56, 11 ∷ 12 ∷ 4 ∷ []) ∷ (57, 11 ∷ 12 ∷ 4 ∷ []) ∷ (58, 11 ∷ 12 ∷ 4 ∷ []) ∷ (59, 11 ∷ 12 ∷ 4 ∷ []) ∷
    (68, 5 ∷ 6 ∷ []) ∷ (69, 5 ∷ 6 ∷ []) ∷ []

unfoldable pub faults_of : ℕ → List (ℕ × List ℕ) → List ℕ
faults_of byte [] = 0 ∷ 1 ∷ 2 ∷ 3 ∷ 4 ∷ 5 ∷ 6 ∷ 7 ∷ 8 ∷ 9 ∷ []
faults_of byte (row ∷ rows) = cond (eqb byte row.0) row.1 (faults_of byte rows)

-- a fault in the record after its turn is one of the instruction's that was at PC
abbrev pub FaultsBounded : Buffers → (slot clock : ℕ) → Type 0
FaultsBounded b slot clock = (byte n : ℕ) → AtPc b slot byte → EndsWith b slot clock n
    → any (eqb n) (faults_of byte reaching_faults) ≡ true
