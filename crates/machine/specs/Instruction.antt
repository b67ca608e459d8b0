-- The instructions and their numbers.
use Rattle.std.specs.Prelude.{ℕ, true, false, cond, List, [], ◌∷◌, eqb}
use Rattle.std.specs.Prelude.{None, Option, Some}
use Rattle.operator.specs.Instruction.{operator_of}
use Rattle.operator.specs.declared.operators.Operator.{Operator}
use Rattle.machine.specs.declared.instruction.Instruction.{Instruction}
use Rattle.machine.specs.declared.instruction.Instruction.TheVariants.{Literal, StringLiteral, SetVariable}
use Rattle.machine.specs.declared.instruction.Instruction.TheVariants.{GetVariable, Operate, DelayUntil, Millis}
use Rattle.machine.specs.declared.instruction.Instruction.TheVariants.{Print, JumpIf, EndIf, While, EndWhile}
use Rattle.machine.specs.declared.instruction.Instruction.TheVariants.{Loop, EndLoop, Stop, Beyond, Unknown}
use Rattle.machine.specs.declared.instruction.Reach.TheVariants.{OpenFile, CloseFile, WriteFile, ReadNumber}
use Rattle.machine.specs.declared.instruction.Reach.TheVariants.{ReadString, Fork, WaitUntilDone}

-- Document 01: "Numbered 1 to 69 by place in appendix C"
abbrev pub others : List (ℕ × Instruction)
others =
    (1, Literal 1) ∷ (2, Literal 2) ∷ (3, StringLiteral) ∷ (4, Literal 4) ∷ (5, SetVariable) ∷ (6, GetVariable) ∷
    (44, DelayUntil) ∷ (45, Millis) ∷ (51, Print false) ∷ (52, Print true) ∷
    (53, Beyond OpenFile) ∷ (54, Beyond CloseFile) ∷ (55, Beyond WriteFile) ∷ (56, Beyond (ReadNumber 2)) ∷
    (57, Beyond (ReadNumber 1)) ∷ (58, Beyond (ReadNumber 4)) ∷ (59, Beyond ReadString) ∷
    (60, JumpIf true) ∷ (61, JumpIf false) ∷ (62, EndIf) ∷ (63, While) ∷ (64, EndWhile) ∷ (65, Loop) ∷ (66, EndLoop) ∷
    (67, Stop) ∷ (68, Beyond Fork) ∷ (69, Beyond WaitUntilDone) ∷ []

unfoldable pub find : ℕ → List (ℕ × Instruction) → Instruction
find n [] = Unknown
find n (row ∷ table) = cond (eqb n row.0) row.1 (find n table)

abbrev pub operator_or : Option Operator → Instruction → Instruction
operator_or (Some o) i = Operate o
operator_or None i = i

-- Document 01: "38 to 40, 43 and 46 to 50 are not built." Document 02, Q-3, builds 38 to 40.
unfoldable pub instruction_of : ℕ → Instruction
unfolding find
instruction_of n = operator_or (operator_of n) (find n others)
