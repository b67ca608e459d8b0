-- Which bytes of a program ask something of the world beyond the process.
use Prim.Native.Nat.{ℕ}
use Rattle.std.specs.Prelude.{None, Option, Some}
use mathlib.Core.Path.{◌≡◌, refl, subst⁻¹}
use mathlib.Core.Bool.{Bool, true, false, ◌&&◌, ◌||◌, cond}
use mathlib.Core.List.{List, [], ◌∷◌}
use mathlib.Core.Logic.{◌⊎◌, inl, inr, ⊎_elim}
use lib.Dec.{eqb}
use borrow.Author.Tests.{eqb-true}
use Rattle.buffer.specs.Lists.{all}
use Rattle.buffer.proofs.Bools.{and_left, and_right}
use Rattle.operator.specs.Instruction.{operator_of}
use Rattle.operator.specs.declared.operators.Operator.{Operator}
use Rattle.machine.specs.Instruction.{find, instruction_of, operator_or, others}
use Rattle.machine.specs.Suppositions.{is_barred}
use Rattle.machine.specs.declared.instruction.Instruction.{Instruction}
use Rattle.machine.specs.declared.instruction.Instruction.TheVariants.{Literal, StringLiteral, SetVariable, GetVariable, Operate}
use Rattle.machine.specs.declared.instruction.Instruction.TheVariants.{DelayUntil, Millis, Print, JumpIf, EndIf, While, EndWhile}
use Rattle.machine.specs.declared.instruction.Instruction.TheVariants.{Loop, EndLoop, Stop, Beyond, Unknown}
use Rattle.machine.specs.declared.instruction.Reach.{Reach}
use Rattle.machine.specs.declared.instruction.Reach.TheVariants.{OpenFile, CloseFile, WriteFile, ReadNumber, ReadString, Fork}
use Rattle.machine.specs.declared.instruction.Reach.TheVariants.{WaitUntilDone}
use Rattle.buffer.proofs.Disjunctions.{or_cases}

abbrev pub is_byte_of : ℕ → Reach → Bool
is_byte_of b OpenFile = eqb b 53
is_byte_of b CloseFile = eqb b 54
is_byte_of b WriteFile = eqb b 55
is_byte_of b (ReadNumber kind) = eqb b 56 || (eqb b 57 || eqb b 58)
is_byte_of b ReadString = eqb b 59
is_byte_of b Fork = eqb b 68
is_byte_of b WaitUntilDone = eqb b 69

-- READINT, READCHAR, READFLOAT
pub reads-by : (b : ℕ) → eqb b 56 || (eqb b 57 || eqb b 58) ≡ true → (b ≡ 56) ⊎ ((b ≡ 57) ⊎ (b ≡ 58))
reads-by b h =
    ⊎_elim (λ e. inl (eqb-true b 56 e))
    (λ o. inr (⊎_elim (λ e. inl (eqb-true b 57 e)) (λ e. inr (eqb-true b 58 e)) (or_cases (eqb b 57) (eqb b 58) o)))
    (or_cases (eqb b 56) (eqb b 57 || eqb b 58) h)

-- the byte of SET, and of an instruction that asks; every other instruction assigns and asks nothing
abbrev pub asks_by : ℕ → Instruction → Bool
asks_by b (Literal kind) = true
asks_by b StringLiteral = true
asks_by b SetVariable = eqb b 5
asks_by b GetVariable = true
asks_by b (Operate o) = true
asks_by b DelayUntil = true
asks_by b Millis = true
asks_by b (Print ends) = true
asks_by b (JumpIf zero) = true
asks_by b EndIf = true
asks_by b While = true
asks_by b EndWhile = true
asks_by b Loop = true
asks_by b EndLoop = true
asks_by b Stop = true
asks_by b (Beyond r) = is_barred b && is_byte_of b r
asks_by b Unknown = true

-- what a test says of every row of a table and of no row, it says of what is found there
find-all : (test : ℕ → Instruction → Bool) (n : ℕ) (table : List (ℕ × Instruction)) → test n Unknown ≡ true
    → all (λ row. test row.0 row.1) table ≡ true → test n (find n table) ≡ true
unfolding find all
find-all test n [] u h = u
find-all test n (row ∷ table) u h =
    go (eqb n row.0) refl (find-all test n table u (and_right (test row.0 row.1) (all (λ r. test r.0 r.1) table) h))
  where
    go : (b : Bool) → eqb n row.0 ≡ b → test n (find n table) ≡ true → test n (cond b row.1 (find n table)) ≡ true
    go true e rest = subst⁻¹ (λ (k : ℕ). test k row.1 ≡ true) (eqb-true n row.0 e)
        (and_left (test row.0 row.1) (all (λ r. test r.0 r.1) table) h)
    go false e rest = rest

-- of every operator, of every other instruction of the table and of none: so of the instruction of a byte
pub instruction-all : (test : ℕ → Instruction → Bool) (b : ℕ) → ((o : Operator) → test b (Operate o) ≡ true) → test b Unknown ≡ true
    → all (λ row. test row.0 row.1) others ≡ true → test b (instruction_of b) ≡ true
unfolding instruction_of
instruction-all test b p u h = go (operator_of b)
  where
    go : (found : Option Operator) → test b (operator_or found (find b others)) ≡ true
    go (Some o) = p o
    go None = find-all test b others u h

pub instruction-asks-by : (b : ℕ) → asks_by b (instruction_of b) ≡ true
unfolding all
instruction-asks-by b = instruction-all asks_by b (λ o. refl) refl refl
