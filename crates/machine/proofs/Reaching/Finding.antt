-- What the instruction at PC does, from its byte and the values on the stack.
use Prim.Native.Nat.{ℕ, ◌+◌, ◌<◌}
use mathlib.Core.Path.{◌≡◌, refl, ap, ◌∙◌}
use mathlib.Core.List.{List}
use native.Mathlib.Omega.{arith}
use lib.ListN.{length, get_or}
use borrow.Author.Tests.{le-leb, lt-ltb}
use Rattle.operator.specs.Instruction.{lookup, operator_of}
use Rattle.number.specs.Value.{number_of}
use Rattle.variable.specs.Table.{Cell, owned}
use Rattle.disc.proofs.InARow.{contents-byte}
use Rattle.machine.specs.Answer.{Buffers}
use Rattle.machine.specs.AtPc.{AtPc, NumberOnTop, StringOnTop, ValueOnTop, byte_ahead, process_in, stack_in}
use Rattle.machine.specs.Effect.{Effect, assigns, asks, opens, closes, writes, reads, reads_string, forks, awaits}
use Rattle.machine.specs.Exec.{exec, performs}
use Rattle.machine.specs.Instruction.{find, instruction_of}
use Rattle.machine.specs.Refusals.{state_of}
use Rattle.machine.specs.State.{Local}
use Rattle.machine.specs.Turn.{effect_at, program_of}
use Rattle.machine.specs.declared.instruction.Instruction.{Instruction}
use Rattle.machine.specs.declared.instruction.Instruction.TheVariants.{SetVariable, Beyond}
use Rattle.machine.specs.declared.instruction.Reach.TheVariants.{OpenFile, CloseFile, WriteFile, ReadNumber, ReadString, Fork}
use Rattle.machine.specs.declared.instruction.Reach.TheVariants.{WaitUntilDone}
use Rattle.machine.proofs.Changes.LiveRecords.{program-length, running-live}
use Rattle.machine.proofs.Demands.GoodCalls.{passes-good}
use Rattle.machine.proofs.Reaching.Tops.{number-top, string-top, top-trimmed, value-top}

-- the process at a place of its program with these bytes on its stack
abbrev pub at : Buffers → ℕ → ℕ → List ℕ → Local
at b slot pc stack = record { stack = stack; pc = pc; loopstart = (process_in b slot).loopstart }

module _ (b : Buffers) (slot clock : ℕ) where
  abbrev prog : List ℕ
  prog = program_of b.disc (process_in b slot)

  abbrev own : List Cell
  own = owned (state_of b).variables (process_in b slot).id

  abbrev pub Does : Effect → Type 0
  Does e = effect_at (state_of b) slot clock b.disc ≡ e

  module _ {byte : ℕ} (a : AtPc b slot byte) where
    code-length : length prog ≡ (process_in b slot).code.len
    code-length =
        program-length (passes-good b.disc b.area a.may.passes) slot (running-live (process_in b slot) a.may.running)

    pub byte-found : get_or prog (process_in b slot).pc 0 ≡ byte
    byte-found =
        let same : (process_in b slot).pc ≡ (process_in b slot).pc + 0 = omega arith in
        contents-byte b.disc (process_in b slot).code (process_in b slot).pc a.inside
        ∙ ap (λ (i : ℕ). get_or b.disc ((process_in b slot).code.start + i) 0) same
        ∙ a.found

    pub at-performs : (i : Instruction) → instruction_of byte ≡ i
        → Does (performs prog (stack_in b slot) (process_in b slot).loopstart (process_in b slot).pc clock i own)
    unfolding exec
    at-performs i e = rw (lt-ltb (process_in b slot).pc (length prog) (omega (arith, code-length, a.inside)), byte-found, e)

  abbrev pc : ℕ
  pc = (process_in b slot).pc

  -- ---- SET
  pub set_found : (rest : List ℕ) (kind : ℕ) (bytes : List ℕ) → AtPc b slot 5 → pc + 1 < (process_in b slot).code.len
      → ValueOnTop (stack_in b slot) rest kind bytes
      → Does (assigns (byte_ahead b slot 1) kind bytes (at b slot (pc + 2) rest))
  unfolding instruction_of operator_of lookup find performs
  set_found rest kind bytes a more top =
      let behind : pc + 1 + 1 ≡ pc + 2 = omega arith in
      at-performs a SetVariable refl
      ∙ rw (
        behind,
        le-leb (pc + 2) (length prog) (omega (arith, code-length a, more)),
        value-top top,
        contents-byte b.disc (process_in b slot).code (pc + 1) more,
      )

  -- ---- the instructions that ask
  pub open-found : (below rest text : List ℕ) (kind : ℕ) (bytes : List ℕ) → AtPc b slot 53
      → NumberOnTop (stack_in b slot) below kind bytes → StringOnTop below rest text
      → Does (asks (opens text (number_of kind bytes) (at b slot (pc + 1) rest)))
  unfolding instruction_of operator_of lookup find performs
  open-found below rest text kind bytes a size name =
      at-performs a (Beyond OpenFile) refl ∙ rw (number-top size, string-top name, top-trimmed name)

  pub close-found : AtPc b slot 54 → Does (asks (closes (at b slot (pc + 1) (stack_in b slot))))
  unfolding instruction_of operator_of lookup find performs
  close-found a = at-performs a (Beyond CloseFile) refl

  pub write-found : (rest : List ℕ) (kind : ℕ) (bytes : List ℕ) → AtPc b slot 55 → ValueOnTop (stack_in b slot) rest kind bytes
      → Does (asks (writes bytes (at b slot (pc + 1) rest)))
  unfolding instruction_of operator_of lookup find performs
  write-found rest kind bytes a top = at-performs a (Beyond WriteFile) refl ∙ rw (value-top top)

  pub read_found : (byte kind : ℕ) → instruction_of byte ≡ Beyond (ReadNumber kind) → AtPc b slot byte
      → Does (asks (reads kind (at b slot (pc + 1) (stack_in b slot))))
  unfolding performs
  read_found byte kind i a = at-performs a (Beyond (ReadNumber kind)) i

  pub read-string-found : AtPc b slot 59 → Does (asks (reads_string (at b slot (pc + 1) (stack_in b slot))))
  unfolding instruction_of operator_of lookup find performs
  read-string-found a = at-performs a (Beyond ReadString) refl

  pub fork-found : (rest text : List ℕ) → AtPc b slot 68 → StringOnTop (stack_in b slot) rest text
      → Does (asks (forks text (at b slot (pc + 1) rest)))
  unfolding instruction_of operator_of lookup find performs
  fork-found rest text a name = at-performs a (Beyond Fork) refl ∙ rw (string-top name, top-trimmed name)

  pub wait-found : (rest : List ℕ) (kind : ℕ) (bytes : List ℕ) → AtPc b slot 69 → NumberOnTop (stack_in b slot) rest kind bytes
      → Does (asks (awaits (number_of kind bytes) (at b slot pc (stack_in b slot)) (at b slot (pc + 1) rest)))
  unfolding instruction_of operator_of lookup find performs
  wait-found rest kind bytes a top = at-performs a (Beyond WaitUntilDone) refl ∙ rw (number-top top)

-- READINT, READCHAR and READFLOAT
pub reads_of : (instruction_of 56 ≡ Beyond (ReadNumber 2)) × (instruction_of 57 ≡ Beyond (ReadNumber 1))
    × (instruction_of 58 ≡ Beyond (ReadNumber 4))
unfolding instruction_of operator_of lookup find
reads_of = (refl, refl, refl)
