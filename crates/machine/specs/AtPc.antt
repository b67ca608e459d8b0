-- What a turn finds at PC and on the stack, and how its process goes on.
use Rattle.std.specs.Prelude.{ℕ, ◌+◌, ◌-◌, ◌<◌, ◌≡◌, List, [], ◌∷◌, ◌++◌, ◌⊎◌, pos, length, get_or, replicate, take}
use Rattle.machine.specs.Answer.{Answer, Buffers, answer, turn}
use Rattle.machine.specs.Area.{kernel_of}
use Rattle.machine.specs.Limits.{stack_size}
use Rattle.machine.specs.Refusals.{MayTurn, state_of}
use Rattle.machine.specs.State.{process_at, running}
use Rattle.machine.specs.declared.Kernel.{Kernel}
use Rattle.machine.specs.declared.OpenFile.{OpenFile}
use Rattle.machine.specs.declared.Process.{Process}

abbrev pub process_in : Buffers → ℕ → Process
process_in b slot = process_at (state_of b) slot

abbrev pub pc_in : Buffers → ℕ → ℕ
pc_in b slot = (process_in b slot).pc

abbrev pub file_in : Buffers → ℕ → OpenFile
file_in b slot = (process_in b slot).file

-- n bytes further in the open file
abbrev pub ahead : Buffers → ℕ → ℕ → OpenFile
ahead b slot n =
    record { start = (file_in b slot).start; len = (file_in b slot).len; offset = (file_in b slot).offset + n }

-- the stack below SP
abbrev pub stack_in : Buffers → ℕ → List ℕ
stack_in b slot = take (process_in b slot).sp (process_in b slot).stack

-- the program's byte that far behind PC
abbrev pub byte_ahead : Buffers → ℕ → ℕ → ℕ
byte_ahead b slot n = get_or b.disc ((process_in b slot).code.start + ((process_in b slot).pc + n)) 0

-- nothing refuses the turn, and that byte is at PC
pub record AtPc (b : Buffers) (slot byte : ℕ) : Type 0 where
  pub may : MayTurn b slot
  pub inside : (process_in b slot).pc < (process_in b slot).code.len
  pub found : byte_ahead b slot 0 ≡ byte

-- ---- values on top of a stack, with what lies below
-- Document 01: "A value lies as its bytes, high byte first, then its type 1, 2 or 4"
pub record NumberOnTop (stack rest : List ℕ) (kind : ℕ) (bytes : List ℕ) : Type 0 where
  pub lay : stack ≡ rest ++ bytes ++ (kind ∷ [])
  pub typed : (kind ≡ 1) ⊎ ((kind ≡ 2) ⊎ (kind ≡ 4))
  pub size : length bytes ≡ kind

-- Document 01: "a string as bytes, length, 3", "its only zero last"
pub record StringOnTop (stack rest text : List ℕ) : Type 0 where
  pub lay : stack ≡ rest ++ (text ++ (0 ∷ [])) ++ ((length text + 1) ∷ 3 ∷ [])
  pub no_zero : (j : ℕ) → j < length text → get_or text j 0 ≡ 0 → ⊥

pub record StringValue (stack rest : List ℕ) (kind : ℕ) (bytes : List ℕ) : Type 0 where
  pub text : List ℕ
  pub top : StringOnTop stack rest text
  pub typed : kind ≡ 3
  pub whole : bytes ≡ text ++ (0 ∷ [])

abbrev pub ValueOnTop : (stack rest : List ℕ) → ℕ → List ℕ → Type 0
ValueOnTop stack rest kind bytes = NumberOnTop stack rest kind bytes ⊎ StringValue stack rest kind bytes

-- ---- after the turn
abbrev pub turn_answer : Buffers → (slot clock : ℕ) → Answer
turn_answer b slot clock = answer (turn slot clock) b

abbrev pub state_after : Buffers → (slot clock : ℕ) → Kernel
state_after b slot clock = kernel_of (turn_answer b slot clock).area

-- the process goes on at that place of its program, with that stack and that open file; nothing is printed
pub record Onward (b : Buffers) (slot clock pc : ℕ) (stack : List ℕ) (file : OpenFile) : Type 0 where
  pub number : (turn_answer b slot clock).number ≡ pos 0
  pub out : (turn_answer b slot clock).out ≡ b.out
  pub own : process_at (state_after b slot clock) slot
      ≡ record {
        name = (process_in b slot).name;
        id = (process_in b slot).id;
        state = running;
        fault = (process_in b slot).fault;
        code = (process_in b slot).code;
        pc = pc;
        loopstart = (process_in b slot).loopstart;
        file = file;
        sp = length stack;
        share = (process_in b slot).share;
        stack = stack ++ replicate (stack_size - length stack) 0;
      }

-- one of its turns leaves the disc as it was
abbrev pub SameDisc : Buffers → (slot clock : ℕ) → Type 0
SameDisc b slot clock = (turn_answer b slot clock).disc ≡ b.disc
