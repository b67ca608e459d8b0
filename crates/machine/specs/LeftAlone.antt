-- What a call leaves alone, done or refused.
use Rattle.std.specs.Prelude.{ℕ, ◌≤◌, ◌≡◌, true, List, pos, get_or}
use Rattle.buffer.specs.Buffer.{part}
use Rattle.disc.specs.Offsets.{size_of, start_of}
use Rattle.variable.specs.Table.{owned}
use Rattle.machine.specs.Answer.{Answer, Buffers, Call, Other, turn, round, command, share, run, other, store}
use Rattle.machine.specs.Answer.{retrieve, erase, files, free_space, list, answer, boot_answer, format_answer}
use Rattle.machine.specs.Area.{kernel_of}
use Rattle.machine.specs.AtPc.{byte_ahead, process_in}
use Rattle.machine.specs.Fields.{Named, open_size, open_start}
use Rattle.machine.specs.Refusals.{state_of}
use Rattle.machine.specs.State.{is_live, process_at}
use Rattle.machine.specs.Tests.{Unchanged}

-- ---- which of disc, area and output an operation never touches
abbrev pub SameDisc : Answer → Buffers → Type 0
SameDisc a b = a.disc ≡ b.disc

abbrev pub SameArea : Answer → Buffers → Type 0
SameArea a b = a.area ≡ b.area

abbrev pub SameOut : Answer → Buffers → Type 0
SameOut a b = a.out ≡ b.out

abbrev pub OtherKeeps : Other → Answer → Buffers → Type 0
OtherKeeps (store name bytes) a b = SameArea a b × SameOut a b
OtherKeeps (retrieve name) a b = SameDisc a b × SameArea a b
OtherKeeps (erase name) a b = SameArea a b × SameOut a b
OtherKeeps files a b = SameDisc a b × SameArea a b
OtherKeeps free_space a b = Unchanged a b
OtherKeeps list a b = SameDisc a b × SameArea a b

abbrev pub Keeps : Call → Answer → Buffers → Type 0
Keeps (turn slot clock) a b = Unit {0}
Keeps (round clock) a b = Unit {0}
Keeps (command c id) a b = SameDisc a b × SameOut a b
Keeps (share id turns) a b = SameDisc a b × SameOut a b
Keeps (run name) a b = SameDisc a b × SameOut a b
Keeps (other o) a b = OtherKeeps o a b

abbrev pub BuffersKept : Type 0
BuffersKept = ((c : Call) (b : Buffers) → Keeps c (answer c b) b)
    × ((b : Buffers) → SameOut (format_answer b) b)
    × ((b : Buffers) → SameDisc (boot_answer b) b × SameOut (boot_answer b) b)

-- Document 01: "the rest of the output is untouched"
abbrev pub OutputBehindKept : Type 0
OutputBehindKept =
    (c : Call) (b : Buffers) (n : ℕ) → (answer c b).number ≡ pos n
    → (j : ℕ) → n ≤ j → get_or (answer c b).out j 0 ≡ get_or b.out j 0

-- ---- other processes
-- the call is the turn or a command of the process in that slot, or sets its share; a round is turns of each
abbrev pub Concerns : Call → Buffers → ℕ → Type 0
Concerns (turn slot clock) b own = own ≡ slot
Concerns (round clock) b own = Unit {0}
Concerns (command c id) b own = (process_in b own).id ≡ id
Concerns (share id turns) b own = (process_in b own).id ≡ id
Concerns (run name) b own = ⊥
Concerns (other o) b own = ⊥

-- every other live process keeps its record, the open file's fields with it, and its variables
abbrev pub ProcessesKept : Type 0
ProcessesKept =
    (c : Call) (b : Buffers) (own : ℕ) → is_live (process_in b own) ≡ true → (Concerns c b own → ⊥)
    → let after = kernel_of (answer c b).area in
    (process_at after own ≡ process_in b own)
    × (owned after.variables (process_in b own).id ≡ owned (state_of b).variables (process_in b own).id)

-- ---- other files
-- the call erases file i, which has that name, or is the turn of a process that has it open and is at a WRITE
abbrev pub OtherChanges : Other → List ℕ → Type 0
OtherChanges (store title bytes) name = ⊥
OtherChanges (retrieve title) name = ⊥
OtherChanges (erase title) name = title ≡ name
OtherChanges files name = ⊥
OtherChanges free_space name = ⊥
OtherChanges list name = ⊥

abbrev pub MayChange : Call → Buffers → (name : List ℕ) → ℕ → Type 0
MayChange (turn slot clock) b name i = (byte_ahead b slot 0 ≡ 55)
    × (open_start b.area slot ≡ start_of b.disc i) × (open_size b.area slot ≡ size_of b.disc i)
MayChange (round clock) b name i = Unit {0}
MayChange (command c id) b name i = ⊥
MayChange (share id turns) b name i = ⊥
MayChange (run title) b name i = ⊥
MayChange (other o) b name i = OtherChanges o name

-- every other file keeps its name, its place and its bytes
abbrev pub FilesKept : Type 0
FilesKept =
    (c : Call) (b : Buffers) (name : List ℕ) (i : ℕ) → Named b.disc name i → (MayChange c b name i → ⊥)
    → let after = (answer c b).disc in
    (j : ℕ) × Named after name j × (start_of after j ≡ start_of b.disc i) × (size_of after j ≡ size_of b.disc i)
    × (part after (start_of b.disc i) (size_of b.disc i)
    ≡ part b.disc (start_of b.disc i) (size_of b.disc i))

unfoldable pub LeavesAlone : Type 0
LeavesAlone = BuffersKept × OutputBehindKept × ProcessesKept × FilesKept
