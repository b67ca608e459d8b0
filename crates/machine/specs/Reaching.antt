-- The instructions that reach beyond their process, exactly: from the byte at PC and the stack, what is due is done,
-- and which fault comes of what.
use Rattle.std.specs.Prelude.{Some}
use Rattle.std.specs.Prelude.{ℕ, ◌+◌, ◌/◌, ◌%◌, ◌≤◌, ◌<◌, ◌≡◌, true, false, List, [], ◌∷◌, ◌++◌, ◌⊎◌, pos, length}
use Rattle.std.specs.Prelude.{get_or}
use Rattle.buffer.specs.Buffer.{overwrite, part, zeros}
use Rattle.number.specs.Compare.{equals}
use Rattle.number.specs.Value.{number_of}
use Rattle.disc.specs.Layout.{max_files}
use Rattle.disc.specs.Offsets.{size_of, start_of}
use Rattle.place.specs.ShortestFit.{ShortestFit}
use Rattle.store.specs.Room.{Free}
use Rattle.machine.specs.Answer.{Buffers}
use Rattle.machine.specs.AtPc.{AtPc, NumberOnTop, Onward, SameDisc, StringOnTop, ValueOnTop, ahead, byte_ahead}
use Rattle.machine.specs.AtPc.{file_in, pc_in, process_in, stack_in, state_after, turn_answer}
use Rattle.machine.specs.Beyond.{new_file_size}
use Rattle.machine.specs.Changed.{Assigns, CannotStart, Enters, Starts}
use Rattle.machine.specs.Demands.{EndedOnly}
use Rattle.machine.specs.Faults.{FaultsBounded}
use Rattle.machine.specs.Fields.{IsName, Live, Lowest, Named, NoFile, files_on, id_of, next_id}
use Rattle.machine.specs.Limits.{stack_size}
use Rattle.machine.specs.NoPlace.{NewFileRefused}
use Rattle.machine.specs.Refusals.{state_of}
use Rattle.machine.specs.Suppositions.{lacks_space}

module _ (b : Buffers) (slot clock : ℕ) where
  -- ---- how the turn ends
  -- by that fault, and it touches nothing else
  abbrev pub Faults : ℕ → Type 0
  Faults n = EndedOnly b slot n (turn_answer b slot clock)

  -- behind the instruction byte with that stack, file and disc as they were
  abbrev pub Proceeds : List ℕ → Type 0
  Proceeds stack = Onward b slot clock (pc_in b slot + 1) stack (file_in b slot) × SameDisc b slot clock

  -- ---- SET
  abbrev pub SetExactly : Type 0
  SetExactly =
      (rest : List ℕ) (kind : ℕ) (bytes : List ℕ) → AtPc b slot 5 → pc_in b slot + 1 < (process_in b slot).code.len
      → ValueOnTop (stack_in b slot) rest kind bytes
      → let v = (state_of b).variables in
      let name = byte_ahead b slot 1 in
      let id = (process_in b slot).id in
      ((lacks_space v name id (length bytes) ≡ true) × Faults 10)
      ⊎ ((lacks_space v name id (length bytes) ≡ false) × Onward b slot clock (pc_in b slot + 2) rest (file_in b slot)
      × SameDisc b slot clock
      × Assigns v name id kind bytes (state_after b slot clock).variables)

  -- ---- OPEN
  -- of a file's name: it is open from its first byte
  abbrev pub Opens : List ℕ → List ℕ → Type 0
  Opens rest text =
      (i : ℕ) × Named b.disc text i
      × Onward b slot clock (pc_in b slot + 1) rest
      (record { start = start_of b.disc i; len = size_of b.disc i; offset = 0 })
      × SameDisc b slot clock

  -- of another. Document 02, Q-8: "OPEN now fills a file it creates with zeros."; Q-10: "A new file or variable now
  -- goes at the start of the shortest free run that fits, the lowest of equals."
  abbrev pub Creates : List ℕ → List ℕ → ℕ → Type 0
  Creates rest text n =
      IsName text × (files_on b.disc < max_files)
      × ((start : ℕ) × ShortestFit (Free b.disc) n start
      × Onward b slot clock (pc_in b slot + 1) rest (record { start = start; len = n; offset = 0 })
      × Enters b.disc (turn_answer b slot clock).disc text (zeros n) start)

  abbrev pub OpenExactly : Type 0
  OpenExactly =
      (below rest text : List ℕ) (kind : ℕ) (bytes : List ℕ) → AtPc b slot 53
      → NumberOnTop (stack_in b slot) below kind bytes → StringOnTop below rest text
      → let size = new_file_size b.disc (number_of kind bytes) in
      Opens rest text
      ⊎ (NoFile b.disc text × ((NewFileRefused b.disc text size × Faults 13)
      ⊎ ((n : ℕ) × (size ≡ Some n) × Creates rest text n)))

  abbrev pub CloseExactly : Type 0
  CloseExactly = AtPc b slot 54 → Proceeds (stack_in b slot)

  -- ---- WRITE and the READs: n bytes from the offset on, if a file is open and they lie in it
  abbrev pub InFile : ℕ → Type 0 → Type 0
  InFile n done =
      (((file_in b slot).len ≡ 0) × Faults 11)
      ⊎ ((0 < (file_in b slot).len) × ((((file_in b slot).len < (file_in b slot).offset + n) × Faults 12)
      ⊎ (((file_in b slot).offset + n ≤ (file_in b slot).len) × done)))

  abbrev pub WriteExactly : Type 0
  WriteExactly =
      (rest : List ℕ) (kind : ℕ) (bytes : List ℕ) → AtPc b slot 55 → ValueOnTop (stack_in b slot) rest kind bytes
      → InFile (length bytes)
      (Onward b slot clock (pc_in b slot + 1) rest (ahead b slot (length bytes))
      × ((turn_answer b slot clock).disc ≡ overwrite b.disc ((file_in b slot).start + (file_in b slot).offset) bytes))

  -- n bytes are read and these are pushed, if the stack can take them
  abbrev pub Receives : ℕ → List ℕ → Type 0
  Receives n value =
      ((stack_size < length (stack_in b slot ++ value)) × Faults 4)
      ⊎ (Onward b slot clock (pc_in b slot + 1) (stack_in b slot ++ value) (ahead b slot n) × SameDisc b slot clock)

  abbrev pub read : ℕ → List ℕ
  read n = part b.disc ((file_in b slot).start + (file_in b slot).offset) n

  abbrev pub ReadExactly : (byte kind : ℕ) → Type 0
  ReadExactly byte kind = AtPc b slot byte → InFile kind (Receives kind (read kind ++ (kind ∷ [])))

  -- the file's byte that far ahead
  abbrev pub byte_in : ℕ → ℕ
  byte_in j = get_or b.disc ((file_in b slot).start + ((file_in b slot).offset + j)) 0

  -- no zero lies ahead in the file, or the first comes behind n bytes
  abbrev pub ReadStringExactly : Type 0
  ReadStringExactly =
      AtPc b slot 59
      → (((file_in b slot).len ≡ 0) × Faults 11)
      ⊎ ((0 < (file_in b slot).len)
      × ((((j : ℕ) → (file_in b slot).offset + j < (file_in b slot).len → byte_in j ≡ 0 → ⊥) × Faults 12)
      ⊎ ((n : ℕ) × ((file_in b slot).offset + n < (file_in b slot).len) × Lowest (λ j. byte_in j ≡ 0) n
      × Receives (n + 1) (read (n + 1) ++ ((n + 1) ∷ 3 ∷ [])))))

  -- ---- FORK: "pushes INT 0 where run would refuse"
  abbrev pub ForkExactly : Type 0
  ForkExactly =
      (rest text : List ℕ) → AtPc b slot 68 → StringOnTop (stack_in b slot) rest text
      → (CannotStart b.disc b.area text × Proceeds (rest ++ (0 ∷ 0 ∷ 2 ∷ [])))
      ⊎ (((child : ℕ) × Starts b.disc b.area text child (state_after b slot clock))
      × Proceeds (rest ++ (next_id b.area / 256 ∷ next_id b.area % 256 ∷ 2 ∷ [])))

  -- ---- WAITUNTILDONE: "stays while a live process has that ID"
  abbrev pub Awaited : ℕ → List ℕ → ℕ → Type 0
  Awaited kind bytes i = Live b.area i × (equals (number_of kind bytes) (pos (id_of b.area i)) ≡ true)

  abbrev pub WaitExactly : Type 0
  WaitExactly =
      (rest : List ℕ) (kind : ℕ) (bytes : List ℕ) → AtPc b slot 69 → NumberOnTop (stack_in b slot) rest kind bytes
      → (((i : ℕ) × Awaited kind bytes i) × Onward b slot clock (pc_in b slot) (stack_in b slot) (file_in b slot)
      × SameDisc b slot clock)
      ⊎ (((i : ℕ) → Awaited kind bytes i → ⊥) × Proceeds rest)

unfoldable pub ReachesExactly : Type 0
ReachesExactly =
    (b : Buffers) (slot clock : ℕ)
    → SetExactly b slot clock × OpenExactly b slot clock × CloseExactly b slot clock × WriteExactly b slot clock
    × ReadExactly b slot clock 56 2 × ReadExactly b slot clock 57 1 × ReadExactly b slot clock 58 4
    × ReadStringExactly b slot clock
    × ForkExactly b slot clock × WaitExactly b slot clock
    × FaultsBounded b slot clock
