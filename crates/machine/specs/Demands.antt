-- What is demanded of every call beyond its own answer, each in one statement. Demand 3 has a file of its own,
-- Isolation.
use Rattle.std.specs.Prelude.{ℕ, ◌≤◌, ◌≡◌, true, false, ◌&&◌, List, [], ◌⊎◌, pos, length, None}
use Rattle.number.specs.declared.Number.{Number}
use Rattle.disc.specs.Directory.{good_disc, is_disc_length, lookup}
use Rattle.variable.specs.Table.{freed, is_of}
use Rattle.machine.specs.Answer.{Answer, Buffers, Call, Other, turn, round, command, share, run, other, store}
use Rattle.machine.specs.Answer.{retrieve, erase, files, free_space, list, answer, boot_answer, format_answer}
use Rattle.machine.specs.Area.{AreBytes, Whole, is_area_length, kernel_of}
use Rattle.machine.specs.Beyond.{new_file_size}
use Rattle.machine.specs.Effect.{asks, assigns, opens}
use Rattle.machine.specs.Ending.{Ends, RunsOn, Touched}
use Rattle.machine.specs.Limits.{area_length, round_room, turn_room}
use Rattle.machine.specs.Turn.{effect_at}
use Rattle.machine.specs.NoPlace.{Lacking, NewFileRefused}
use Rattle.machine.specs.Refusals.{state_of, MayTurn, Passes}
use Rattle.machine.specs.Trace.{Invocation, IsItsEvents, Storage, after_calls, events, last_storage, lending}
use Rattle.machine.specs.Trace.{output_text, share_events, ten_slots}
use Rattle.machine.specs.State.{Local, is_running, process_at}
use Rattle.machine.specs.declared.Kernel.{Kernel}

-- ---- faults
-- the state that the work area says after a turn
abbrev pub turned_state : Buffers → ℕ → ℕ → Kernel
turned_state b slot clock = kernel_of (answer (turn slot clock) b).area

abbrev pub EndedOnly : Buffers → ℕ → ℕ → Answer → Type 0
EndedOnly b slot n a = (a.number ≡ pos 0) × (a.disc ≡ b.disc) × (a.out ≡ b.out)
    × Touched (state_of b) slot n (kernel_of a.area)

-- Document 01: "A faulting instruction changes nothing but the ending." A turn that does not end its process leaves it
-- running, with its share.
unfoldable pub FaultTouchesOwn : Type 0
FaultTouchesOwn =
    (b : Buffers) (slot clock : ℕ) → MayTurn b slot
    → ((n : ℕ) → Ends (state_of b) slot clock b.disc n → EndedOnly b slot n (answer (turn slot clock) b))
    × (((n : ℕ) × Ends (state_of b) slot clock b.disc n)
    ⊎ RunsOn (process_at (state_of b) slot) (process_at (turned_state b slot clock) slot))

-- ---- places
-- after its turn the process runs no more, and its record has that fault
abbrev pub EndsWith : Buffers → ℕ → ℕ → ℕ → Type 0
EndsWith b slot clock n = (is_running (process_at (turned_state b slot clock) slot) ≡ false)
    × ((process_at (turned_state b slot clock) slot).fault ≡ n)

-- Document 01, fault 10: "no variable entry or run". It comes of a SET alone. "SET first frees the old variable"; of
-- the others there are 25, or no address fits
abbrev pub SetNoPlace : Type 0
SetNoPlace =
    (b : Buffers) (slot clock : ℕ) → MayTurn b slot → EndsWith b slot clock 10
    → (name : ℕ) × (kind : ℕ) × (bytes : List ℕ) × (l : Local)
    × (effect_at (state_of b) slot clock b.disc ≡ assigns name kind bytes l)
    × Lacking (freed (state_of b).variables (is_of name (process_at (state_of b) slot).id)) (length bytes)

-- Document 01, fault 13: "OPEN's new file refused by name, size or store's 8 or 9". It comes of an OPEN alone, of a
-- name that is no file's
abbrev pub OpenRefused : Type 0
OpenRefused =
    (b : Buffers) (slot clock : ℕ) → MayTurn b slot → EndsWith b slot clock 13
    → (name : List ℕ) × (size : Number) × (l : Local)
    × (effect_at (state_of b) slot clock b.disc ≡ asks (opens name size l))
    × (lookup b.disc name ≡ None) × NewFileRefused b.disc name (new_file_size b.disc size)

-- a place is refused only where there is none: document 01, strictness c, shuts out a "no run" or a "table full" "said
-- too early"
unfoldable pub PlacesRefusedOnly : Type 0
PlacesRefusedOnly = SetNoPlace × OpenRefused

-- ---- lengths
abbrev pub SameLengths : Answer → Buffers → Type 0
SameLengths a b = (length a.disc ≡ length b.disc) × (length a.area ≡ length b.area)
    × (length a.out ≡ length b.out)

-- every call leaves disc, area and output as long as they were lent, done or refused
unfoldable pub LengthsKept : Type 0
LengthsKept = ((c : Call) (b : Buffers) → SameLengths (answer c b) b) ×
    ((b : Buffers) → SameLengths (format_answer b) b)
    × ((b : Buffers) → SameLengths (boot_answer b) b)

-- ---- goodness
abbrev pub RightLengths : Buffers → Type 0
RightLengths b = is_disc_length (length b.disc) && is_area_length (length b.area) ≡ true

-- good buffers stay good under every call; format makes good buffers of any of the right lengths, boot of those that
-- also have a good disc
unfoldable pub GoodKept : Type 0
GoodKept =
    ((c : Call) (b : Buffers) → Passes b.disc b.area → Passes (answer c b).disc (answer c b).area)
    × ((b : Buffers) → RightLengths b → Passes (format_answer b).disc (format_answer b).area)
    × ((b : Buffers) → RightLengths b → good_disc b.disc ≡ true → Passes (boot_answer b).disc (boot_answer b).area)

-- ---- bytes
-- every element of disc, area and output is below 256
abbrev pub AllBytes : (disc area out : List ℕ) → Type 0
AllBytes disc area out = AreBytes disc × AreBytes area × AreBytes out

-- the bytes that a call is given to write: a store's
abbrev pub given_other : Other → List ℕ
given_other (store name bytes) = bytes
given_other (retrieve name) = []
given_other (erase name) = []
given_other files = []
given_other free_space = []
given_other list = []

abbrev pub given : Call → List ℕ
given (turn slot clock) = []
given (round clock) = []
given (command c id) = []
given (share id turns) = []
given (run name) = []
given (other o) = given_other o

abbrev pub StaysBytes : Answer → Buffers → Type 0
StaysBytes a b = AllBytes b.disc b.area b.out → AllBytes a.disc a.area a.out

-- what C lends as bytes, it gets back as bytes: no call leaves an element of 256 or more
unfoldable pub BytesKept : Type 0
BytesKept = ((c : Call) (b : Buffers) → AreBytes (given c) → StaysBytes (answer c b) b)
    × ((b : Buffers) → StaysBytes (format_answer b) b)
    × ((b : Buffers) → StaysBytes (boot_answer b) b)

-- ---- rounds
-- Document 01: "a turn for slots 0 to 9, each if running when reached, under one clock reading, outputs joined", with
-- document 02, Q-9, as many turns in a row as the slot's share. 1,056 bytes are whole, and so is what every call leaves
-- of them.
unfoldable pub RoundIsTurns : Type 0
RoundIsTurns =
    ((s : Storage) (out : List ℕ) (clock n : ℕ) → Whole s.area → (answer (round clock) (lending s out)).number ≡ pos n
    → IsItsEvents s out (answer (round clock) (lending s out))
    (share_events ten_slots clock s (output_text (answer (round clock) (lending s out)))))
    × ((area : List ℕ) → AreBytes area → length area ≡ area_length → Whole area)
    × ((s : Storage) (out : List ℕ) (c : Call) → Whole s.area → Whole (answer c (lending s out)).area)

-- the events of a run lead where its calls lead, from any disc and any area of bytes, good or not, of any length
unfoldable pub EventsAreCalls : Type 0
EventsAreCalls = (calls : List Invocation) (s : Storage) → AreBytes s.area
    → last_storage s (events calls s) ≡ after_calls calls s

-- Document 02, Q-9: *Round* "needs 2,560 output bytes", and they are enough
unfoldable pub RoundOutputBound : Type 0
RoundOutputBound = (b : Buffers) (clock n : ℕ) → (answer (round clock) b).number ≡ pos n → n ≤ round_room

-- Document 01, Turn: "at least 32 output bytes" are enough. "Returns the bytes printed"
unfoldable pub TurnOutputBound : Type 0
TurnOutputBound = (b : Buffers) (slot clock n : ℕ) → (answer (turn slot clock) b).number ≡ pos n → n ≤ turn_room
