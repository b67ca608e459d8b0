-- A run: any list of calls from any two buffers, and the events that it comes to.
use Rattle.std.specs.Prelude.{ℕ, zero, suc, ◌+◌, ◌≡◌, Bool, List, [], ◌∷◌, ◌++◌, leb, ℤ, pos, negsuc, length, drop}
use Rattle.std.specs.Prelude.{replicate, take}
use Rattle.buffer.specs.Buffer.{overwrite}
use Rattle.buffer.specs.Lists.{cons_if, flat}
use Rattle.machine.specs.Answer.{Answer, Buffers, Call, turn, round, command, share, run, other, answer}
use Rattle.machine.specs.Area.{kernel_of}
use Rattle.machine.specs.Limits.{turn_room}
use Rattle.machine.specs.State.{is_running, process_at}

-- the two buffers between calls
pub record Storage : Type 0 where
  pub disc : List ℕ
  pub area : List ℕ

-- a call, and the output lent for it
pub record Invocation : Type 0 where
  pub call : Call
  pub out : List ℕ

abbrev pub lending : Storage → List ℕ → Buffers
lending s out = record { disc = s.disc; area = s.area; out = out }

abbrev pub storage_of : Answer → Storage
storage_of a = record { disc = a.disc; area = a.area }

abbrev pub answer_of : Invocation → Storage → Answer
answer_of i s = answer i.call (lending s i.out)

-- ---- events
-- one call, or one turn of a round (a round itself is never an event): the two buffers before and after it, the number
-- it returns, and what a turn printed, as it stands in the lent output
pub record Event : Type 0 where
  pub call : Call
  pub before : Storage
  pub after : Storage
  pub number : ℤ
  pub text : List ℕ

abbrev pub event : Call → Storage → Answer → List ℕ → Event
event c s a text = record { call = c; before = s; after = storage_of a; number = a.number; text = text }

-- how many bytes the number counts; a refused call wrote none
abbrev pub counts : ℤ → ℕ
counts (pos n) = n
counts (negsuc n) = 0

abbrev pub output_text : Answer → List ℕ
output_text a = take (counts a.number) a.out

-- the two buffers behind these events
unfoldable pub last_storage : Storage → List Event → Storage
last_storage s [] = s
last_storage s (e ∷ es) = last_storage e.after es

-- how many bytes they return
unfoldable pub total : List Event → ℕ
total [] = 0
total (e ∷ es) = counts e.number + total es

-- Document 01: "A done round stands for its turns in order, each printing its part of the output." A turn of a round is
-- the call `turn` on the buffers as they are when its slot is reached, lent 32 zeros; text is what the round printed
-- from this turn on.
unfoldable pub turn_events : List ℕ → ℕ → Storage → List ℕ → List Event
turn_events [] clock s text = []
turn_events (slot ∷ slots) clock s text =
    let a = answer (turn slot clock) (lending s (replicate turn_room 0)) in
    let n = counts a.number in
    cons_if (is_running (process_at (kernel_of s.area) slot)) (event (turn slot clock) s a (take n text))
    (turn_events slots clock (storage_of a) (drop n text))

-- Document 02, Q-9: "1 to 8, with zero as one"
abbrev pub at_least_one : ℕ → ℕ
at_least_one zero = 1
at_least_one (suc n) = suc n

-- not `slots` of the definition of a round: a round that left one out would have to show here
abbrev pub ten_slots : List ℕ
ten_slots = 0 ∷ 1 ∷ 2 ∷ 3 ∷ 4 ∷ 5 ∷ 6 ∷ 7 ∷ 8 ∷ 9 ∷ []

-- Document 02, Q-9: "*Round* gives a slot that many turns in a row while it stays running": as many as its share is
-- when the slot is reached, or fewer where it stops running
unfoldable pub share_events : List ℕ → ℕ → Storage → List ℕ → List Event
share_events [] clock s text = []
share_events (slot ∷ slots) clock s text =
    let turns = at_least_one (process_at (kernel_of s.area) slot).share in
    let es = turn_events (replicate turns slot) clock s text in
    es ++ share_events slots clock (last_storage s es) (drop (total es) text)

-- a refused round has no turn
abbrev pub round_events : ℤ → ℕ → Storage → List ℕ → List Event
round_events (pos n) clock s text = share_events ten_slots clock s text
round_events (negsuc n) clock s text = []

-- "calls lent too little output aside": a turn needs 32 bytes
abbrev pub only_if : Bool → Event → List Event
only_if enough e = cons_if enough e []

abbrev pub events_by : Call → List ℕ → Storage → Answer → List Event
events_by (turn slot clock) out s a = only_if (leb turn_room (length out)) (event (turn slot clock) s a (output_text a))
events_by (round clock) out s a = round_events a.number clock s (output_text a)
events_by (command c id) out s a = event (command c id) s a [] ∷ []
events_by (share id turns) out s a = event (share id turns) s a [] ∷ []
events_by (run name) out s a = event (run name) s a [] ∷ []
events_by (other o) out s a = event (other o) s a [] ∷ []

-- Demand 3: "each any list of the calls [..], refused ones included, from any disc and work area. Each call gets what
-- it takes of these two as the calls before left it"
unfoldable pub events : List Invocation → Storage → List Event
events [] s = []
events (i ∷ is) s = events_by i.call i.out s (answer_of i s) ++ events is (storage_of (answer_of i s))

-- ---- the events and `answer` say the same
-- the two buffers after the last of these calls
unfoldable pub after_calls : List Invocation → Storage → Storage
after_calls [] s = s
after_calls (i ∷ is) s = after_calls is (storage_of (answer_of i s))

-- each turn is done, and its part of the round's output is what that turn alone would print
unfoldable pub PrintsItsPart : List Event → Type 0
PrintsItsPart [] = Unit {0}
PrintsItsPart (e ∷ es) =
    (e.number ≡ pos (length e.text))
    × (e.text ≡ output_text (answer e.call (lending e.before (replicate turn_room 0)))) × PrintsItsPart es

-- a done round leaves what its last turn leaves, returns the sum of what they return, and writes their bytes one behind
-- the other and nothing else
abbrev pub IsItsEvents : Storage → List ℕ → Answer → List Event → Type 0
IsItsEvents s out a es =
    (storage_of a ≡ last_storage s es)
    × (a.number ≡ pos (total es))
    × (a.out ≡ overwrite out 0 (flat (λ e. e.text) es))
    × PrintsItsPart es
