-- What every call answers and leaves, for every disc, work area, output and argument.
use Rattle.std.specs.Prelude.{None, Option, Some}
use Rattle.std.specs.Prelude.{ℕ, Bool, ◌&&◌, not, List, [], leb, ltb, ℤ, pos, neg_ℤ, length, replicate, set}
use Rattle.buffer.specs.Buffer.{overwrite}
use Rattle.disc.specs.Directory.{entry_at, files as entries, good_disc, is_disc_length, lookup}
use Rattle.store.specs.Answer.{Reported, Updated, files_answer, free_space_answer, retrieve_answer, store_answer}
use Rattle.store.specs.File.{erased, unless}
use Rattle.machine.specs.Area.{is_area_length, kernel_bytes, kernel_of}
use Rattle.machine.specs.GoodArea.{good_kernel}
use Rattle.machine.specs.Limits.{area_length, next_at, round_room, slot_count, turn_room}
use Rattle.machine.specs.Operations.{Command, Commanded, becomes, refused as declined, commanded, in_use, list_text}
use Rattle.machine.specs.Operations.{round_of, shared}
use Rattle.machine.specs.Start.{Starting, starts, refuses, started, starting}
use Rattle.machine.specs.State.{is_running, process_at}
use Rattle.machine.specs.Turn.{Turned, turned}
use Rattle.machine.specs.declared.Kernel.{Kernel}

-- the two buffers, and the output lent for this call
pub record Buffers : Type 0 where
  pub disc : List ℕ
  pub area : List ℕ
  pub out : List ℕ

pub record Answer : Type 0 where
  pub number : ℤ
  pub disc : List ℕ
  pub area : List ℕ
  pub out : List ℕ

-- Document 01: the twelve operations of demand 3 and document 02's *share*, by what they are to processes: a turn, the
-- turns of all, a command of an ID, its share, a start, or none of these
pub data Other : Type 0 where
  store : (name bytes : List ℕ) → Other
  retrieve erase : (name : List ℕ) → Other
  files free_space list : Other

pub data Call : Type 0 where
  turn : (slot clock : ℕ) → Call
  round : (clock : ℕ) → Call
  command : Command → (id : ℕ) → Call
  share : (id turns : ℕ) → Call
  run : (name : List ℕ) → Call
  other : Other → Call

-- Document 01: "−n is refusal n with both buffers and the output unchanged"
abbrev pub refused : ℕ → Buffers → Answer
refused n b = record { number = neg_ℤ (pos n); disc = b.disc; area = b.area; out = b.out }

-- ---- operations that take the disc alone leave the rest
abbrev pub on_disc : Updated → Buffers → Answer
on_disc u b = record { number = u.number; disc = u.disc; area = b.area; out = b.out }

abbrev pub on_output : Reported → Buffers → Answer
on_output r b = record { number = r.number; disc = b.disc; area = b.area; out = r.out }

-- ---- operations that take both
unfoldable pub good_area : List ℕ → List ℕ → Bool
good_area disc area = good_kernel (entries disc) (kernel_of area)

-- Document 01: "Every operation tries 1, 2, 3, 4 first, in that order"
abbrev pub on_good : Buffers → Answer → Answer
on_good b rest =
    unless (is_disc_length (length b.disc) && is_area_length (length b.area)) (refused 1 b)
    (unless (good_disc b.disc) (refused 2 b)
    (unless (good_area b.disc b.area) (refused 3 b)
    rest))

-- Document 01: "4: output shorter than needed."
abbrev pub with_room : ℕ → Buffers → Answer → Answer
with_room n b rest = unless (leb n (length b.out)) (refused 4 b) rest

-- done with a number, a kernel state, a disc and what is written
abbrev pub done : ℕ → Kernel → List ℕ → List ℕ → Buffers → Answer
done n k disc text b = record { number = pos n; disc = disc; area = kernel_bytes k; out = overwrite b.out 0 text }

-- Document 01, Erase: "10; 11 a live process runs it or has it open."
abbrev pub erase_at : Option ℕ → Kernel → Buffers → Answer
erase_at None k b = refused 10 b
erase_at (Some i) k b =
    unless (not (in_use k (entry_at b.disc i))) (refused 11 b)
    (record { number = pos 0; disc = erased b.disc i; area = b.area; out = b.out })

-- Document 01, Run: "Returns the ID."
abbrev pub run_at : Starting → Kernel → Buffers → Answer
run_at (refuses n) k b = refused n b
run_at (starts slot e) k b = done k.next (started k slot e) b.disc [] b

abbrev pub command_answer : Commanded → Buffers → Answer
command_answer (declined n) b = refused n b
command_answer (becomes k) b = done 0 k b.disc [] b

abbrev pub list_answer : List ℕ → Buffers → Answer
list_answer text b = with_room (length text) b
    (record { number = pos (length text); disc = b.disc; area = b.area; out = overwrite b.out 0 text })

abbrev pub turned_answer : Turned → Buffers → Answer
turned_answer t b = done (length t.out) t.kernel t.disc t.out b

-- Document 01, Turn: "16 slot above 9 or not running. Returns the bytes printed; the rest of the output is untouched."
abbrev pub turn_answer : ℕ → ℕ → Kernel → Buffers → Answer
turn_answer slot clock k b =
    with_room turn_room b
    (unless (ltb slot slot_count && is_running (process_at k slot)) (refused 16 b)
    (turned_answer (turned k slot clock b.disc) b))

-- Document 02, Q-9: "needs 2,560 output bytes"
abbrev pub round_answer : ℕ → Kernel → Buffers → Answer
round_answer clock k b = with_room round_room b (turned_answer (round_of k clock b.disc) b)

unfoldable pub other_answer : Other → Buffers → Answer
other_answer (store name bytes) b = on_disc (store_answer b.disc name bytes) b
other_answer (retrieve name) b = on_output (retrieve_answer b.disc name b.out) b
other_answer files b = on_output (files_answer b.disc b.out) b
other_answer free_space b = record { number = free_space_answer b.disc; disc = b.disc; area = b.area; out = b.out }
other_answer (erase name) b = on_good b (erase_at (lookup b.disc name) (kernel_of b.area) b)
other_answer list b = on_good b (list_answer (list_text (kernel_of b.area)) b)

unfoldable pub answer : Call → Buffers → Answer
unfolding other_answer
answer (turn slot clock) b = on_good b (turn_answer slot clock (kernel_of b.area) b)
answer (round clock) b = on_good b (round_answer clock (kernel_of b.area) b)
answer (command c id) b = on_good b (command_answer (commanded c id (kernel_of b.area)) b)
answer (share id turns) b = on_good b (command_answer (shared id turns (kernel_of b.area)) b)
answer (run name) b = on_good b (run_at (starting (kernel_of b.area) b.disc name) (kernel_of b.area) b)
answer (other o) b = other_answer o b

-- ---- format and boot, which are no Call: they take any bytes of the right length
-- Document 01: "Boot zeroes the work area and sets next ID to 1."
abbrev pub booted : List ℕ
booted = set (replicate area_length 0) next_at 1

unfoldable pub boot_answer : Buffers → Answer
boot_answer b = unless (is_area_length (length b.area)) (refused 1 b)
    (record { number = pos 0; disc = b.disc; area = booted; out = b.out })

-- Document 01: "Format zeroes the disc, then boots."
unfoldable pub format_answer : Buffers → Answer
format_answer b =
    unless (is_disc_length (length b.disc) && is_area_length (length b.area)) (refused 1 b)
    (record { number = pos 0; disc = replicate (length b.disc) 0; area = booted; out = b.out })
