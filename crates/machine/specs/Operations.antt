-- The operations on processes, on a good disc and a good area.
use Rattle.std.specs.Prelude.{ℕ, Bool, cond, ◌&&◌, ◌||◌, List, [], ◌∷◌, ◌++◌, eqb, leb, replicate, None, Option, Some}
use Rattle.buffer.specs.Lists.{any, flat, keep}
use Rattle.decimal.specs.Decimal.{decimal}
use Rattle.disc.specs.Name.{trimmed}
use Rattle.disc.specs.declared.Entry.{Entry}
use Rattle.store.specs.File.{unless}
use Rattle.machine.specs.GoodArea.{is_open_in, is_program}
use Rattle.machine.specs.Ended.{ended}
use Rattle.machine.specs.Limits.{max_share}
use Rattle.machine.specs.State.{is_live, is_running, paused, process_at, running, slot_of, with_process}
use Rattle.machine.specs.State.{with_share, with_state}
use Rattle.machine.specs.Turn.{Turned, turned}
use Rattle.machine.specs.declared.Kernel.{Kernel}
use Rattle.machine.specs.declared.Process.{Process}

-- ---- erase: "11 a live process runs it or has it open"
abbrev pub uses : Entry → Process → Bool
uses e p = is_live p && (is_program p e || is_open_in p.file e)

unfoldable pub in_use : Kernel → Entry → Bool
in_use k e = any (uses e) k.processes

-- ---- suspend, resume, kill
pub data Command : Type 0 where
  suspend resume kill : Command

-- the state after a command, or its refusal
pub data Commanded : Type 0 where
  becomes : Kernel → Commanded
  refused : ℕ → Commanded

-- Document 01: "15 already in that state"
abbrev pub changed : Kernel → ℕ → ℕ → Commanded
changed k slot state =
    cond (eqb (process_at k slot).state state) (refused 15)
    (becomes (with_process k slot (with_state (process_at k slot) state)))

abbrev pub command_at : Option ℕ → Command → Kernel → Commanded
command_at None c k = refused 14
command_at (Some slot) suspend k = changed k slot paused
command_at (Some slot) resume k = changed k slot running
command_at (Some slot) kill k = becomes (ended k slot 0)

-- Document 01: "14 no live process of that ID"; "Kill: 14."
unfoldable pub commanded : Command → ℕ → Kernel → Commanded
commanded c id k = command_at (slot_of k id) c k

-- ---- share
-- Document 02, Q-9: "A new operation sets it by ID."; "14"; "22 a share outside 1 to 8, after 14"
abbrev pub share_at : Option ℕ → ℕ → Kernel → Commanded
share_at None n k = refused 14
share_at (Some slot) n k =
    unless (leb 1 n && leb n max_share) (refused 22) (becomes (with_process k slot (with_share (process_at k slot) n)))

unfoldable pub shared : ℕ → ℕ → Kernel → Commanded
shared id n k = share_at (slot_of k id) n k

-- ---- list: "ID, space, 'r' or 'p', space, name, newline per live process in slot order"
unfoldable pub process_line : Process → List ℕ
process_line p = decimal p.id ++ (32 ∷ p.state ∷ 32 ∷ []) ++ trimmed p.name ++ (10 ∷ [])

unfoldable pub list_text : Kernel → List ℕ
list_text k = flat process_line (keep is_live k.processes)

-- ---- round: "a turn for slots 0 to 9, each if running when reached, under one clock reading, outputs joined"
unfoldable pub turn_if_running : Kernel → ℕ → ℕ → List ℕ → Turned
turn_if_running k slot clock disc =
    cond (is_running (process_at k slot)) (turned k slot clock disc) (record { kernel = k; disc = disc; out = [] })

-- what is done for each of these slots, each on what the one before left
unfoldable pub in_order : (Kernel → ℕ → ℕ → List ℕ → Turned) → List ℕ → Kernel → ℕ → List ℕ → Turned
in_order each [] k clock disc = record { kernel = k; disc = disc; out = [] }
in_order each (slot ∷ slots) k clock disc =
    let t = each k slot clock disc in
    let u = in_order each slots t.kernel clock t.disc in
    record { kernel = u.kernel; disc = u.disc; out = t.out ++ u.out }

-- Document 02, Q-9: "The spare byte holds 1 to 8, with zero as one"
abbrev pub turns_due : Process → ℕ
turns_due p = cond (eqb p.share 0) 1 p.share

-- Document 02, Q-9: "that many turns in a row while it stays running"
abbrev pub turns_in_row : ℕ → Kernel → ℕ → ℕ → List ℕ → Turned
turns_in_row n k slot clock disc = in_order turn_if_running (replicate n slot) k clock disc

-- "*Round* gives a slot that many": as its share is when the slot is reached
unfoldable pub share_of_turns : Kernel → ℕ → ℕ → List ℕ → Turned
share_of_turns k slot clock disc = turns_in_row (turns_due (process_at k slot)) k slot clock disc

abbrev pub slots : List ℕ
slots = 0 ∷ 1 ∷ 2 ∷ 3 ∷ 4 ∷ 5 ∷ 6 ∷ 7 ∷ 8 ∷ 9 ∷ []

-- Document 01: "for slots 0 to 9, [..] under one clock reading, outputs joined"
abbrev pub round_of : Kernel → ℕ → List ℕ → Turned
round_of = in_order share_of_turns slots
