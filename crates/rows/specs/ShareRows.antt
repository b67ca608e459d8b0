-- Rows of rounds: programs in the lowest slots, the share of each, and what rounds then print and leave.
use Rattle.std.specs.Prelude.{ℕ, zero, suc, ◌-◌, ◌≡◌, List, [], ◌∷◌, ◌++◌, map, length, replicate, take}
use Rattle.buffer.specs.Lists.{flat}
use Rattle.disc.specs.Layout.{data_start}
use Rattle.disc.specs.Name.{padded}
use Rattle.disc.specs.declared.Entry.{Entry}
use Rattle.machine.specs.Answer.{booted}
use Rattle.machine.specs.Area.{kernel_of}
use Rattle.machine.specs.Operations.{Commanded, becomes, refused, round_of, shared}
use Rattle.machine.specs.Start.{started}
use Rattle.machine.specs.State.{running}
use Rattle.machine.specs.Turn.{Turned}
use Rattle.machine.specs.declared.Kernel.{Kernel}
use Rattle.machine.specs.declared.Process.{Process}
use Rattle.rows.specs.Bench.{Every}
use Rattle.rows.specs.Cases.{down}

-- a program, and the share that is set for its process; 0 leaves it as *run* made it
pub record Sharer : Type 0 where
  pub program : List ℕ
  pub share : ℕ

abbrev pub sharer : List ℕ → ℕ → Sharer
sharer program share = record { program = program; share = share }

-- what share leaves: a refused one changes nothing
abbrev pub or_as_it_was : Commanded → Kernel → Kernel
or_as_it_was (becomes j) k = j
or_as_it_was (refused n) k = k

-- each is started in the next slot, its program behind the one before. The list is no good disc; a turn reads only the
-- program's part of it.
unfoldable pub loading : List Sharer → Turned → Turned
loading [] t = t
loading (x ∷ xs) t =
    let id = t.kernel.next in
    let file : Entry = record { name = padded (110 ∷ []); start = length t.disc; len = length x.program } in
    let k = started t.kernel (id - 1) file in
    loading xs (record { kernel = or_as_it_was (shared id x.share k) k; disc = t.disc ++ x.program; out = t.out })

abbrev pub started_all : List Sharer → Turned
started_all l = loading l (record { kernel = kernel_of booted; disc = replicate data_start 0; out = [] })

unfoldable pub rounds : ℕ → Turned → Turned
rounds zero t = t
rounds (suc n) t =
    let u = round_of t.kernel 0 t.disc in
    rounds n (record { kernel = u.kernel; disc = u.disc; out = t.out ++ u.out })

-- what is looked at of a slot
pub record SlotSeen : Type 0 where
  pub state : ℕ
  pub share : ℕ
  pub fault : ℕ

abbrev pub slot_seen : Process → SlotSeen
slot_seen p = record { state = p.state; share = p.share; fault = p.fault }

-- running with that share, or ended by that fault
abbrev pub live : ℕ → SlotSeen
live share = record { state = running; share = share; fault = 0 }

abbrev pub gone : ℕ → SlotSeen
gone fault = record { state = 0; share = 0; fault = fault }

-- so many rounds print this text, and leave the slots like this
pub record ShareRow : Type 0 where
  pub sharers : List Sharer
  pub count : ℕ
  pub text : List ℕ
  pub seen : List SlotSeen

abbrev pub row : List Sharer → ℕ → List ℕ → List SlotSeen → ShareRow
row sharers count text seen = record { sharers = sharers; count = count; text = text; seen = seen }

abbrev pub ShareRowHolds : ShareRow → Type 0
ShareRowHolds r =
    let t = rounds r.count (started_all r.sharers) in
    (t.out ≡ r.text) × (map slot_seen (take (length r.sharers) t.kernel.processes) ≡ r.seen)

-- CHAR and PRINT of each of these letters, a turn each
abbrev pub printing : List ℕ → List ℕ
printing letters = flat (λ c. 1 ∷ c ∷ 51 ∷ []) letters

-- Document 02, Q-9
abbrev pub share_rows : List ShareRow
share_rows =
    -- "that many turns in a row", "with zero as one": in each round four turns of the first, then one of the second
    row (sharer (printing (97 ∷ 98 ∷ 99 ∷ 100 ∷ [])) 4 ∷ sharer (printing (120 ∷ [])) 0 ∷ []) 2
    (97 ∷ 98 ∷ 99 ∷ 100 ∷ 120 ∷ []) (live 4 ∷ live 0 ∷ []) ∷
    -- setting 1 writes 1; "22 a share outside 1 to 8": 9 changes nothing
    row (sharer (printing (97 ∷ [])) 1 ∷ sharer (printing (120 ∷ [])) 9 ∷ []) 1 [] (live 1 ∷ live 0 ∷ []) ∷
    -- "while it stays running", "when it is cleared like the rest": STOP, and a PRINT that faults, in the midst of it;
    -- a turn more would meet fault 2
    row (sharer (printing (97 ∷ []) ++ (67 ∷ [])) 8 ∷ sharer (printing (98 ∷ []) ++ (51 ∷ [])) 8 ∷ []) 1 (97 ∷ 98 ∷ [])
    (gone 0 ∷ gone 5 ∷ []) ∷
    -- `down`: 29 turns, so with a share of 8 it is live after three rounds and has ended after four
    row (sharer down 8 ∷ []) 3 (51 ∷ 10 ∷ 50 ∷ 10 ∷ 49 ∷ 10 ∷ []) (live 8 ∷ []) ∷
    row (sharer down 8 ∷ []) 4 (51 ∷ 10 ∷ 50 ∷ 10 ∷ 49 ∷ 10 ∷ []) (gone 0 ∷ []) ∷ []

-- every row holds of the definitions
unfoldable pub Shares : Type 0
Shares = Every ShareRowHolds share_rows
