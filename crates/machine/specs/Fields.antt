-- What disc and work area say, read off at their offsets. The demands speak of the buffers in these words; no answer is
-- made of them.
use Rattle.std.specs.Prelude.{ℕ, ◌+◌, ◌*◌, ◌≤◌, ◌<◌, ◌≡◌, cond, ◌||◌, List, [], ◌∷◌, ◌++◌, ◌⊎◌, eqb, length, get_or}
use Rattle.buffer.specs.Buffer.{part, word_at}
use Rattle.buffer.specs.Lists.{flat, tab}
use Rattle.decimal.specs.Decimal.{decimal}
use Rattle.disc.specs.Layout.{count_at, max_name, name_size}
use Rattle.disc.specs.Name.{trimmed}
use Rattle.disc.specs.Offsets.{entry_start, size_of, start_of}
use Rattle.machine.specs.Limits.{next_at, record_size, records_at, slot_count}
use Rattle.machine.specs.State.{paused, running}

-- Document 01: "Takes the lowest ended slot"
abbrev pub Lowest : (ℕ → Type 0) → ℕ → Type 0
Lowest P n = P n × ((m : ℕ) → m < n → P m → ⊥)

-- ---- names
-- Document 01: "A name is 1 to 11 bytes of 33 to 126"
pub record IsName (name : List ℕ) : Type 0 where
  pub some : 1 ≤ length name
  pub few : length name ≤ max_name
  pub each : (j : ℕ) → j < length name → (33 ≤ get_or name j 0) × (get_or name j 0 ≤ 126)

-- twelve bytes of a buffer are that name, "zero-filled"
abbrev pub Spells : List ℕ → ℕ → List ℕ → Type 0
Spells buffer at name = (j : ℕ) → j < name_size → get_or buffer (at + j) 0 ≡ get_or name j 0

-- ---- the disc
abbrev pub files_on : List ℕ → ℕ
files_on disc = get_or disc count_at 0

-- file i has that name
pub record Named (disc name : List ℕ) (i : ℕ) : Type 0 where
  pub counted : i < files_on disc
  pub good : IsName name
  pub spelled : Spells disc (entry_start i) name

abbrev pub NoFile : (disc name : List ℕ) → Type 0
NoFile disc name = (i : ℕ) → Named disc name i → ⊥

-- ---- the work area: "name 12, ID 2, state 1, fault 1, [..] file start 2, file length 2"
abbrev pub record_start : ℕ → ℕ
record_start i = records_at + i * record_size

abbrev pub id_of : List ℕ → ℕ → ℕ
id_of area i = word_at area (record_start i + 12)

abbrev pub state_byte : List ℕ → ℕ → ℕ
state_byte area i = get_or area (record_start i + 14) 0

abbrev pub open_start : List ℕ → ℕ → ℕ
open_start area i = word_at area (record_start i + 24)

abbrev pub open_size : List ℕ → ℕ → ℕ
open_size area i = word_at area (record_start i + 26)

abbrev pub next_id : List ℕ → ℕ
next_id area = word_at area next_at

-- Document 01: "Live means running or paused."
pub record Live (area : List ℕ) (i : ℕ) : Type 0 where
  pub slot : i < slot_count
  pub state : (state_byte area i ≡ running) ⊎ (state_byte area i ≡ paused)

pub record Ended (area : List ℕ) (i : ℕ) : Type 0 where
  pub slot : i < slot_count
  pub state : state_byte area i ≡ 0

-- slot i has a live process of that ID
pub record HasId (area : List ℕ) (id i : ℕ) : Type 0 where
  pub live : Live area i
  pub same : id_of area i ≡ id

-- Document 01, erase: "a live process runs it or has it open"
pub record Uses (disc area : List ℕ) (file : ℕ) (i : ℕ) : Type 0 where
  pub live : Live area i
  pub runs : ((j : ℕ) → j < name_size → get_or area (record_start i + j) 0 ≡ get_or disc (entry_start file + j) 0)
      ⊎ ((open_start area i ≡ start_of disc file) × (open_size area i ≡ size_of disc file))

-- ---- listings
-- "a line per file, name, space, length, newline"
abbrev pub file_text : List ℕ → ℕ → List ℕ
file_text disc i = trimmed (part disc (entry_start i) name_size) ++ (32 ∷ []) ++ decimal (size_of disc i) ++ (10 ∷ [])

abbrev pub files_text : List ℕ → List ℕ
files_text disc = flat (file_text disc) (tab (λ i. i) (files_on disc))

-- "ID, space, 'r' or 'p', space, name, newline per live process in slot order"
abbrev pub process_text : List ℕ → ℕ → List ℕ
process_text area i =
    cond (eqb (state_byte area i) running || eqb (state_byte area i) paused)
    (decimal (id_of area i) ++ (32 ∷ state_byte area i ∷ 32 ∷ []) ++ trimmed (part area (record_start i) name_size)
    ++ (10 ∷ []))
    []

abbrev pub processes_text : List ℕ → List ℕ
processes_text area = flat (process_text area) (tab (λ i. i) slot_count)
