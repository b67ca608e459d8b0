-- What becomes of the disc when a file enters or goes, of the slots when a program starts, of the variables when one is
-- set.
use Rattle.std.specs.Prelude.{ℕ, ◌+◌, ◌≤◌, ◌<◌, ◌≡◌, true, List, [], ◌∷◌, ◌++◌, map, ◌⊎◌, length, get_or, replicate}
use Rattle.buffer.specs.Buffer.{overwrite, part}
use Rattle.place.specs.Place.{fits}
use Rattle.place.specs.ShortestFit.{ShortestFit}
use Rattle.disc.specs.Layout.{count_at, entry_size, name_size}
use Rattle.disc.specs.Offsets.{entry_start, size_of, start_of}
use Rattle.variable.specs.Limits.{memory_size}
use Rattle.variable.specs.Table.{counted, run_of}
use Rattle.variable.specs.declared.Variables.{Variables}
use Rattle.machine.specs.Fields.{Ended, Lowest, Named, NoFile, Spells, files_on, next_id}
use Rattle.machine.specs.Limits.{id_limit, stack_size}
use Rattle.machine.specs.State.{no_loop, process_at, running}
use Rattle.machine.specs.Suppositions.{others_than}
use Rattle.machine.specs.declared.Kernel.{Kernel}

-- a file of these bytes enters last, from start on; every other byte stays
pub record Enters (before after name bytes : List ℕ) (start : ℕ) : Type 0 where
  pub count : files_on after ≡ files_on before + 1
  pub spelled : Spells after (entry_start (files_on before)) name
  pub starts : start_of after (files_on before) ≡ start
  pub sized : size_of after (files_on before) ≡ length bytes
  pub holds : part after start (length bytes) ≡ bytes
  pub rest : (j : ℕ) → (j ≡ count_at → ⊥)
      → (j < entry_start (files_on before)) ⊎ (entry_start (files_on before) + entry_size ≤ j)
      → (j < start) ⊎ (start + length bytes ≤ j)
      → get_or after j 0 ≡ get_or before j 0

-- Document 01: "Later entries move up, the vacated entry becomes zero, data bytes remain."
pub record Leaves (before after : List ℕ) (i : ℕ) : Type 0 where
  pub count : files_on after + 1 ≡ files_on before
  pub earlier : (j : ℕ) → j < entry_start i → get_or after j 0 ≡ get_or before j 0
  pub later : (j : ℕ) → entry_start i ≤ j → j < entry_start (files_on after) → get_or after j 0
      ≡ get_or before (j + entry_size) 0
  pub vacated : (j : ℕ) → entry_start (files_on after) ≤ j → j < entry_start (files_on before)
      → get_or after j 0 ≡ 0
  pub rest : (j : ℕ) → entry_start (files_on before) ≤ j → (j ≡ count_at → ⊥) → get_or after j 0 ≡ get_or before j 0

-- Document 01, run: "Takes the lowest ended slot: state 'r', no loop, name, ID and code filled in, all else of the
-- record zero."
pub record Starts (disc area name : List ℕ) (slot : ℕ) (after : Kernel) : Type 0 where
  pub lowest : Lowest (Ended area) slot
  pub file : ℕ
  pub named : Named disc name file
  pub left : next_id area ≡ id_limit → ⊥
  pub next : after.next ≡ next_id area + 1
  pub new : process_at after slot
      ≡ record {
        name = part disc (entry_start file) name_size;
        id = next_id area;
        state = running;
        fault = 0;
        code = record { start = start_of disc file; len = size_of disc file };
        pc = 0;
        loopstart = no_loop;
        file = record { start = 0; len = 0; offset = 0 };
        sp = 0;
        share = 0;
        stack = replicate stack_size 0;
      }

-- "12 no ended slot, 10, 13 next ID is 32768"
abbrev pub CannotStart : (disc area name : List ℕ) → Type 0
CannotStart disc area name = ((i : ℕ) → Ended area i → ⊥) ⊎ (NoFile disc name ⊎ (next_id area ≡ id_limit))

-- Document 01: "SET first frees the old variable"; document 02, Q-10: "at the start of the shortest free run that fits,
-- the lowest of equals"
pub record Assigns (before : Variables) (name id kind : ℕ) (bytes : List ℕ) (after : Variables) : Type 0 where
  pub address : ℕ
  pub placed : ShortestFit
      (λ n a. fits (map run_of (others_than name id before)) 0 memory_size n a ≡ true) (length bytes) address
  pub entries : counted after
      ≡ others_than name id before
      ++ (record { name = name; kind = kind; address = address; size = length bytes; owner = id } ∷ [])
  pub memory : after.memory ≡ overwrite before.memory address bytes
