-- How the tests of a good area read it: IDs by slot, files and variables by columns.
use Rattle.std.specs.Prelude.{ℕ, ◌+◌, ◌*◌, ◌<◌, ◌≡◌, Bool, true, cond, ◌&&◌, ◌||◌, not, List, eqb, leb, ltb}
use Rattle.std.specs.Prelude.{get_or, replicate, None, Option, Some}
use Rattle.buffer.specs.Buffer.{four_at, overwrite, word_at}
use Rattle.buffer.specs.Lists.{tab}
use Rattle.disc.specs.Directory.{Readable, file_count, good_disc}
use Rattle.disc.specs.Layout.{entry_size as file_entry_size, max_files, name_size}
use Rattle.variable.specs.Good.{good_size}
use Rattle.variable.specs.Limits.{entries_at, entry_size, memory_size}
use Rattle.variable.specs.declared.Variable.{Variable}
use Rattle.variable.specs.Bytes.{variable_in}
use Rattle.machine.specs.Limits.{slot_count}
use Rattle.machine.specs.State.{is_live}
use Rattle.machine.specs.declared.Process.{Process}
use Rattle.area.specs.Parts.{process_in}

-- ---- files
-- start and length of each file as one number; behind the last file 0, which is none of a good disc
unfoldable pub file_runs : List ℕ → List ℕ
file_runs disc = overwrite (replicate max_files 0) 0
    (tab (λ i. four_at disc (i * file_entry_size + name_size)) (file_count disc))

-- what the tests of the records are given of the disc
pub record Listed (disc runs : List ℕ) : Type 0 where
  pub readable : Readable disc
  pub sound : good_disc disc ≡ true
  pub each : runs ≡ file_runs disc

-- where a search among the runs ends: at one that is equal, if one is
pub record FileOf (runs : List ℕ) (run : ℕ) (file : Option ℕ) : Type 0 where
  pub found : (i : ℕ) → file ≡ Some i → (i < max_files) × (get_or runs i 0 ≡ run)
  pub missed : file ≡ None → (i : ℕ) → i < max_files → get_or runs i 0 ≡ run → ⊥

-- ---- IDs
-- the ID of a live process; 0, which is none in a good area, where nothing lives
unfoldable pub slot_id : Process → ℕ
slot_id p = cond (is_live p) p.id 0

abbrev pub slot_ids : List ℕ → List ℕ
slot_ids area = tab (λ i. slot_id (process_in area i)) slot_count

abbrev pub is_id : ℕ → Bool
is_id id = not (eqb id 0)

-- a later slot has another ID than an earlier one, or none
abbrev pub differs : ℕ → ℕ → Bool
differs earlier later = eqb later 0 || not (eqb earlier later)

-- ---- variables
-- every two of 25 by their distance: the first stands below 24, the second up to 24 behind it
abbrev pub firsts : ℕ
firsts = 24

-- as many as one step of the compiled code compares
abbrev pub few : ℕ
few = 8

-- at how many places the first is sought where so many are left for it
unfoldable pub reach : ℕ → ℕ
reach left = cond (leb left few) few firsts

abbrev pub places : ℕ
places = 48

unfoldable pub sized : Variable → Bool
sized e = good_size e.kind e.size && leb (e.address + e.size) memory_size

-- the columns: a field of each variable, and behind the last one a value that meets none
abbrev pub bytes_of : List ℕ → ℕ → ℕ → List ℕ
bytes_of area field count = tab (λ i. get_or area (entries_at + i * entry_size + field) 0) count

abbrev pub words_of : List ℕ → ℕ → ℕ → List ℕ
words_of area field count = tab (λ i. word_at area (entries_at + i * entry_size + field)) count

abbrev pub ends_of : List ℕ → ℕ → List ℕ
ends_of area count = tab (λ i. (variable_in area i).address + (variable_in area i).size) count

-- a byte shared, or a name and an owner
unfoldable pub clash : List ℕ → List ℕ → List ℕ → List ℕ → ℕ → ℕ → Bool
clash starts ends names owners i j =
    (ltb (get_or starts i 0) (get_or ends j 0) && ltb (get_or starts j 0) (get_or ends i 0))
    || (eqb (get_or names i 0) (get_or names j 0) && eqb (get_or owners i 0) (get_or owners j 0))
