-- One byte of the run's work area or disc changed: document 01's clauses of goodness, and the bytes that are free.
use Rattle.std.specs.Prelude.{ℕ, ◌-◌, ◌≡◌, Bool, true, not, List, [], ◌∷◌, ◌++◌, replicate, set}
use Rattle.buffer.specs.Buffer.{overwrite}
use Rattle.buffer.specs.Lists.{all}
use Rattle.disc.specs.Directory.{good_disc}
use Rattle.disc.specs.Layout.{long_disc, short_disc}
use Rattle.machine.specs.Answer.{good_area}
use Rattle.literal_rows.specs.Run.{area_bytes, disc_bytes}

abbrev pub area_with : ℕ × ℕ → Bool
area_with row = good_area disc_bytes (set area_bytes row.0 row.1)

abbrev pub disc_with : ℕ × ℕ → Bool
disc_with row = good_disc (set disc_bytes row.0 row.1)

-- ---- the work area: offset and byte
abbrev pub area_good : List (ℕ × ℕ)
area_good =
    -- memory; a name of another's; the last address that fits; an owner who has no such name; an entry beyond the count
    (100, 200) ∷ (256, 115) ∷ (258, 254) ∷ (260, 2) ∷ (268, 255) ∷
    -- fewer variables; a next ID that no live process has
    (406, 1) ∷ (407, 3) ∷ (408, 127) ∷
    -- the fault of a live record; PC, loop and offset at their lengths; SP at 32; the stack below and above SP
    (431, 9) ∷ (436, 18) ∷ (438, 18) ∷ (444, 9) ∷ (446, 32) ∷ (448, 255) ∷ (479, 255) ∷
    -- the other live state; the file start where none is open
    (430, 112) ∷ (494, 114) ∷ (504, 77) ∷
    -- document 02, Q-9: a live record's share
    (447, 1) ∷ (447, 8) ∷ (511, 8) ∷
    -- all of an ended record but its state
    (544, 255) ∷ (556, 1) ∷ (559, 13) ∷ (564, 255) ∷ (574, 99) ∷ (575, 9) ∷ (607, 255) ∷ []

abbrev pub area_bad : List (ℕ × ℕ)
area_bad =
    -- "at most 25 variables"; of what is counted beyond the two, nobody is the owner
    (406, 26) ∷ (406, 3) ∷
    -- "known states"
    (430, 113) ∷ (430, 1) ∷ (622, 1) ∷
    -- "its seven zeros"; document 02, Q-9: "1 to 8, with zero as one" in live records
    (409, 1) ∷ (415, 1) ∷ (447, 9) ∷ (511, 255) ∷
    -- "distinct live IDs from 1 to next ID − 1, next ID 1 to 32768"
    (428, 2) ∷ (428, 0) ∷ (428, 4) ∷ (407, 2) ∷ (407, 0) ∷ (408, 128) ∷
    -- "SP at most 32, PC, loop (unless none) and file offset at most their lengths"
    (446, 33) ∷ (436, 19) ∷ (438, 19) ∷ (444, 10) ∷ (508, 1) ∷
    -- "code equal to the directory's file of that name, an open file equal to some directory file"
    (416, 109) ∷ (427, 1) ∷ (432, 171) ∷ (434, 17) ∷ (440, 162) ∷ (442, 8) ∷
    -- "belong to live processes, are disjoint inside memory, have distinct (name, ID)"
    (260, 3) ∷ (258, 1) ∷ (258, 255) ∷
    -- "size 1, 2, 4 for types 1, 2, 4, or 1 to 30 for type 3"
    (257, 1) ∷ (257, 5) ∷ (259, 3) ∷ (265, 0) ∷ (265, 31) ∷
    -- an ended record whose state says that it lives: its code is no file
    (558, 114) ∷ []

unfoldable pub AreaRows : Type 0
AreaRows = (all area_with area_good ≡ true) × (all (λ row. not (area_with row)) area_bad ≡ true)

-- ---- the disc
abbrev pub disc_good : List (ℕ × ℕ)
disc_good =
    -- data, entries beyond the count, fewer files; a shorter file; the last bytes of a name
    (161, 255) ∷ (1023, 255) ∷ (48, 255) ∷ (159, 255) ∷ (160, 2) ∷ (160, 0) ∷
    (14, 1) ∷ (46, 255) ∷ (2, 33) ∷ (2, 126) ∷ []

abbrev pub disc_bad : List (ℕ × ℕ)
disc_bad =
    -- "at most 10"; an entry of zeros counted
    (160, 11) ∷ (160, 4) ∷
    -- "A name is 1 to 11 bytes of 33 to 126, zero-filled."
    (0, 0) ∷ (1, 32) ∷ (1, 127) ∷ (11, 1) ∷ (4, 97) ∷
    -- "lengths from 1, and disjoint files inside the data bytes"
    (14, 0) ∷ (14, 10) ∷ (12, 160) ∷ (28, 169) ∷ (47, 4) ∷ (13, 4) ∷ []

unfoldable pub DiscRows : Type 0
DiscRows = (all disc_with disc_good ≡ true) × (all (λ row. not (disc_with row)) disc_bad ≡ true)

-- ---- the same files on a long disc, with these bytes from that offset on. Document 02, Q-2: "data ending at 1023 or
-- 4095"
abbrev pub long_with : ℕ × List ℕ → Bool
long_with row = good_disc (overwrite (disc_bytes ++ replicate (long_disc - short_disc) 0) row.0 row.1)

abbrev pub long_good : List (ℕ × List ℕ)
long_good =
    -- the length of the last file, from 188 on: up to byte 4095, and one byte less
    (46, 68 ∷ 15 ∷ []) ∷ (46, 67 ∷ 15 ∷ []) ∷
    -- start and length of the first: from 1024 on, and byte 4095 alone
    (12, 0 ∷ 4 ∷ 9 ∷ 0 ∷ []) ∷ (12, 255 ∷ 15 ∷ 1 ∷ 0 ∷ []) ∷ []

abbrev pub long_bad : List (ℕ × List ℕ)
long_bad =
    (46, 69 ∷ 15 ∷ []) ∷ (46, 255 ∷ 255 ∷ []) ∷
    (12, 255 ∷ 15 ∷ 2 ∷ 0 ∷ []) ∷ (12, 0 ∷ 16 ∷ 1 ∷ 0 ∷ []) ∷ []

unfoldable pub LongDiscRows : Type 0
LongDiscRows = (all long_with long_good ≡ true) × (all (λ row. not (long_with row)) long_bad ≡ true)
