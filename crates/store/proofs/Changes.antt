-- What becomes of the directory and the bytes when a file enters, one goes, or bytes are written inside one.
use Prim.Native.Nat.{ℕ, suc, ◌+◌, ◌*◌, ◌-◌, ◌≤◌, ◌<◌}
use mathlib.Core.Path.{◌≡◌, refl, sym, ap, ◌∙◌}
use mathlib.Core.Bool.{Bool, true, false}
use mathlib.Core.List.{List, [], ◌∷◌, ◌++◌}
use mathlib.Core.Logic.{◌⊎◌, ⊎_elim}
use native.Mathlib.Omega.{arith}
use lib.Dec.{ltb}
use lib.ListN.{drop, length, get_or, take, replicate, length-append}
use borrow.Author.Tests.{ltb-false, ltb-true}
use Rattle.buffer.specs.Buffer.{overwrite, part}
use Rattle.buffer.specs.Lists.{tab, without}
use Rattle.buffer.proofs.Buffer.{overwrite-drop, overwrite-length}
use Rattle.buffer.proofs.Lists.{tab-more, tab-same}
use Rattle.buffer.proofs.Parts.{byte-before, byte-behind, byte_inside, byte-of-part, part-before, part-inside, part_length}
use Rattle.buffer.proofs.Parts.{part-of-append-left, part-of-append-right, part-of-part, same-part}
use Rattle.buffer.proofs.Scattered.{scattered, scattered-before, scattered-length, scattered-other, scattered-overwrite}
use Rattle.buffer.proofs.Tables.{tab-without}
use Rattle.place.specs.declared.Run.{Run}
use Rattle.disc.specs.Directory.{entry_at, entry_bytes, file_count, files}
use Rattle.disc.proofs.Locations.{location, location-low}
use Rattle.disc.specs.Layout.{count_at, data_start, entry_size, max_files, name_size}
use Rattle.disc.proofs.Entries.{entry-bytes-length, entry-laid, same_count, same-entry, same-files}
use Rattle.disc.proofs.Names.{padded-length}
use Rattle.store.specs.File.{entered, erased, new_entry, written_at}

-- ---- s laid over entries from place at on, and a new file count
record DirectoryChange (disc : List ℕ) (at : ℕ) (s : List ℕ) (count : ℕ) (after : List ℕ) : Type 0 where
  same_length : length after ≡ length disc
  new-count : file_count after ≡ count
  same-data : drop data_start after ≡ drop data_start disc
  parts : (i n : ℕ) → i + n ≤ count_at → part after i n ≡ part (overwrite disc at s) i n
  same-bytes : (i : ℕ) → (i < at) ⊎ (at + length s ≤ i) → (i ≡ count_at → ⊥) → get_or after i 0 ≡ get_or disc i 0

directory-change : (disc s : List ℕ) (at count : ℕ) → at + length s ≤ count_at → data_start ≤ length disc
    → DirectoryChange disc at s count (overwrite (overwrite disc at s) count_at (count ∷ []))
directory-change disc s at count h l =
    let inside : at + length s ≤ length disc = omega arith in
    let same : length (overwrite disc at s) ≡ length disc = overwrite-length disc s at inside in
    let room : count_at + 1 ≤ length (overwrite disc at s) = omega arith in
    record {
      same_length = overwrite-length (overwrite disc at s) (count ∷ []) count_at room ∙ same;
      new-count = byte_inside (overwrite disc at s) (count ∷ []) count_at room 0 (omega arith);
      same-data = overwrite-drop (overwrite disc at s) (count ∷ []) count_at room data_start (omega arith)
          ∙ overwrite-drop disc s at inside data_start (omega arith);
      parts = λ i n k. part-before (overwrite disc at s) (count ∷ []) count_at room i n k;
      same-bytes = λ i o k. byte-but (overwrite disc at s) count i room k
          ∙ ⊎_elim (byte-before disc s at inside i) (byte-behind disc s at inside i) o;
    }
  where
    byte-but : (d : List ℕ) (b i : ℕ) → count_at + 1 ≤ length d → (i ≡ count_at → ⊥)
        → get_or (overwrite d count_at (b ∷ [])) i 0 ≡ get_or d i 0
    byte-but d b i room k = go (ltb i count_at) refl
      where
        go : (t : Bool) → ltb i count_at ≡ t → get_or (overwrite d count_at (b ∷ [])) i 0 ≡ get_or d i 0
        go true e = byte-before d (b ∷ []) count_at room i (ltb-true i count_at e)
        go false e = let m : count_at ≤ i = ltb-false i count_at e in byte-behind d (b ∷ []) count_at room i (omega arith)

-- ---- a file enters
-- a directory with room for one more entry, and a name that goes into it
pub record Room (disc name : List ℕ) : Type 0 where
  pub low : data_start ≤ length disc
  pub few : file_count disc < max_files
  pub short : length name ≤ name_size

module _ {disc name : List ℕ} (n start : ℕ) (room : Room disc name) where
  entry_length : length (entry_bytes (new_entry name n start)) ≡ entry_size
  entry_length = entry-bytes-length (new_entry name n start) (padded-length name room.short)

  entering : DirectoryChange disc (file_count disc * entry_size) (entry_bytes (new_entry name n start)) (file_count disc + 1)
      (entered disc name n start)
  unfolding entered
  entering = directory-change disc (entry_bytes (new_entry name n start)) (file_count disc * entry_size) (file_count disc + 1)
      (omega (arith, entry_length)) room.low

  pub entered-length : length (entered disc name n start) ≡ length disc
  entered-length = entering.same_length

  pub entered-count : file_count (entered disc name n start) ≡ file_count disc + 1
  entered-count = entering.new-count

  pub entered-data : drop data_start (entered disc name n start) ≡ drop data_start disc
  entered-data = entering.same-data

  -- every byte but the new entry's sixteen and the count is as it was
  pub entered-byte : (i : ℕ) → (i < file_count disc * entry_size) ⊎ (file_count disc * entry_size + entry_size ≤ i) → (i ≡ count_at → ⊥)
      → get_or (entered disc name n start) i 0 ≡ get_or disc i 0
  entered-byte i o k = entering.same-bytes i (rw entry_length o) k

  pub entered-new : entry_at (entered disc name n start) (file_count disc) ≡ new_entry name n start
  entered-new =
      same-entry (entered disc name n start) (overwrite disc (file_count disc * entry_size) (entry_bytes (new_entry name n start)))
      (file_count disc) (file_count disc) (entering.parts (file_count disc * entry_size) entry_size (omega arith))
      ∙ entry-laid disc (file_count disc) (new_entry name n start) (padded-length name room.short) (omega arith)

  pub entered-old : (i : ℕ) → i < file_count disc → entry_at (entered disc name n start) i ≡ entry_at disc i
  entered-old i k =
      same-entry (entered disc name n start) disc i i
      (entering.parts (i * entry_size) entry_size (omega arith)
      ∙ part-before disc (entry_bytes (new_entry name n start)) (file_count disc * entry_size) (omega (arith, entry_length))
      (i * entry_size)
      entry_size (omega arith))

  pub entered-files : files (entered disc name n start) ≡ files disc ++ (new_entry name n start ∷ [])
  entered-files =
      ap (tab (entry_at (entered disc name n start))) entered-count
      ∙ tab-more (entry_at (entered disc name n start)) (file_count disc)
      ∙ rw (entered-new, tab-same (entry_at (entered disc name n start)) (entry_at disc) (file_count disc) entered-old)

-- ---- a file goes
-- the directory has a file at place i
pub record Present (disc : List ℕ) (i : ℕ) : Type 0 where
  pub low : data_start ≤ length disc
  pub few : file_count disc ≤ max_files
  pub inside : i < file_count disc

module _ {disc : List ℕ} {i : ℕ} (file : Present disc i) where
  later : List ℕ
  later = part disc (i * entry_size + entry_size) ((file_count disc - 1 - i) * entry_size)

  later-length : length later ≡ (file_count disc - 1 - i) * entry_size
  unfolding later
  later-length = part_length disc (i * entry_size + entry_size) ((file_count disc - 1 - i) * entry_size) (omega arith)

  moved_length : i * entry_size + length (later ++ replicate entry_size 0) ≡ file_count disc * entry_size
  moved_length = omega (arith, length-append later (replicate entry_size 0), later-length)

  erasing : DirectoryChange disc (i * entry_size) (later ++ replicate entry_size 0) (file_count disc - 1) (erased disc i)
  unfolding erased later
  erasing =
      directory-change disc (later ++ replicate entry_size 0) (i * entry_size) (file_count disc - 1) (omega (arith, moved_length)) file.low

  pub erased-length : length (erased disc i) ≡ length disc
  erased-length = erasing.same_length

  pub erased-count : file_count (erased disc i) ≡ file_count disc - 1
  erased-count = erasing.new-count

  pub erased-data : drop data_start (erased disc i) ≡ drop data_start disc
  erased-data = erasing.same-data

  -- every byte but the count and those from the erased entry to the last is as it was
  pub erased-byte : (j : ℕ) → (j < i * entry_size) ⊎ (file_count disc * entry_size ≤ j) → (j ≡ count_at → ⊥)
      → get_or (erased disc i) j 0 ≡ get_or disc j 0
  erased-byte j o k = erasing.same-bytes j (rw moved_length o) k

  -- a part of what moved up
  moved : (at n : ℕ) → at + n ≤ (file_count disc - i) * entry_size
      → part (erased disc i) (i * entry_size + at) n ≡ part (later ++ replicate entry_size 0) at n
  moved at n k =
      erasing.parts (i * entry_size + at) n (omega arith)
      ∙ part-inside disc (later ++ replicate entry_size 0) (i * entry_size) (omega (arith, moved_length)) at n (omega (arith, moved_length))

  pub erased-vacated : part (erased disc i) ((file_count disc - 1) * entry_size) entry_size ≡ replicate entry_size 0
  erased-vacated =
      let q : i * entry_size + (length later + 0) ≡ (file_count disc - 1) * entry_size = omega (arith, later-length) in
      ap (λ (a : ℕ). part (erased disc i) a entry_size) (sym q)
      ∙ moved (length later + 0) entry_size (omega (arith, later-length))
      ∙ part-of-append-right later (replicate entry_size 0) 0 entry_size

  pub erased-earlier : (j : ℕ) → j < i → entry_at (erased disc i) j ≡ entry_at disc j
  erased-earlier j k =
      same-entry (erased disc i) disc j j
      (erasing.parts (j * entry_size) entry_size (omega arith)
      ∙ part-before disc (later ++ replicate entry_size 0) (i * entry_size) (omega (arith, moved_length)) (j * entry_size) entry_size
      (omega arith))

  -- what lay behind the erased entry lies sixteen bytes before where it was
  moved_up : (at n : ℕ) → i * entry_size ≤ at → at + n ≤ (file_count disc - 1) * entry_size
      → part (erased disc i) at n ≡ part disc (at + entry_size) n
  unfolding later
  moved_up at n a b =
      let p : i * entry_size + (at - i * entry_size) ≡ at = omega arith in
      let q : i * entry_size + entry_size + (at - i * entry_size) ≡ at + entry_size = omega arith in
      ap (λ (x : ℕ). part (erased disc i) x n) (sym p)
      ∙ moved (at - i * entry_size) n (omega arith)
      ∙ part-of-append-left later (replicate entry_size 0) (at - i * entry_size) n (omega (arith, later-length))
      ∙ part-of-part disc (i * entry_size + entry_size) ((file_count disc - 1 - i) * entry_size) (at - i * entry_size) n (omega arith)
      ∙ ap (λ (x : ℕ). part disc x n) q

  pub erased-moved : (j : ℕ) → i * entry_size ≤ j → j < (file_count disc - 1) * entry_size
      → get_or (erased disc i) j 0 ≡ get_or disc (j + entry_size) 0
  erased-moved j a b = byte-of-part (erased disc i) disc j (j + entry_size) (moved_up j 1 a (omega arith))

  pub erased-later : (j : ℕ) → i ≤ j → j < file_count disc - 1 → entry_at (erased disc i) j ≡ entry_at disc (suc j)
  erased-later j a b =
      let q : j * entry_size + entry_size ≡ suc j * entry_size = omega arith in
      same-entry (erased disc i) disc j (suc j)
      (moved_up (j * entry_size) entry_size (omega arith) (omega arith) ∙ ap (λ (x : ℕ). part disc x entry_size) q)

  pub erased-to : (j : ℕ) → j < file_count disc → (j ≡ i → ⊥) → (k : ℕ) × (k < file_count (erased disc i))
      × (entry_at (erased disc i) k ≡ entry_at disc j)
  erased-to j b n = go (ltb j i) refl
    where
      go : (t : Bool) → ltb j i ≡ t → (k : ℕ) × (k < file_count (erased disc i)) × (entry_at (erased disc i) k ≡ entry_at disc j)
      go true e = let l : j < i = ltb-true j i e in (j, omega (arith, erased-count), erased-earlier j l)
      go false e =
          let l : i ≤ j = ltb-false j i e in
          let m : i < j = omega arith in
          let q : suc (j - 1) ≡ j = omega arith in
          (j - 1, omega (arith, erased-count), erased-later (j - 1) (omega arith) (omega arith) ∙ ap (entry_at disc) q)

  pub erased-files : files (erased disc i) ≡ without i (files disc)
  erased-files =
      let q : suc (file_count disc - 1) ≡ file_count disc = omega arith in
      ap (tab (entry_at (erased disc i))) erased-count
      ∙ tab-without (entry_at disc) (entry_at (erased disc i)) i (file_count disc - 1) (omega arith) erased-earlier erased-later
      ∙ ap (λ (m : ℕ). without i (tab (entry_at disc) m)) q

-- ---- bytes are written inside a file
-- n bytes from an offset on lie in the run, and that among the data bytes
pub record Inside (disc : List ℕ) (run : Run) (offset n : ℕ) : Type 0 where
  pub low : data_start ≤ run.start
  pub high : run.start + run.len ≤ length disc
  pub fits : offset + n ≤ run.len

module _ {disc : List ℕ} {run : Run} {offset : ℕ} (bytes : List ℕ) (inside : Inside disc run offset (length bytes)) where
  -- at their places, one behind the other
  pub written-scattered : written_at disc run offset bytes ≡ scattered (location disc run) offset disc bytes
  unfolding written_at location
  written-scattered = sym (scattered-overwrite disc bytes run.start offset (omega (arith, inside.high, inside.fits)))

  pub written-length : length (written_at disc run offset bytes) ≡ length disc
  written-length = ap length written-scattered ∙ scattered-length (location disc run) offset disc bytes

  pub written-directory : take data_start (written_at disc run offset bytes) ≡ take data_start disc
  written-directory =
      ap (take data_start) written-scattered
      ∙ scattered-before (location disc run) offset disc bytes data_start
      (λ k h. location-low disc run (offset + k) inside.low)

  pub written_count : file_count (written_at disc run offset bytes) ≡ file_count disc
  written_count = same_count (written_at disc run offset bytes) disc written-directory

  pub written-files : file_count disc ≤ max_files → files (written_at disc run offset bytes) ≡ files disc
  written-files few = same-files (written_at disc run offset bytes) disc written-directory few

  pub written_entry : (i : ℕ) → i < max_files → entry_at (written_at disc run offset bytes) i ≡ entry_at disc i
  written_entry i h = same-entry (written_at disc run offset bytes) disc i i
      (same-part (written_at disc run offset bytes) disc data_start (i * entry_size) entry_size written-directory (omega arith))

  -- a byte at none of their places stays
  pub written-other : (j : ℕ) → ((i : ℕ) → i < length bytes → j ≡ location disc run (offset + i) → ⊥)
      → get_or (written_at disc run offset bytes) j 0 ≡ get_or disc j 0
  written-other j o =
      ap (λ (l : List ℕ). get_or l j 0) written-scattered ∙ scattered-other (location disc run) offset disc bytes j o
