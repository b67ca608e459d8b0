-- The disc: its directory and its files.
use Rattle.std.specs.Prelude.{ℕ, ◌+◌, ◌*◌, ◌≤◌, ◌≡◌, Bool, true, false, ◌&&◌, ◌||◌, not, List, ◌++◌, map, ◌⊎◌, eqb}
use Rattle.std.specs.Prelude.{leb, length, get_or, take, None, Option}
use Rattle.buffer.specs.Buffer.{part, word_at, word_bytes}
use Rattle.buffer.specs.Lists.{all, index, pairs, same, tab}
use Rattle.place.specs.Place.{apart}
use Rattle.place.specs.declared.Run.{Run}
use Rattle.disc.specs.Layout.{count_at, data_start, entry_size, long_disc, max_files, name_size, short_disc}
use Rattle.disc.specs.Name.{good_field, good_name, padded}
use Rattle.disc.specs.declared.Entry.{Entry}

-- Document 02, Q-2: "Either length is now a disc". Nothing else that an answer is made of has a disc's length in it. It
-- is opened where the test itself is read (proofs/Lengths.antt, the proof of its code) and where rows are computed.
unfoldable pub is_disc_length : ℕ → Bool
is_disc_length n = eqb n short_disc || eqb n long_disc

-- the same as a statement, opened as seldom
unfoldable pub DiscLength : ℕ → Type 0
DiscLength n = (n ≡ short_disc) ⊎ (n ≡ long_disc)

-- Document 01: "Ten directory entries of 16 bytes from 0: name 12, start 2, length 2."
abbrev pub entry_of : List ℕ → Entry
entry_of bytes = record {
  name = take name_size bytes;
  start = word_at bytes name_size;
  len = word_at bytes (name_size + 2);
}

abbrev pub entry_bytes : Entry → List ℕ
entry_bytes e = e.name ++ word_bytes e.start ++ word_bytes e.len

unfoldable pub entry_at : List ℕ → ℕ → Entry
entry_at disc i = entry_of (part disc (i * entry_size) entry_size)

-- Document 01: "Byte 160 is the file count"
abbrev pub file_count : List ℕ → ℕ
file_count disc = get_or disc count_at 0

-- Document 01: "The first count entries are files in order of storing."
abbrev pub files : List ℕ → List Entry
files disc = tab (entry_at disc) (file_count disc)

-- the bytes that a file takes
abbrev pub run_of : Entry → Run
run_of e = record { start = e.start; len = e.len }

abbrev pub taken : List ℕ → List Run
taken disc = map run_of (files disc)

-- ---- what a file holds
unfoldable pub contents : List ℕ → Run → List ℕ
contents disc run = part disc run.start run.len

-- ---- lookup
abbrev pub named : List ℕ → Entry → Bool
named name e = same e.name (padded name)

abbrev pub nowhere_unless : Bool → Option ℕ → Option ℕ
nowhere_unless true f = f
nowhere_unless false f = None

-- the place of the file of that name; a name that is not good is no file's
unfoldable pub lookup : List ℕ → List ℕ → Option ℕ
lookup disc name = nowhere_unless (good_name name) (index (named name) (files disc))

-- ---- good disc
-- Document 01: "lengths from 1, and [..] files inside the data bytes", which end where the disc does
unfoldable pub good_entry : ℕ → Entry → Bool
good_entry end e = good_field e.name && (leb 1 e.len && (leb data_start e.start && leb (e.start + e.len) end))

-- Document 01: "distinct names [..] and disjoint files"
unfoldable pub beside : Entry → Entry → Bool
beside d e = not (same d.name e.name) && apart (run_of d) (run_of e)

unfoldable pub good_files : ℕ → List Entry → Bool
good_files end es = all (good_entry end) es && pairs beside es

-- Document 01: "Byte 160 is the file count, at most 10." "A good disc has distinct names, lengths from 1, and disjoint
-- files inside the data bytes."
unfoldable pub good_disc : List ℕ → Bool
good_disc disc = leb (file_count disc) max_files && good_files (length disc) (files disc)

-- what code needs to know of a disc to read its directory, and to hold its places in 16 bits
pub record Readable (disc : List ℕ) : Type 0 where
  pub low : data_start ≤ length disc
  pub high : length disc ≤ 65535
  pub few : file_count disc ≤ max_files
