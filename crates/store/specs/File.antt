-- What becomes of files: a new one enters, one goes, bytes are written and read inside one.
use Rattle.std.specs.Prelude.{Ok, Err, Result}
use Rattle.std.specs.Prelude.{ℕ, ◌+◌, ◌*◌, ◌-◌, Bool, true, false, ◌&&◌, List, [], ◌∷◌, ◌++◌, leb, ltb, length}
use Rattle.std.specs.Prelude.{replicate, None, Option, Some}
use Rattle.buffer.specs.Buffer.{overwrite, part}
use Rattle.place.specs.Place.{longest, place, run_from}
use Rattle.place.specs.declared.Run.{Run}
use Rattle.disc.specs.Directory.{contents, entry_bytes, file_count, lookup, taken}
use Rattle.disc.specs.Layout.{count_at, data_start, entry_size, max_files}
use Rattle.disc.specs.Name.{good_name, padded}
use Rattle.disc.specs.declared.Entry.{Entry}
use Rattle.store.specs.declared.Refusal.TheVariants.{BadName, BadSize, NameExists, DirectoryFull, NoRun}
use Rattle.store.specs.declared.Refusal.{Refusal}

-- the rest where the test holds, else the refusal: the order of refusals is the order of the lines
abbrev pub unless : {A : Type 0} → Bool → A → A → A
unless true refusal rest = rest
unless false refusal rest = refusal

-- the longest file that a disc can hold
unfoldable pub size_limit : List ℕ → ℕ
size_limit disc = length disc - data_start

-- Document 01: "data length 0 or above 863" is refused, by Q-2 "863 or 3,935": what does not fit between 161 and the
-- disc's end
abbrev pub good_size : List ℕ → ℕ → Bool
good_size disc n = leb 1 n && leb n (length disc - data_start)

-- Document 02, Q-10: "at the start of the shortest free run that fits, the lowest of equals"
unfoldable pub place_of : List ℕ → ℕ → Option ℕ
place_of disc n = place (taken disc) data_start (length disc) n

-- Document 01, free space: "the longest free run, however many files there are"
unfoldable pub room_on : List ℕ → ℕ
room_on disc = longest (taken disc) data_start (length disc)

abbrev pub start_or : Option ℕ → Result ℕ Refusal
start_or (Some s) = Ok s
start_or None = Err NoRun

abbrev pub deny_if_found : Option ℕ → Result ℕ Refusal → Result ℕ Refusal
deny_if_found (Some i) rest = Err NameExists
deny_if_found None rest = rest

-- Document 01: "5 bad name, 6 data length 0 or above 863, 8 ten files already, 7 name exists, 9 no free run long
-- enough"
unfoldable pub admission : List ℕ → List ℕ → ℕ → Result ℕ Refusal
admission disc name n =
    unless (good_name name) (Err BadName)
    (unless (good_size disc n) (Err BadSize)
    (unless (ltb (file_count disc) max_files) (Err DirectoryFull)
    (deny_if_found (lookup disc name)
    (start_or (place_of disc n)))))

abbrev pub new_entry : List ℕ → ℕ → ℕ → Entry
new_entry name n start = record { name = padded name; start = start; len = n }

-- a file of n bytes enters the directory last; its data bytes stay as they are
unfoldable pub entered : List ℕ → List ℕ → ℕ → ℕ → List ℕ
entered disc name n start =
    overwrite (overwrite disc (file_count disc * entry_size) (entry_bytes (new_entry name n start))) count_at
    ((file_count disc + 1) ∷ [])

-- Document 01: "Later entries move up, the vacated entry becomes zero, data bytes remain."
unfoldable pub erased : List ℕ → ℕ → List ℕ
erased disc i =
    let later = part disc (i * entry_size + entry_size) ((file_count disc - 1 - i) * entry_size) in
    overwrite (overwrite disc (i * entry_size) (later ++ replicate entry_size 0)) count_at ((file_count disc - 1) ∷ [])

-- bytes written at an offset of a file, and n bytes read there
unfoldable pub written_at : List ℕ → Run → ℕ → List ℕ → List ℕ
written_at disc run offset bytes = overwrite disc (run.start + offset) bytes

unfoldable pub read_at : List ℕ → Run → ℕ → ℕ → List ℕ
read_at disc run offset n = part (contents disc run) offset n

-- a file of these bytes enters the directory last: what store leaves, and OPEN's new file of zeros
abbrev pub stored : List ℕ → List ℕ → List ℕ → ℕ → List ℕ
stored disc name bytes start =
    written_at (entered disc name (length bytes) start) (run_from start (length bytes)) 0 bytes
