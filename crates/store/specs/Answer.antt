-- What the operations on the disc answer and leave, for every disc, name and buffer.
use Rattle.std.specs.Prelude.{Ok, Err, Result}
use Rattle.std.specs.Prelude.{ℕ, List, [], ◌∷◌, ◌++◌, leb, ℤ, pos, neg_ℤ, length, None, Option, Some}
use Rattle.buffer.specs.Buffer.{overwrite}
use Rattle.buffer.specs.Lists.{flat}
use Rattle.decimal.specs.Decimal.{decimal}
use Rattle.place.specs.Place.{longest}
use Rattle.disc.specs.Directory.{contents, entry_at, files, good_disc, is_disc_length, lookup, run_of, taken}
use Rattle.disc.specs.Layout.{data_start}
use Rattle.disc.specs.Name.{trimmed}
use Rattle.disc.specs.declared.Entry.{Entry}
use Rattle.store.specs.File.{admission, stored, unless}
use Rattle.store.specs.declared.Refusal.{Refusal}
use Rattle.store.specs.declared.Refusal.TheVariants.{WrongLength, BadDisc, BadArea, ShortOutput, BadName, BadSize}
use Rattle.store.specs.declared.Refusal.TheVariants.{NameExists, DirectoryFull, NoRun, NoSuchFile, FileInUse, NoSlot}
use Rattle.store.specs.declared.Refusal.TheVariants.{NoId, NoProcess, SameState, NotRunning, BadShare}

-- ---- the documents' numbers
-- Document 01: "1: a buffer has the wrong length. 2: disc not good. 3: work area not good. 4: output shorter than
-- needed."; Store: "5 bad name, 6 data length 0 or above 863, 8 ten files already, 7 name exists, 9 no free run long
-- enough"; Erase: "10; 11 a live process runs it or has it open."; Run: "12 no ended slot, 10, 13 next ID is 32768.";
-- Suspend, resume: "14 no live process of that ID, 15 already in that state."; Turn: "16 slot above 9 or not running."
-- Document 02, Q-9: "22 a share outside 1 to 8"
abbrev pub refusal_number : Refusal → ℕ
refusal_number WrongLength = 1
refusal_number BadDisc = 2
refusal_number BadArea = 3
refusal_number ShortOutput = 4
refusal_number BadName = 5
refusal_number BadSize = 6
refusal_number NameExists = 7
refusal_number DirectoryFull = 8
refusal_number NoRun = 9
refusal_number NoSuchFile = 10
refusal_number FileInUse = 11
refusal_number NoSlot = 12
refusal_number NoId = 13
refusal_number NoProcess = 14
refusal_number SameState = 15
refusal_number NotRunning = 16
refusal_number BadShare = 22

-- Document 01: "0 or more is done (0 where nothing else is said), −n is refusal n"
abbrev pub answer_number : Result ℕ Refusal → ℤ
answer_number (Ok n) = pos n
answer_number (Err r) = neg_ℤ (pos (refusal_number r))

-- ---- what a call answers and leaves: the disc of one that may change it, the output of one that may write it
pub record Updated : Type 0 where
  pub number : ℤ
  pub disc : List ℕ

pub record Reported : Type 0 where
  pub number : ℤ
  pub out : List ℕ

abbrev pub updated : Result ℕ Refusal → List ℕ → Updated
updated a disc = record { number = answer_number a; disc = disc }

abbrev pub reported : Result ℕ Refusal → List ℕ → Reported
reported a out = record { number = answer_number a; out = out }

-- ---- what every operation tries first
-- Document 01: "1: a buffer has the wrong length. 2: disc not good."
unfoldable pub checked : List ℕ → Result (Unit {0}) Refusal
checked disc =
    unless (is_disc_length (length disc)) (Err WrongLength)
    (unless (good_disc disc) (Err BadDisc)
    (Ok tt))

abbrev pub if_usable : {A : Type 0} → Result (Unit {0}) Refusal → (Refusal → A) → A → A
if_usable (Err r) refuse rest = refuse r
if_usable (Ok u) refuse rest = rest

-- ---- store
abbrev pub store_at : Result ℕ Refusal → List ℕ → List ℕ → List ℕ → Updated
store_at (Err r) disc name bytes = updated (Err r) disc
store_at (Ok s) disc name bytes = updated (Ok 0) (stored disc name bytes s)

unfoldable pub store_answer : List ℕ → List ℕ → List ℕ → Updated
store_answer disc name bytes =
    if_usable (checked disc) (λ r. updated (Err r) disc)
    (store_at (admission disc name (length bytes)) disc name bytes)

-- ---- retrieve: "10 no such file, tried before 4. Returns the length, its bytes written."
abbrev pub retrieve_file : Entry → List ℕ → List ℕ → Reported
retrieve_file e disc out =
    unless (leb e.len (length out)) (reported (Err ShortOutput) out)
    (reported (Ok e.len) (overwrite out 0 (contents disc (run_of e))))

abbrev pub retrieve_at : Option ℕ → List ℕ → List ℕ → Reported
retrieve_at None disc out = reported (Err NoSuchFile) out
retrieve_at (Some i) disc out = retrieve_file (entry_at disc i) disc out

unfoldable pub retrieve_answer : List ℕ → List ℕ → List ℕ → Reported
retrieve_answer disc name out =
    if_usable (checked disc) (λ r. reported (Err r) out)
    (retrieve_at (lookup disc name) disc out)

-- ---- files: "a line per file, name, space, length, newline; returns the bytes written"
unfoldable pub file_line : Entry → List ℕ
file_line e = trimmed e.name ++ (32 ∷ []) ++ decimal e.len ++ (10 ∷ [])

abbrev pub text_answer : List ℕ → List ℕ → Reported
text_answer text out =
    unless (leb (length text) (length out)) (reported (Err ShortOutput) out)
    (reported (Ok (length text)) (overwrite out 0 text))

unfoldable pub files_answer : List ℕ → List ℕ → Reported
files_answer disc out =
    if_usable (checked disc) (λ r. reported (Err r) out)
    (text_answer (flat file_line (files disc)) out)

-- ---- free space: "the longest free run, however many files there are"
unfoldable pub free_space_answer : List ℕ → ℤ
free_space_answer disc =
    if_usable (checked disc) (λ r. answer_number (Err r))
    (answer_number (Ok (longest (taken disc) data_start (length disc))))
