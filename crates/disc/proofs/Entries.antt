-- Laws of directory entries: an entry and its sixteen bytes, and which bytes of the disc the directory rests on.
use Prim.Native.Nat.{ℕ, ◌+◌, ◌*◌, ◌≤◌, ◌<◌}
use mathlib.Core.Path.{◌≡◌, sym, ap, ◌∙◌, subst}
use mathlib.Core.List.{List, ◌++◌, append_assoc}
use native.Mathlib.Nat.{add_assoc}
use native.Mathlib.Omega.{arith}
use lib.ListN.{length, get_or, take, drop, length-append, length-map}
use lib.Seq.{get_or-append-add, take_at, take-take}
use Rattle.buffer.specs.Buffer.{overwrite, part, word_at, word_bytes}
use Rattle.buffer.proofs.Buffer.{overwrite-part, word_split}
use Rattle.buffer.proofs.Lists.{tab-length, tab-same}
use Rattle.buffer.proofs.Parts.{part-byte, same_byte, same-part}
use Rattle.place.specs.Place.{filled}
use Rattle.place.specs.declared.Run.{Run}
use Rattle.place.proofs.Place.{filled-take}
use Rattle.disc.specs.Directory.{entry_at, entry_bytes, entry_of, file_count, files, run_of, taken}
use Rattle.disc.specs.Layout.{count_at, data_start, entry_size, max_files, name_size}
use Rattle.disc.specs.declared.Entry.{Entry}

-- ---- an entry and its bytes
pub entry-bytes-length : (e : Entry) → length e.name ≡ name_size → length (entry_bytes e) ≡ entry_size
entry-bytes-length e h = simp length-append (omega arith)

pub entry-back : (e : Entry) → length e.name ≡ name_size → entry_of (entry_bytes e) ≡ e
entry-back e h = λ t. record { name = name t; start = start t; len = len t }
  where
    words : List ℕ
    words = word_bytes e.start ++ word_bytes e.len

    byte : (n : ℕ) → get_or (entry_bytes e) (name_size + n) 0 ≡ get_or words n 0
    byte n = rw append_assoc (subst (λ (k : ℕ). get_or (e.name ++ words) (k + n) 0 ≡ get_or words n 0) h (get_or-append-add e.name words n
        0))

    name : take name_size (entry_bytes e) ≡ e.name
    name = rw append_assoc (take_at e.name words name_size h)

    start : word_at (entry_bytes e) name_size ≡ e.start
    start = rw (byte 0, byte 1) (word_split e.start)

    len : word_at (entry_bytes e) (name_size + 2) ≡ e.len
    len = rw (byte 2, byte 3) (word_split e.len)

-- an entry from the parts that code reads
pub entry-fields : (disc : List ℕ) (at : ℕ) (name : List ℕ) (start len : ℕ) → at + entry_size ≤ length disc → name ≡ part disc at name_size
    → start ≡ word_at disc (at + name_size) → len ≡ word_at disc (at + name_size + 2)
    → record { name = name; start = start; len = len } ≡ entry_of (part disc at entry_size)
entry-fields disc at name start len h n s l = λ t. record { name = named t; start = started t; len = counted t }
  where
    byte : (k : ℕ) → k < entry_size → get_or (part disc at entry_size) k 0 ≡ get_or disc (at + k) 0
    byte k h = part-byte disc at entry_size k h

    named : name ≡ take name_size (part disc at entry_size)
    named = n ∙ sym (take-take name_size entry_size (drop at disc) (omega arith))

    started : start ≡ word_at (part disc at entry_size) name_size
    started = s ∙ rw (byte name_size (omega arith), byte (name_size + 1) (omega arith), add_assoc)

    counted : len ≡ word_at (part disc at entry_size) (name_size + 2)
    counted = l ∙ rw (byte (name_size + 2) (omega arith), byte (name_size + 3) (omega arith), add_assoc at name_size 2, add_assoc)

-- ---- the directory rests on its bytes alone
pub same-entry : (d e : List ℕ) (i j : ℕ) → part d (i * entry_size) entry_size ≡ part e (j * entry_size) entry_size
    → entry_at d i ≡ entry_at e j
unfolding entry_at
same-entry d e i j h = ap entry_of h

-- an entry that was laid is there
pub entry-laid : (d : List ℕ) (i : ℕ) (e : Entry) → length e.name ≡ name_size → i * entry_size + entry_size ≤ length d
    → entry_at (overwrite d (i * entry_size) (entry_bytes e)) i ≡ e
unfolding entry_at
entry-laid d i e h k =
    let n : length (entry_bytes e) ≡ entry_size = entry-bytes-length e h in
    ap entry_of (subst (λ (m : ℕ). part (overwrite d (i * entry_size) (entry_bytes e)) (i * entry_size) m ≡ entry_bytes e) n
    (overwrite-part d (entry_bytes e) (i * entry_size) (omega arith)))
    ∙ entry-back e h

pub same_count : (d e : List ℕ) → take data_start d ≡ take data_start e → file_count d ≡ file_count e
same_count d e h = same_byte d e data_start count_at h (omega arith)

pub same-files : (d e : List ℕ) → take data_start d ≡ take data_start e → file_count e ≤ max_files → files d ≡ files e
same-files d e h k =
    rw (same_count d e h)
    (tab-same (entry_at d) (entry_at e) (file_count e)
    (λ i n. same-entry d e i i (same-part d e data_start (i * entry_size) entry_size h (omega arith))))

-- ---- the runs that files take, read off the array that holds them
pub taken-first : (disc : List ℕ) (runs : List Run) (count : ℕ) → file_count disc ≤ max_files → count ≡ file_count disc
    → runs ≡ filled (taken disc) → take count runs ≡ taken disc
taken-first disc runs count few c e =
    let n : length (taken disc) ≡ file_count disc = length-map (files disc) run_of ∙ tab-length (entry_at disc) (file_count disc) in
    let m : count ≡ length (taken disc) = c ∙ sym n in
    rw (e, m) (filled-take (taken disc) (omega arith))
