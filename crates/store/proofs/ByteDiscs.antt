-- Discs of bytes: their entries and files, and what becomes of them.
use Prim.Native.Nat.{ℕ, ◌+◌, ◌*◌, ◌-◌}
use mathlib.Core.Bool.{true}
use mathlib.Core.Path.{◌≡◌}
use mathlib.Core.List.{List, [], ◌∷◌, ◌++◌}
use native.Mathlib.Omega.{arith}
use lib.Dec.{leb}
use lib.ListN.{length, replicate}
use borrow.Author.Tests.{leb-true}
use Rattle.buffer.specs.Buffer.{overwrite, part, word_bytes}
use Rattle.buffer.proofs.Bools.{and_right}
use Rattle.buffer.proofs.ByteLists.{Bytes, IsByte, IsWord, append-bytes, byte_at, filled-bytes, one_byte, overwrite-bytes}
use Rattle.buffer.proofs.ByteLists.{part_bytes, take-bytes, word-at, word-bytes}
use Rattle.buffer.proofs.Each.{all-each}
use Rattle.place.specs.Place.{run_from}
use Rattle.place.specs.declared.Run.{Run}
use Rattle.disc.specs.Directory.{contents, entry_at, entry_bytes, file_count, is_disc_length}
use Rattle.disc.specs.Layout.{count_at, entry_size, name_size}
use Rattle.disc.specs.Name.{good_name, is_name_byte, padded}
use Rattle.disc.specs.declared.Entry.{Entry}
use Rattle.disc.proofs.Lengths.{disc-bounds}
use Rattle.disc.proofs.Names.{good-name-is}
use Rattle.store.specs.File.{entered, erased, new_entry, read_at, stored, written_at}
use Rattle.store.proofs.Admissions.{Admitted}
use Rattle.store.proofs.Invariant.{admitted-small}

-- an entry whose name is bytes, and whose fields fit two
pub record ByteEntry (e : Entry) : Type 0 where
  pub name : Bytes e.name
  pub start : IsWord e.start
  pub len : IsWord e.len

-- Document 01: "A name is 1 to 11 bytes of 33 to 126, zero-filled."
padded-bytes : (name : List ℕ) → good_name name ≡ true → Bytes (padded name)
padded-bytes name g =
    filled-bytes name (name_size - length name)
    (all-each IsByte is_name_byte name (λ b t. omega (arith, leb-true b 126 (and_right (leb 33 b) (leb b 126) t)))
    (good-name-is name g).bytes)

entry-bytes : (e : Entry) → ByteEntry e → Bytes (entry_bytes e)
entry-bytes e h =
    append-bytes (e.name ++ word_bytes e.start) (word_bytes e.len)
    (append-bytes e.name (word_bytes e.start) h.name (word-bytes e.start h.start)) (word-bytes e.len h.len)

module _ (disc : List ℕ) (h : Bytes disc) where
  pub entry-at : (i : ℕ) → ByteEntry (entry_at disc i)
  unfolding entry_at
  entry-at i =
      let b : Bytes (part disc (i * entry_size) entry_size) = part_bytes disc (i * entry_size) entry_size h in
      record {
        name = take-bytes name_size (part disc (i * entry_size) entry_size) b;
        start = word-at (part disc (i * entry_size) entry_size) name_size b;
        len = word-at (part disc (i * entry_size) entry_size) (name_size + 2) b;
      }

  pub contents-bytes : (run : Run) → Bytes (contents disc run)
  unfolding contents
  contents-bytes run = part_bytes disc run.start run.len h

  pub read-bytes : (run : Run) (offset n : ℕ) → Bytes (read_at disc run offset n)
  unfolding read_at
  read-bytes run offset n = part_bytes (contents disc run) offset n (contents-bytes run)

  pub written-bytes : (run : Run) (offset : ℕ) (bytes : List ℕ) → Bytes bytes → Bytes (written_at disc run offset bytes)
  unfolding written_at
  written-bytes run offset bytes b = overwrite-bytes disc (run.start + offset) bytes h b

  pub new-entry : (name : List ℕ) (n s : ℕ) → is_disc_length (length disc) ≡ true → Admitted disc name n s → ByteEntry (new_entry name n s)
  new-entry name n s long a =
      let small = admitted-small a (disc-bounds (length disc) long).high in
      record { name = padded-bytes name a.good; start = small.0; len = small.1 }

  entered-bytes : (name : List ℕ) (n s : ℕ) → is_disc_length (length disc) ≡ true → Admitted disc name n s
      → Bytes (entered disc name n s)
  unfolding entered
  entered-bytes name n s long a =
      overwrite-bytes (overwrite disc (file_count disc * entry_size) (entry_bytes (new_entry name n s))) count_at
      ((file_count disc + 1) ∷ [])
      (overwrite-bytes disc (file_count disc * entry_size) (entry_bytes (new_entry name n s)) h
      (entry-bytes (new_entry name n s) (new-entry name n s long a)))
      (one_byte (file_count disc + 1) (omega (arith, a.few)))

  pub erased-bytes : (i : ℕ) → Bytes (erased disc i)
  unfolding erased
  erased-bytes i =
      overwrite-bytes (overwrite disc (i * entry_size) (later ++ replicate entry_size 0)) count_at ((file_count disc - 1) ∷ [])
      (overwrite-bytes disc (i * entry_size) (later ++ replicate entry_size 0) h
      (filled-bytes later entry_size (part_bytes disc (i * entry_size + entry_size) ((file_count disc - 1 - i) * entry_size) h)))
      (one_byte (file_count disc - 1) (omega (arith, byte_at disc count_at h)))
    where
      later : List ℕ
      later = part disc (i * entry_size + entry_size) ((file_count disc - 1 - i) * entry_size)

pub stored_bytes : (disc : List ℕ) → Bytes disc → (name bytes : List ℕ) (s : ℕ) → is_disc_length (length disc) ≡ true
    → Admitted disc name (length bytes) s → Bytes bytes → Bytes (stored disc name bytes s)
stored_bytes disc h name bytes s long a b =
    written-bytes (entered disc name (length bytes) s) (entered-bytes disc h name (length bytes) s long a) (run_from s (length bytes)) 0
    bytes b
