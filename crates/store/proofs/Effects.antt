-- What store leaves, or OPEN of a new file: a good disc, every other file as it was, and the new file under its name with its data.
use Rattle.std.specs.Prelude.{Some}
use Prim.Native.Nat.{ℕ, ◌+◌, ◌*◌, ◌≤◌, ◌<◌}
use mathlib.Core.Path.{◌≡◌, sym, ap, ◌∙◌}
use mathlib.Core.Bool.{true}
use mathlib.Core.List.{List}
use mathlib.Core.Logic.{◌⊎◌}
use native.Mathlib.Nat.{zero-add}
use native.Mathlib.Omega.{arith}
use lib.ListN.{length, get_or}
use Rattle.buffer.proofs.Buffer.{overwrite-whole}
use Rattle.place.specs.Place.{run_from}
use Rattle.place.specs.declared.Run.{Run}
use Rattle.disc.specs.Directory.{contents, entry_at, file_count, good_disc, lookup, run_of}
use Rattle.disc.proofs.Goodness.{good-entry-at}
use Rattle.disc.proofs.Locations.{location, location-kept}
use Rattle.disc.specs.Layout.{count_at, entry_size}
use Rattle.disc.specs.declared.Entry.{Entry}
use Rattle.store.specs.File.{entered, new_entry, stored, written_at}
use Rattle.store.proofs.Admissions.{Admitted}
use Rattle.store.proofs.Changes.{Inside, entered-byte, entered-count, entered-length, entered-new, entered-old, written_count}
use Rattle.store.proofs.Changes.{written_entry, written-length, written-other}
use Rattle.store.proofs.Contents.{contents-length, entered-contents, written-contents, written-other-file}
use Rattle.store.proofs.Invariant.{entered-good, room, written-good}
use Rattle.store.proofs.LookupChanges.{entered-found, written-lookup}

-- ---- the disc of a store that is done
module _ {disc name : List ℕ} {s : ℕ} (bytes : List ℕ) (good : good_disc disc ≡ true) (a : Admitted disc name (length bytes) s) where
  well : good_disc (entered disc name (length bytes) s) ≡ true
  well = entered-good a good

  inside : Inside (entered disc name (length bytes) s) (run_from s (length bytes)) 0 (length bytes)
  inside = record {
    low = a.placed.low;
    high = omega (arith, entered-length (length bytes) s (room a), a.placed.high);
    fits = omega arith;
  }

  pub stored-good : good_disc (stored disc name bytes s) ≡ true
  stored-good = written-good bytes inside well

  pub stored-length : length (stored disc name bytes s) ≡ length disc
  stored-length = written-length bytes inside ∙ entered-length (length bytes) s (room a)

  pub stored-found : lookup (stored disc name bytes s) name ≡ Some (file_count disc)
  stored-found = written-lookup bytes inside well name ∙ entered-found good a

  pub stored-new : entry_at (stored disc name bytes s) (file_count disc) ≡ new_entry name (length bytes) s
  stored-new = written_entry bytes inside (file_count disc) a.few ∙ entered-new (length bytes) s (room a)

  pub stored-data : contents (stored disc name bytes s) (run_from s (length bytes)) ≡ bytes
  stored-data =
      written-contents bytes inside
      ∙ overwrite-whole (contents (entered disc name (length bytes) s) (run_from s (length bytes))) bytes
      (contents-length (entered disc name (length bytes) s) (run_from s (length bytes)) inside.high)

  pub stored-count : file_count (stored disc name bytes s) ≡ file_count disc + 1
  stored-count = written_count bytes inside ∙ entered-count (length bytes) s (room a)

  -- every byte but the new entry's sixteen, the count and the data is as it was
  pub stored-byte : (j : ℕ) → (j ≡ count_at → ⊥) → (j < file_count disc * entry_size) ⊎ (file_count disc * entry_size + entry_size ≤ j)
      → ((i : ℕ) → i < length bytes → j ≡ location (stored disc name bytes s) (run_from s (length bytes)) i → ⊥)
      → get_or (stored disc name bytes s) j 0 ≡ get_or disc j 0
  stored-byte j k e o =
      written-other bytes inside j
      (λ i m q. o i m (q ∙ ap (location (entered disc name (length bytes) s) (run_from s (length bytes))) (zero-add i)
      ∙ location-kept (entered disc name (length bytes) s) (stored disc name bytes s) (run_from s (length bytes)) i))
      ∙ entered-byte (length bytes) s (room a) j e k

  pub stored-old : (i : ℕ) → i < file_count disc → entry_at (stored disc name bytes s) i ≡ entry_at disc i
  stored-old i h = written_entry bytes inside i (omega (arith, a.few)) ∙ entered-old (length bytes) s (room a) i h

  pub stored-contents : (i : ℕ) → i < file_count disc
      → contents (stored disc name bytes s) (run_of (entry_at disc i)) ≡ contents disc (run_of (entry_at disc i))
  stored-contents i h =
      let before = entered disc name (length bytes) s in
      let count = entered-count (length bytes) s (room a) in
      let new : run_of (entry_at before (file_count disc))
      ≡ run_from s (length bytes) = ap run_of (entered-new (length bytes) s (room a)) in
      let old : entry_at before i ≡ entry_at disc i = entered-old (length bytes) s (room a) i h in
      (λ z. contents (written_at before (sym new z) 0 bytes) (run_of (sym old z)))
      ∙ written-other-file before well i (omega (arith, count)) (file_count disc) 0 bytes (omega (arith, count)) (λ q. omega arith)
      (omega (arith, ap (λ (r : Run). r.len) new))
      ∙ ap (λ (e : Entry). contents before (run_of e)) old
      ∙ entered-contents (length bytes) s (room a) (run_of (entry_at disc i)) (good-entry-at disc good i h).low
