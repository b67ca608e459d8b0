-- What the steps of the code come to: entering, erasing, writing.
use Prim.Native.Nat.{ℕ, ◌+◌, ◌*◌, ◌-◌, ◌≤◌, ◌<◌}
use mathlib.Core.Path.{◌≡◌, refl, sym, ap, ◌∙◌}
use mathlib.Core.List.{List}
use native.Mathlib.Nat.{add-zero}
use native.Mathlib.Omega.{arith}
use lib.ListN.{length, set, replicate, length-replicate}
use Rattle.buffer.specs.Buffer.{part, overwrite, zeros}
use Rattle.buffer.proofs.Buffer.{overwrite-joined, overwrite-set}
use Rattle.buffer.proofs.Parts.{part_length}
use Rattle.place.specs.Place.{run_from}
use Rattle.place.specs.declared.Run.{Run}
use Rattle.disc.specs.Directory.{entry_bytes, file_count}
use Rattle.disc.specs.Layout.{count_at, data_start, entry_size, max_files}
use Rattle.store.specs.File.{entered, erased, new_entry, stored, written_at}

module _ (d : List ℕ) (h : data_start ≤ length d) where
  pub entered-steps : (p name : List ℕ) (n s count : ℕ) → count ≡ file_count d → length p ≡ length d
      → p ≡ overwrite d (count * entry_size) (entry_bytes (new_entry name n s)) → set p count_at (count + 1) ≡ entered d name n s
  unfolding entered
  entered-steps p name n s count q l e = overwrite-set p count_at (count + 1) (omega arith) ∙ rw (e, q)

  pub erased-steps : (m z : List ℕ) (i last : ℕ) → last ≡ file_count d - 1 → i ≤ last → last < max_files → length z ≡ length d
      → m ≡ overwrite d (i * entry_size) (part d (i * entry_size + entry_size) ((last - i) * entry_size))
      → z ≡ overwrite m (last * entry_size) (replicate entry_size 0) → set z count_at last ≡ erased d i
  unfolding erased
  erased-steps m z i last q a b l e f =
      let later = part d (i * entry_size + entry_size) ((last - i) * entry_size) in
      let n = part_length d (i * entry_size + entry_size) ((last - i) * entry_size) (omega arith) in
      let laid = overwrite-joined d later (replicate entry_size 0) (i * entry_size) (last * entry_size) (omega arith) (omega arith) in
      overwrite-set z count_at last (omega arith) ∙ rw (f, e, laid, q)

-- bytes that lie in a row
pub written-steps : (d : List ℕ) (run : Run) (offset : ℕ) (bytes : List ℕ)
    → overwrite d (run.start + offset) bytes ≡ written_at d run offset bytes
unfolding written_at
written-steps d run offset bytes = refl

-- a file of zeros: entered, and its bytes zeroed
pub created-steps : (d name : List ℕ) (n s : ℕ) → overwrite (entered d name n s) s (zeros n) ≡ stored d name (zeros n) s
created-steps d name n s =
    let zero-filled : length (zeros n) ≡ n = length-replicate n 0 in
    ap (λ (start : ℕ). overwrite (entered d name n s) start (zeros n)) (sym (add-zero s))
    ∙ written-steps (entered d name n s) (run_from s n) 0 (zeros n)
    ∙ ap (λ (m : ℕ). written_at (entered d name m s) (run_from s m) 0 (zeros n)) (sym zero-filled)
