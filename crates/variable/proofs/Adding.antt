-- A new variable: its entry last, its bytes in a free run; every other byte and every other variable as it was.
use Prim.Native.Nat.{ℕ, ◌+◌, ◌≤◌, ◌<◌}
use mathlib.Core.Path.{◌≡◌, refl, sym, ap, ap₂, ◌∙◌}
use mathlib.Core.Bool.{true}
use mathlib.Core.List.{List, [], ◌∷◌, ◌++◌, map, map-append, append-nil}
use mathlib.Core.Logic.{◌⊎◌, inl, inr, ⊎_elim}
use native.Mathlib.Numerals.{add-one}
use native.Mathlib.Omega.{arith}
use lib.ListN.{length, length-set}
use lib.Seq.{take-suc-set}
use borrow.Author.Tests.{eq-eqb, ne_eqb}
use Rattle.buffer.specs.Buffer.{overwrite, part}
use Rattle.buffer.specs.Lists.{all, cons_if, keep}
use Rattle.buffer.proofs.Bools.{and_left, and_right}
use Rattle.buffer.proofs.Buffer.{overwrite-length, overwrite-part}
use Rattle.buffer.proofs.Kept.{all_keep, keep_append}
use Rattle.buffer.proofs.Parts.{part-outside}
use Rattle.buffer.proofs.Tables.{all_map}
use Rattle.place.specs.Place.{apart, run_from}
use Rattle.place.proofs.Place.{Fits, apart-is}
use Rattle.variable.specs.Assign.{added, high_end, low_end, taken_runs}
use Rattle.variable.specs.Bytes.{variables_bytes, variables_of, with_count, with_entry, with_memory}
use Rattle.variable.specs.Limits.{max_variables, memory_size}
use Rattle.variable.specs.Table.{Cell, Shaped, cell_of, counted, owned, owned_by, run_of}
use Rattle.variable.specs.declared.Variable.{Variable}
use Rattle.variable.specs.declared.Variables.{Variables}
use Rattle.variable.proofs.Bytes.{variables-said}

module _ (v : Variables) (e : Variable) (bytes : List ℕ) (shaped : Shaped v) (room : v.count < max_variables)
    (run : Fits (taken_runs v) low_end high_end e.size e.address) (sized : length bytes ≡ e.size) where
  inside : e.address + length bytes ≤ length v.memory
  inside =
      let n = shaped.memory in
      let h = run.high in
      omega arith

  pub added-shaped : Shaped (added v e bytes)
  unfolding added
  added-shaped = record {
    memory = overwrite-length v.memory bytes e.address inside
        ∙ shaped.memory;
    entries = length-set v.entries v.count e ∙ shaped.entries;
  }

  pub added-count : (added v e bytes).count ≡ v.count + 1
  unfolding added
  added-count = refl

  pub added-counted : counted (added v e bytes) ≡ counted v ++ (e ∷ [])
  unfolding added
  added-counted =
      let n = shaped.entries in
      let h : v.count < length v.entries = omega arith in
      rw (add-one, take-suc-set)

  -- ---- memory
  pub added-bytes : part (added v e bytes).memory e.address e.size ≡ bytes
  unfolding added
  added-bytes = rw (← sized) (overwrite-part v.memory bytes e.address inside)

  -- only the new run changes
  pub added-outside : (i n : ℕ) → (i + n ≤ e.address) ⊎ (e.address + e.size ≤ i)
      → part (added v e bytes).memory i n ≡ part v.memory i n
  unfolding added
  added-outside i n h =
      part-outside v.memory bytes e.address inside i n (⊎_elim (λ w. inl w) (λ (w : e.address + e.size ≤ i). inr (omega arith)) h)

  -- ---- the variables of each process
  -- a variable apart from the new run holds what it held
  cell-kept : (d : Variable) → apart (run_from e.address e.size) (run_of d) ≡ true
      → cell_of (added v e bytes).memory d ≡ cell_of v.memory d
  cell-kept d h = ap (λ (b : List ℕ). record { name = d.name; kind = d.kind; bytes = b })
      (added-outside d.address d.size
      (⊎_elim (λ w. inr w) (λ w. inl w) (apart-is (run_from e.address e.size) (run_of d) h).sides))

  cells-kept : (l : List Variable) → all (λ d. apart (run_from e.address e.size) (run_of d)) l ≡ true
      → map (cell_of (added v e bytes).memory) l ≡ map (cell_of v.memory) l
  unfolding all
  cells-kept [] h = refl
  cells-kept (d ∷ l) h =
      let here = apart (run_from e.address e.size) (run_of d) in
      let behind = all (λ b. apart (run_from e.address e.size) (run_of b)) l in
      ap₂ (λ (c : Cell) (r : List Cell). c ∷ r) (cell-kept d (and_left here behind h)) (cells-kept l (and_right here behind h))

  others_apart : all (λ d. apart (run_from e.address e.size) (run_of d)) (counted v) ≡ true
  others_apart = sym (all_map (apart (run_from e.address e.size)) run_of (counted v)) ∙ run.free

  owned-added : (id : ℕ) → owned (added v e bytes) id ≡ owned v id ++ map (cell_of (added v e bytes).memory) (cons_if (owned_by id e) e [])
  unfolding owned keep
  owned-added id =
      let cell = cell_of (added v e bytes).memory in
      let mine : List Variable = keep (owned_by id) (counted v) in
      let new : List Variable = cons_if (owned_by id e) e [] in
      ap (λ (l : List Variable). map cell (keep (owned_by id) l)) added-counted
      ∙ ap (λ (l : List Variable). map cell l) (keep_append (owned_by id) (counted v) (e ∷ []))
      ∙ map-append cell mine new
      ∙ ap (λ (l : List Cell). l
      ++ map cell new) (cells-kept mine
      (all_keep (owned_by id) (λ d. apart (run_from e.address e.size) (run_of d)) (counted v) others_apart))

  pub owned-added-other : (id : ℕ) → (id ≡ e.owner → ⊥) → owned (added v e bytes) id ≡ owned v id
  owned-added-other id h = owned-added id ∙ rw (ne_eqb e.owner id (λ q. h (sym q))) (append-nil (owned v id))

  pub owned-added-own : owned (added v e bytes) e.owner ≡ owned v e.owner
      ++ (record { name = e.name; kind = e.kind; bytes = bytes } ∷ [])
  owned-added-own = owned-added e.owner ∙ rw (eq-eqb e.owner e.owner refl, added-bytes)
  -- ---- lookup

-- ---- written in three parts: memory, the entry, the count
pub added-written : (v : Variables) → Shaped v → (e : Variable) (bytes : List ℕ) {used : ℕ} {one two three : List ℕ} → used ≡ v.count
    → e.address + length bytes ≤ memory_size
    → one ≡ variables_bytes (with_memory v (overwrite v.memory e.address bytes))
    → two ≡ variables_bytes (with_entry (variables_of one) used e) → three ≡ variables_bytes (with_count (variables_of two) (used + 1))
    → three ≡ variables_bytes (added v e bytes)
unfolding added
added-written v shaped e bytes {used} {one} {two} {three} u h x y z =
    let m : List ℕ = overwrite v.memory e.address bytes in
    let size : length m ≡ memory_size =
    overwrite-length v.memory bytes e.address (omega (arith, shaped.memory)) ∙ shaped.memory in
    let laid = variables-said (with_memory v m) (record { memory = size; entries = shaped.entries }) x in
    let entered = variables-said (with_entry (with_memory v m) v.count e)
    (record { memory = size; entries = length-set v.entries v.count e ∙ shaped.entries })
    (y ∙ (λ t. variables_bytes (with_entry (laid t) (u t) e))) in
    z ∙ (λ t. variables_bytes (with_count (entered t) (u t + 1)))
