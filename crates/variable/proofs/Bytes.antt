-- The variables and their bytes say the same; a part changed and the whole written is that part's bytes laid over.
use Prim.Native.Nat.{ℕ, suc, ◌+◌, ◌*◌, ◌≤◌, ◌<◌}
use mathlib.Core.Path.{◌≡◌, refl, sym, ap, ap₂, ◌∙◌}
use mathlib.Core.List.{List, [], ◌∷◌, ◌++◌, append_assoc, append-nil}
use native.Mathlib.Omega.{arith}
use lib.ListN.{length, get_or, take, drop, set, length-append}
use lib.Seq.{get_or_at, length-take-le, set_split, split_at, take_all, take_at}
use Rattle.buffer.specs.Buffer.{overwrite, part}
use Rattle.buffer.specs.Lists.{flat, tab}
use Rattle.buffer.proofs.Buffer.{word_split}
use Rattle.buffer.proofs.FixedWidth.{Encoded, flat-length, table-decode-encode, table-encode-decode}
use Rattle.buffer.proofs.Lists.{flat-around, tab-at, tab-length}
use Rattle.buffer.proofs.Parts.{part_length, part-split}
use Rattle.buffer.proofs.Runs.{overwrite-front, overwrite-middle}
use Rattle.buffer.proofs.Words.{part_bytes, spelled, word-high, word_low}
use Rattle.variable.specs.Bytes.{variable_bytes, variable_in, variable_of, variables_bytes, variables_of, with_count, with_entry}
use Rattle.variable.specs.Bytes.{with_memory}
use Rattle.variable.specs.Limits.{count_at, entries_at, entry_size, max_variables, memory_size, variables_size}
use Rattle.variable.specs.Table.{Shaped, no_variable}
use Rattle.variable.specs.declared.Variable.{Variable}
use Rattle.variable.specs.declared.Variables.{Variables}

-- ---- one entry
pub variable-encode-decode : (l : List ℕ) → ((i : ℕ) → get_or l i 0 < 256) → length l ≡ entry_size → variable_bytes (variable_of l) ≡ l
unfolding tab
variable-encode-decode l bytes h =
    simp (word_low l bytes, word-high l bytes) (spelled l 0 entry_size (omega arith) ∙ take_all entry_size l (omega arith))

pub variable-decode-encode : (e : Variable) → variable_of (variable_bytes e) ≡ e
variable-decode-encode e = λ t.
    record { name = e.name; kind = e.kind; address = e.address; size = e.size; owner = word_split e.owner t }

encoded : (e : Variable) → Encoded variable_bytes variable_of entry_size e
encoded e = record { size = refl; back = variable-decode-encode e }

-- the first i entries
entries-length : (l : List Variable) (i : ℕ) → i ≤ length l → length (flat variable_bytes (take i l)) ≡ i * entry_size
entries-length l i h =
    flat-length variable_bytes variable_of entry_size (take i l) no_variable (λ j k. encoded (get_or (take i l) j no_variable))
    ∙ ap (λ (m : ℕ). m * entry_size) (length-take-le i l h)

-- ---- bytes, read
pub entry_read : (bytes : List ℕ) (i : ℕ) → i < max_variables → get_or (variables_of bytes).entries i no_variable ≡ variable_in bytes i
unfolding variables_of
entry_read bytes i h = tab-at (variable_in bytes) max_variables i no_variable h

pub count-read : (bytes : List ℕ) → get_or bytes count_at 0 ≡ (variables_of bytes).count
unfolding variables_of
count-read bytes = refl

pub decoded-shaped : (bytes : List ℕ) → variables_size ≤ length bytes → Shaped (variables_of bytes)
unfolding variables_of
decoded-shaped bytes h = record { memory = length-take-le memory_size bytes (omega arith); entries = simp tab-length }

-- read and written again
pub variables-encode-decode : (bytes : List ℕ) → ((i : ℕ) → get_or bytes i 0 < 256) → variables_size ≤ length bytes
    → variables_bytes (variables_of bytes) ≡ take variables_size bytes
unfolding variables_of tab
variables-encode-decode bytes small h =
    rw (
      table-encode-decode variable_bytes variable_of entry_size bytes entries_at max_variables (λ i k. entry i k),
      spelled bytes count_at 1 (omega arith),
      ← part-split bytes 0 entries_at (max_variables * entry_size),
      ← part-split bytes 0 count_at 1,
    )
  where
    entry : (i : ℕ) → i < max_variables
        → variable_bytes (variable_in bytes i) ≡ part bytes (entries_at + i * entry_size) entry_size
    entry i k =
        let at = entries_at + i * entry_size in
        variable-encode-decode (part bytes at entry_size) (part_bytes bytes small at entry_size)
        (part_length bytes at entry_size (omega arith))

-- ---- variables, written
module _ (v : Variables) (shaped : Shaped v) where
  abbrev entries : List Variable
  entries = v.entries

  entries-bytes-length : length (flat variable_bytes entries) ≡ max_variables * entry_size
  entries-bytes-length =
      flat-length variable_bytes variable_of entry_size entries no_variable (λ i h. encoded (get_or entries i no_variable))
      ∙ ap (λ (n : ℕ). n * entry_size) shaped.entries

  front_length : length (v.memory ++ flat variable_bytes entries) ≡ count_at
  front_length = simp length-append (omega (arith, shaped.memory, entries-bytes-length))

  pub variables-bytes-length : length (variables_bytes v) ≡ variables_size
  variables-bytes-length = simp length-append (omega (arith, shaped.memory, entries-bytes-length))

  -- written and read back, whatever lies behind
  pub variables-decode-encode : (rest : List ℕ) → variables_of (variables_bytes v ++ rest) ≡ v
  unfolding variables_of
  variables-decode-encode rest =
      let parted : variables_bytes v ++ rest ≡ v.memory ++ (flat variable_bytes entries ++ (v.count ∷ rest)) = simp append_assoc in
      let m : take memory_size (variables_bytes v ++ rest) ≡ v.memory = rw parted (take_at v.memory _ memory_size shaped.memory) in
      let e : tab (variable_in (variables_bytes v ++ rest)) max_variables ≡ entries =
      simp parted (table-decode-encode variable_bytes variable_of entry_size v.memory entries no_variable (v.count ∷ rest) entries_at
      max_variables shaped.memory shaped.entries (λ i h. encoded (get_or entries i no_variable))) in
      let c : get_or (variables_bytes v ++ rest) count_at 0 ≡ v.count =
      rw (append_assoc (v.memory ++ flat variable_bytes entries) (v.count ∷ []) rest)
      (get_or_at (v.memory ++ flat variable_bytes entries) v.count rest 0 count_at front_length) in
      λ t. record { memory = m t; entries = e t; count = c t }

  -- what bytes say that are those of v
  pub variables-said : {bytes : List ℕ} → bytes ≡ variables_bytes v → variables_of bytes ≡ v
  variables-said x = ap variables_of (x ∙ sym (append-nil (variables_bytes v))) ∙ variables-decode-encode []

  -- ---- one part laid over
  -- the bytes around one entry
  abbrev before : ℕ → List ℕ
  before i = v.memory ++ flat variable_bytes (take i entries)

  abbrev behind : ℕ → List ℕ
  behind i = flat variable_bytes (drop (suc i) entries) ++ (v.count ∷ [])

  around : (i : ℕ) (e : Variable) (l : List Variable) → l ≡ take i entries ++ (e ∷ drop (suc i) entries)
      → v.memory ++ flat variable_bytes l ++ (v.count ∷ []) ≡ before i ++ variable_bytes e ++ behind i
  around i e l h = rw (h, flat-around variable_bytes (take i entries) e (drop (suc i) entries)) (simp append_assoc)

  pub entry-bytes-put : (i : ℕ) (e : Variable) → i < max_variables
      → variables_bytes (with_entry v i e) ≡ overwrite (variables_bytes v) (entries_at + i * entry_size) (variable_bytes e)
  entry-bytes-put i e h =
      let n = shaped.entries in
      let old : Variable = get_or entries i no_variable in
      let at = entries_at + i * entry_size in
      let size : length (before i) ≡ at =
      length-append v.memory (flat variable_bytes (take i entries))
      ∙ ap₂ ◌+◌ shaped.memory (entries-length entries i (omega arith)) in
      around i e (set entries i e) (set_split entries i e (omega arith))
      ∙ sym (overwrite-middle (before i) (variable_bytes old) (variable_bytes e) (behind i) at size refl)
      ∙ ap (λ (b : List ℕ). overwrite b at (variable_bytes e)) (sym (around i old entries (split_at entries i no_variable (omega arith))))

  pub count-bytes-put : (n : ℕ) → variables_bytes (with_count v n) ≡ overwrite (variables_bytes v) count_at (n ∷ [])
  count-bytes-put n =
      let front : List ℕ = v.memory ++ flat variable_bytes entries in
      let split : (c : ℕ) → front ++ (c ∷ []) ≡ front ++ (c ∷ []) ++ [] = λ c. sym (append-nil (front ++ (c ∷ []))) in
      split n
      ∙ sym (overwrite-middle front (v.count ∷ []) (n ∷ []) [] count_at front_length refl)
      ∙ ap (λ (b : List ℕ). overwrite b count_at (n ∷ [])) (sym (split v.count))

  pub memory-bytes-put : (at : ℕ) (s : List ℕ) → at + length s ≤ memory_size
      → variables_bytes (with_memory v (overwrite v.memory at s)) ≡ overwrite (variables_bytes v) at s
  memory-bytes-put at s h =
      let rest : List ℕ = flat variable_bytes entries ++ (v.count ∷ []) in
      let n = shaped.memory in
      append_assoc (overwrite v.memory at s) (flat variable_bytes entries) (v.count ∷ [])
      ∙ sym (overwrite-front v.memory rest s at (omega arith))
      ∙ ap (λ (b : List ℕ). overwrite b at s) (sym (append_assoc v.memory (flat variable_bytes entries) (v.count ∷ [])))

-- ---- bytes that are all that their variables say
module _ (bytes : List ℕ) (small : (i : ℕ) → get_or bytes i 0 < 256) (size : length bytes ≡ variables_size) where
  abbrev shaped : Shaped (variables_of bytes)
  shaped = decoded-shaped bytes (omega arith)

  pub variables-whole : variables_bytes (variables_of bytes) ≡ bytes
  variables-whole = variables-encode-decode bytes small (omega arith) ∙ take_all variables_size bytes (omega arith)

  pub entry-written : (i : ℕ) (e : Variable) → i < max_variables
      → overwrite bytes (entries_at + i * entry_size) (variable_bytes e) ≡ variables_bytes (with_entry (variables_of bytes) i e)
  entry-written i e h =
      sym (entry-bytes-put (variables_of bytes) shaped i e h
      ∙ ap (λ (l : List ℕ). overwrite l (entries_at + i * entry_size) (variable_bytes e)) variables-whole)

  pub count-written : (n : ℕ) → overwrite bytes count_at (n ∷ []) ≡ variables_bytes (with_count (variables_of bytes) n)
  count-written n =
      sym (count-bytes-put (variables_of bytes) shaped n ∙ ap (λ (l : List ℕ). overwrite l count_at (n ∷ [])) variables-whole)

  pub memory-written : (at : ℕ) (s : List ℕ) → at + length s ≤ memory_size
      → overwrite bytes at s ≡ variables_bytes (with_memory (variables_of bytes) (overwrite (variables_of bytes).memory at s))
  memory-written at s h =
      sym (memory-bytes-put (variables_of bytes) shaped at s h ∙ ap (λ (l : List ℕ). overwrite l at s) variables-whole)
