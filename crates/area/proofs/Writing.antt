-- A part of the state changed and the whole written: the part's own bytes are laid over the area, and no other.
use Prim.Native.Nat.{ℕ, suc, ◌+◌, ◌<◌}
use mathlib.Core.Path.{◌≡◌, refl, sym, ap, ap₂, ◌∙◌}
use mathlib.Core.List.{List, ◌∷◌, ◌++◌, append_assoc}
use native.Mathlib.Omega.{arith}
use lib.ListN.{length, take, drop, set, length-append}
use lib.Seq.{set_split, split_at}
use Rattle.buffer.specs.Buffer.{overwrite, word_bytes}
use Rattle.buffer.specs.Lists.{flat}
use Rattle.buffer.proofs.Lists.{flat-around}
use Rattle.buffer.proofs.Runs.{overwrite-middle}
use Rattle.variable.specs.Bytes.{variables_bytes}
use Rattle.variable.proofs.Bytes.{variables-bytes-length}
use Rattle.machine.specs.Area.{Whole, kernel_bytes, kernel_of, process_bytes}
use Rattle.machine.specs.Limits.{area_length, next_at, slot_count}
use Rattle.machine.specs.State.{no_process, process_at, with_process}
use Rattle.machine.specs.declared.Kernel.{Kernel}
use Rattle.machine.specs.declared.Process.{Process}
use Rattle.machine.proofs.Bytes.Records.{process-bytes-length}
use Rattle.machine.proofs.Bytes.Sizes.{Sized, SizedProcess, decoded-sized}
use Rattle.area.specs.Parts.{record_at, with_next}
use Rattle.area.proofs.Lengths.{head-bytes-length, head_bytes, records-length}

-- ---- a state of the right lengths
module _ (k : Kernel) (sized : Sized k) where
  -- the bytes around the record of a slot
  abbrev before : ℕ → List ℕ
  before i = head_bytes k ++ flat process_bytes (take i k.processes)

  abbrev behind : ℕ → List ℕ
  behind i = flat process_bytes (drop (suc i) k.processes)

  around : (i : ℕ) (p : Process) (l : List Process) → l ≡ take i k.processes ++ (p ∷ drop (suc i) k.processes)
      → head_bytes k ++ flat process_bytes l ≡ before i ++ process_bytes p ++ behind i
  around i p l e =
      rw (e, flat-around process_bytes (take i k.processes) p (drop (suc i) k.processes)) (simp append_assoc)

  pub process-bytes-put : (i : ℕ) (p : Process) → i < slot_count → SizedProcess p
      → kernel_bytes (with_process k i p) ≡ overwrite (kernel_bytes k) (record_at i) (process_bytes p)
  unfolding kernel_bytes
  process-bytes-put i p h s =
      let n : length k.processes ≡ slot_count = sized.processes in
      let old = process_at k i in
      let at : length (before i) ≡ record_at i =
      length-append (head_bytes k) (flat process_bytes (take i k.processes))
      ∙ ap₂ ◌+◌ (head-bytes-length k sized.variables sized.zeros)
      (records-length k.processes i (omega arith) (λ j m. sized.each j (omega arith))) in
      let same : length (process_bytes old) ≡ length (process_bytes p) =
      process-bytes-length old (sized.each i h) ∙ sym (process-bytes-length p s) in
      around i p (set k.processes i p) (set_split k.processes i p (omega arith))
      ∙ sym (overwrite-middle (before i) (process_bytes old) (process_bytes p) (behind i) (record_at i) at same)
      ∙ ap (λ (l : List ℕ). overwrite l (record_at i) (process_bytes p))
      (sym (around i old k.processes (split_at k.processes i no_process (omega arith))))

  pub next-bytes-put : (n : ℕ) → kernel_bytes (with_next k n) ≡ overwrite (kernel_bytes k) next_at (word_bytes n)
  unfolding kernel_bytes
  next-bytes-put n =
      let front = variables_bytes k.variables in
      let rest : List ℕ = k.zeros ++ flat process_bytes k.processes in
      let split : (m : ℕ) → front ++ word_bytes m ++ k.zeros ++ flat process_bytes k.processes ≡ front ++ word_bytes m ++ rest =
      λ m. simp append_assoc in
      split n
      ∙ sym (overwrite-middle front (word_bytes k.next) (word_bytes n) rest next_at
      (variables-bytes-length k.variables sized.variables) refl)
      ∙ ap (λ (b : List ℕ). overwrite b next_at (word_bytes n)) (sym (split k.next))

-- ---- an area that is all that its state says
module _ (area : List ℕ) (size : length area ≡ area_length) (whole : Whole area) where
  abbrev sized : Sized (kernel_of area)
  sized = decoded-sized area size

  pub process-written : (i : ℕ) (p : Process) → i < slot_count → SizedProcess p
      → kernel_bytes (with_process (kernel_of area) i p) ≡ overwrite area (record_at i) (process_bytes p)
  process-written i p h s =
      process-bytes-put (kernel_of area) sized i p h s ∙ ap (λ (l : List ℕ). overwrite l (record_at i) (process_bytes p)) whole
