-- The work area and the kernel's state say the same: the bytes of what an area says are the area, and what the bytes of a state say is the
-- state.
use Prim.Native.Nat.{ℕ, ◌+◌, ◌*◌, ◌<◌}
use mathlib.Core.Path.{◌≡◌, sym, ap, ◌∙◌}
use mathlib.Core.List.{List, [], ◌++◌, append_assoc, append-nil}
use native.Mathlib.Omega.{arith}
use lib.ListN.{length, get_or, length-append}
use lib.Seq.{drop_at, get_or-append-add, take_all}
use Rattle.buffer.specs.Buffer.{part, word_at, word_bytes}
use Rattle.buffer.specs.Lists.{flat, tab}
use Rattle.buffer.proofs.Buffer.{word_split}
use Rattle.buffer.proofs.FixedWidth.{Encoded, flat-length, table-encode-decode, table-decode-encode}
use Rattle.buffer.proofs.Parts.{part_length, part-of-append-left, part-split}
use Rattle.buffer.proofs.Words.{part_bytes, word-encode-decode}
use Rattle.variable.specs.Bytes.{variables_bytes, variables_of}
use Rattle.variable.specs.Limits.{variables_size}
use Rattle.variable.proofs.Bytes.{variables-bytes-length, variables-decode-encode, variables-encode-decode}
use Rattle.machine.specs.Area.{AreBytes, kernel_bytes, kernel_of, process_bytes, process_of}
use Rattle.machine.specs.Limits.{area_length, next_at, record_size, records_at, slot_count, zeros_at}
use Rattle.machine.specs.Limits.{zeros_size}
use Rattle.machine.specs.State.{no_process}
use Rattle.machine.specs.declared.Kernel.{Kernel}
use Rattle.machine.specs.declared.Process.{Process}
use Rattle.machine.proofs.Bytes.Records.{process-encode-decode, process-decode-encode, process-bytes-length}
use Rattle.machine.proofs.Bytes.Sizes.{Sized}

-- ---- an area, read and written again
module _ (area : List ℕ) (bytes : AreBytes area) (size : length area ≡ area_length) where
  processes : flat process_bytes (kernel_of area).processes ≡ part area records_at (slot_count * record_size)
  unfolding kernel_of
  processes =
      table-encode-decode process_bytes process_of record_size area records_at slot_count
      (λ i h. process-encode-decode (part area (records_at + i * record_size) record_size)
      (part_bytes area bytes (records_at + i * record_size) record_size)
      (part_length area (records_at + i * record_size) record_size (omega arith)))

  pub kernel-encode-decode : kernel_bytes (kernel_of area) ≡ area
  unfolding kernel_bytes kernel_of
  kernel-encode-decode =
      rw (
        variables-encode-decode area bytes (omega arith),
        processes,
        word-encode-decode area bytes next_at (omega arith),
        ← part-split area 0 next_at 2,
        ← part-split area 0 zeros_at zeros_size,
        ← part-split area 0 records_at (slot_count * record_size),
      )
      (take_all area_length area (omega arith))

-- ---- a state, written and read back
-- the bytes before the seven zeros, and all before the process records
abbrev front : Kernel → List ℕ
front k = variables_bytes k.variables ++ word_bytes k.next

abbrev head : Kernel → List ℕ
head k = front k ++ k.zeros

-- the bytes behind the variables
abbrev tail : Kernel → List ℕ
tail k = word_bytes k.next ++ (k.zeros ++ flat process_bytes k.processes)

module _ (k : Kernel) (sized : Sized k) where
  process-encoded : (i : ℕ) → i < slot_count → Encoded process_bytes process_of record_size (get_or k.processes i no_process)
  process-encoded i h =
      let p : Process = get_or k.processes i no_process in
      record { size = process-bytes-length p (sized.each i h); back = process-decode-encode p (sized.each i h) }

  processes-length : length (flat process_bytes k.processes) ≡ 640
  processes-length =
      let n : length k.processes ≡ slot_count = sized.processes in
      flat-length process_bytes process_of record_size k.processes no_process (λ i h. process-encoded i (omega arith)) ∙ omega arith

  variables-length : length (variables_bytes k.variables) ≡ variables_size
  variables-length = variables-bytes-length k.variables sized.variables

  front_length : length (front k) ≡ zeros_at
  front_length = length-append (variables_bytes k.variables) (word_bytes k.next) ∙ omega (arith, variables-length)

  head-length : length (head k) ≡ records_at
  head-length = length-append (front k) k.zeros ∙ omega (arith, front_length, sized.zeros)

  pub kernel-bytes-length : length (kernel_bytes k) ≡ area_length
  unfolding kernel_bytes
  kernel-bytes-length = length-append (head k) (flat process_bytes k.processes) ∙ omega (arith, head-length, processes-length)

  -- variables, then the rest
  parted : kernel_bytes k ≡ variables_bytes k.variables ++ tail k
  unfolding kernel_bytes
  parted = append_assoc (front k) k.zeros (flat process_bytes k.processes)
      ∙ append_assoc (variables_bytes k.variables) (word_bytes k.next) (k.zeros ++ flat process_bytes k.processes)

  byte : (i : ℕ) → get_or (kernel_bytes k) (next_at + i) 0 ≡ get_or (tail k) i 0
  byte i = rw (parted, ← variables-length) (get_or-append-add (variables_bytes k.variables) (tail k) i 0)

  next-back : word_at (kernel_bytes k) next_at ≡ k.next
  next-back = rw (byte 0, byte 1) (word_split k.next)

  variables-back : variables_of (kernel_bytes k) ≡ k.variables
  variables-back = rw parted (variables-decode-encode k.variables sized.variables (tail k))

  zeros-back : part (kernel_bytes k) zeros_at zeros_size ≡ k.zeros
  unfolding kernel_bytes
  zeros-back =
      part-of-append-left (head k) (flat process_bytes k.processes) zeros_at zeros_size (omega (arith, head-length))
      ∙ rw (drop_at (front k) k.zeros zeros_at front_length) (take_all zeros_size k.zeros (omega (arith, sized.zeros)))

  processes-back : tab (λ i. process_of (part (kernel_bytes k) (records_at + i * record_size) record_size)) slot_count ≡ k.processes
  unfolding kernel_bytes
  processes-back =
      ap (λ (l : List ℕ). tab (λ i. process_of (part (head k ++ l) (records_at + i * record_size) record_size)) slot_count)
      (sym (append-nil (flat process_bytes k.processes)))
      ∙ table-decode-encode process_bytes process_of record_size (head k) k.processes no_process [] records_at slot_count head-length
      sized.processes process-encoded

  pub kernel-decode-encode : kernel_of (kernel_bytes k) ≡ k
  unfolding kernel_of
  kernel-decode-encode = λ t. record {
    variables = variables-back t;
    next = next-back t;
    zeros = zeros-back t;
    processes = processes-back t;
  }
