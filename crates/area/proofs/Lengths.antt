-- How many bytes the parts of the state take.
use Prim.Native.Nat.{ℕ, ◌+◌, ◌*◌, ◌≤◌, ◌<◌}
use mathlib.Core.Path.{◌≡◌, ap, ap₂, ◌∙◌}
use mathlib.Core.List.{List, ◌++◌}
use native.Mathlib.Omega.{arith}
use lib.ListN.{length, get_or, take, length-append}
use lib.Seq.{get_or-take, length-take-le}
use Rattle.buffer.specs.Buffer.{word_bytes}
use Rattle.buffer.specs.Lists.{flat}
use Rattle.buffer.proofs.FixedWidth.{Encoded, flat-length}
use Rattle.variable.specs.Bytes.{variables_bytes}
use Rattle.variable.specs.Table.{Shaped}
use Rattle.variable.proofs.Bytes.{variables-bytes-length}
use Rattle.machine.specs.Area.{process_bytes, process_of}
use Rattle.machine.specs.Limits.{record_size, records_at, zeros_size}
use Rattle.machine.specs.State.{no_process}
use Rattle.machine.specs.declared.Kernel.{Kernel}
use Rattle.machine.specs.declared.Process.{Process}
use Rattle.machine.proofs.Bytes.Records.{process-bytes-length, process-decode-encode}
use Rattle.machine.proofs.Bytes.Sizes.{SizedProcess}

-- all before the records
abbrev pub head_bytes : Kernel → List ℕ
head_bytes k = variables_bytes k.variables ++ word_bytes k.next ++ k.zeros

pub head-bytes-length : (k : Kernel) → Shaped k.variables → length k.zeros ≡ zeros_size → length (head_bytes k) ≡ records_at
head-bytes-length k s z =
    let v = variables_bytes k.variables in
    length-append (v ++ word_bytes k.next) k.zeros
    ∙ ap₂ ◌+◌ (length-append v (word_bytes k.next) ∙ ap (λ (n : ℕ). n + 2) (variables-bytes-length k.variables s)) z

-- the records of the slots below i
pub records-length : (l : List Process) (i : ℕ) → i ≤ length l → ((j : ℕ) → j < i → SizedProcess (get_or l j no_process))
    → length (flat process_bytes (take i l)) ≡ i * record_size
records-length l i h each =
    let n : length (take i l) ≡ i = length-take-le i l h in
    flat-length process_bytes process_of record_size (take i l) no_process (λ j k. encoded j (omega arith))
    ∙ ap (λ (m : ℕ). m * record_size) n
  where
    encoded : (j : ℕ) → j < i → Encoded process_bytes process_of record_size (get_or (take i l) j no_process)
    encoded j k =
        rw (get_or-take i l j no_process k)
        (record {
          size = process-bytes-length (get_or l j no_process) (each j k);
          back = process-decode-encode (get_or l j no_process) (each j k);
        })
