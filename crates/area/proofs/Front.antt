-- The front of the area is what its variables say; written anew, it is the state with other variables.
use Prim.Native.Nat.{ℕ, ◌+◌, ◌*◌, ◌≤◌}
use mathlib.Core.Path.{◌≡◌, sym, ap, ◌∙◌}
use mathlib.Core.List.{List, ◌++◌, append_assoc}
use native.Mathlib.Omega.{arith}
use lib.ListN.{length, take, drop}
use lib.Seq.{drop_at, get_or-take, length-take-le, take-take}
use Rattle.buffer.specs.Lists.{flat}
use Rattle.buffer.specs.Buffer.{word_bytes}
use Rattle.buffer.proofs.Lists.{tab-same}
use Rattle.buffer.proofs.Parts.{part-of-take}
use Rattle.variable.specs.Bytes.{variable_in, variable_of, variables_bytes, variables_of}
use Rattle.variable.specs.Limits.{count_at, entries_at, entry_size, max_variables, memory_size, variables_size}
use Rattle.variable.specs.Table.{Shaped}
use Rattle.variable.specs.declared.Variables.{Variables}
use Rattle.variable.proofs.Bytes.{variables-bytes-length}
use Rattle.machine.specs.Area.{Whole, kernel_bytes, kernel_of, process_bytes}
use Rattle.machine.specs.Limits.{area_length}
use Rattle.machine.specs.State.{with_variables}
use Rattle.machine.specs.declared.Kernel.{Kernel}
use Rattle.machine.proofs.Bytes.Area.{kernel-decode-encode}
use Rattle.machine.proofs.Bytes.Sizes.{Sized, decoded-sized, with-variables-sized}

-- only the front is read
pub variables-front : (area : List ℕ) → variables_of (take variables_size area) ≡ (kernel_of area).variables
unfolding kernel_of variables_of
variables-front area = λ t. record {
  memory = take-take memory_size variables_size area (omega arith) t;
  entries = tab-same (variable_in (take variables_size area)) (variable_in area) max_variables
      (λ i h. ap variable_of (part-of-take area variables_size (entries_at + i * entry_size) entry_size (omega arith))) t;
  count = get_or-take variables_size area count_at 0 (omega arith) t;
}

module _ (area : List ℕ) (size : length area ≡ area_length) where
  pub front_length : length (take variables_size area) ≡ variables_size
  front_length = length-take-le variables_size area (omega arith)

  -- the front as crate variable asks for it
  pub front-few : (kernel_of area).variables.count ≤ max_variables
      → (length (take variables_size area) ≡ variables_size) × ((variables_of (take variables_size area)).count ≤ max_variables)
  front-few h = (front_length, rw (variables-front area) h)

-- the bytes behind the variables
abbrev tail : Kernel → List ℕ
tail k = word_bytes k.next ++ (k.zeros ++ flat process_bytes k.processes)

parted : (k : Kernel) → kernel_bytes k ≡ variables_bytes k.variables ++ tail k
unfolding kernel_bytes
parted k = append_assoc (variables_bytes k.variables ++ word_bytes k.next) k.zeros (flat process_bytes k.processes)
    ∙ append_assoc (variables_bytes k.variables) (word_bytes k.next) (k.zeros ++ flat process_bytes k.processes)

-- the front written anew, the rest as it was
pub variables-laid : (area : List ℕ) → length area ≡ area_length → Whole area → (v : Variables) {after front : List ℕ}
    → front ≡ variables_bytes v → after ≡ front ++ drop variables_size area → after ≡ kernel_bytes (with_variables (kernel_of area) v)
variables-laid area size whole v {after} {front} x y =
    let k = kernel_of area in
    let n = variables-bytes-length k.variables (decoded-sized area size).variables in
    let rest : drop variables_size area ≡ tail k =
    ap (drop variables_size) (sym whole ∙ parted k) ∙ drop_at (variables_bytes k.variables) (tail k) variables_size n in
    y ∙ (λ t. x t ++ rest t) ∙ sym (parted (with_variables k v))

-- what an area says whose bytes are those of a state with other variables
pub variables-said : (k : Kernel) → Sized k → {area : List ℕ} (v : Variables) → Shaped v → area ≡ kernel_bytes (with_variables k v)
    → kernel_of area ≡ with_variables k v
variables-said k sized v s x = ap kernel_of x ∙ kernel-decode-encode (with_variables k v) (with-variables-sized k sized v s)
