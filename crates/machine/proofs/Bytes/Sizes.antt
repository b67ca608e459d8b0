-- The lengths of the arrays in the kernel's state. Every area of 1,056 bytes gives them, and every step keeps them.
use Prim.Native.Nat.{ℕ, ◌+◌, ◌*◌, ◌≤◌, ◌<◌}
use mathlib.Core.Path.{◌≡◌, refl, ◌∙◌}
use mathlib.Core.Bool.{Bool, true, false}
use mathlib.Core.List.{List}
use native.Mathlib.Omega.{arith}
use lib.Dec.{eqb}
use lib.ListN.{length, get_or, set, length-append, length-replicate, length-set}
use lib.Seq.{get_or-set_other, get_or-set_same, length-take-le}
use borrow.Author.Tests.{eqb-false, eqb-true}
use Rattle.buffer.specs.Buffer.{part}
use Rattle.buffer.proofs.Lists.{tab-at, tab-length}
use Rattle.buffer.proofs.Parts.{part_length}
use Rattle.disc.specs.declared.Entry.{Entry}
use Rattle.variable.specs.Table.{Shaped}
use Rattle.variable.specs.declared.Variables.{Variables}
use Rattle.disc.specs.Layout.{name_size}
use Rattle.variable.proofs.Bytes.{decoded-shaped}
use Rattle.machine.specs.Area.{kernel_of, process_of, stack_at}
use Rattle.machine.specs.Limits.{area_length, record_size, records_at, slot_count, stack_size, zeros_at, zeros_size}
use Rattle.machine.specs.Start.{started, started_process}
use Rattle.machine.specs.Ended.{ended_process}
use Rattle.machine.specs.State.{Local, no_process, process_at, with_local, with_process}
use Rattle.machine.specs.State.{with_variables}
use Rattle.machine.specs.declared.Kernel.{Kernel}
use Rattle.machine.specs.declared.Process.{Process}

pub record SizedProcess (p : Process) : Type 0 where
  pub name : length p.name ≡ name_size
  pub stack : length p.stack ≡ stack_size

pub record Sized (k : Kernel) : Type 0 where
  pub variables : Shaped k.variables
  pub zeros : length k.zeros ≡ zeros_size
  pub processes : length k.processes ≡ slot_count
  pub each : (i : ℕ) → i < slot_count → SizedProcess (process_at k i)

-- ---- what an area says
pub decoded-process-sized : (l : List ℕ) → length l ≡ record_size → SizedProcess (process_of l)
decoded-process-sized l h = record {
  name = length-take-le name_size l (omega arith);
  stack = part_length l stack_at stack_size (omega arith);
}

pub decoded-sized : (area : List ℕ) → length area ≡ area_length → Sized (kernel_of area)
unfolding kernel_of
decoded-sized area h =
    record {
      variables = decoded-shaped area (omega arith);
      zeros = part_length area zeros_at zeros_size (omega arith);
      processes = simp tab-length;
      each = λ i m. rw (tab-at record_at slot_count i no_process m)
          (decoded-process-sized (part area (records_at + i * record_size) record_size)
          (part_length area (records_at + i * record_size) record_size (omega arith)));
    }
  where
    record_at : ℕ → Process
    record_at i = process_of (part area (records_at + i * record_size) record_size)

-- ---- steps of one process
module _ (p : Process) (sized : SizedProcess p) where
  pub with-local-sized : (l : Local) → length l.stack ≤ stack_size → SizedProcess (with_local p l)
  with-local-sized l h = record { name = sized.name; stack = simp (length-append, length-replicate) (omega arith) }

  pub ended-process-sized : (fault : ℕ) → SizedProcess (ended_process p fault)
  ended-process-sized fault = record { name = sized.name; stack = refl }

pub started-process-sized : (e : Entry) (id : ℕ) → length e.name ≡ name_size → SizedProcess (started_process e id)
started-process-sized e id h = record { name = h; stack = refl }

-- ---- steps of the kernel
module _ (k : Kernel) (sized : Sized k) where
  -- a slot above 9 changes nothing
  pub with-process-sized : (slot : ℕ) (p : Process) → (slot < slot_count → SizedProcess p) → Sized (with_process k slot p)
  with-process-sized slot p h = record {
    variables = sized.variables;
    zeros = sized.zeros;
    processes = length-set k.processes slot p
        ∙ sized.processes;
    each = λ i m. at i m (eqb i slot) refl;
  }
    where
      at : (i : ℕ) → i < slot_count → (t : Bool) → eqb i slot ≡ t → SizedProcess (get_or (set k.processes slot p) i no_process)
      at i m true e =
          let q : i ≡ slot = eqb-true i slot e in
          rw (q, get_or-set_same k.processes slot p no_process (omega (arith, sized.processes))) (h (omega arith))
      at i m false e = rw (get_or-set_other k.processes slot i p no_process (eqb-false i slot e)) (sized.each i m)

  pub with-variables-sized : (v : Variables) → Shaped v → Sized (with_variables k v)
  with-variables-sized v h = record { variables = h; zeros = sized.zeros; processes = sized.processes; each = sized.each }

  pub started-sized : (slot : ℕ) (e : Entry) → length e.name ≡ name_size → Sized (started k slot e)
  started-sized slot e h =
      let s = with-process-sized slot (started_process e k.next) (λ m. started-process-sized e k.next h) in
      record { variables = s.variables; zeros = s.zeros; processes = s.processes; each = s.each }
