-- States of bytes: every field within what its bytes in the work area can say. An area of bytes says such a state, and the bytes of such a
-- state are bytes.
use Prim.Native.Nat.{ℕ, ◌+◌, ◌*◌, ◌/◌, ◌%◌}
use mathlib.Core.List.{List, [], ◌∷◌, ◌++◌}
use native.Mathlib.Omega.{arith}
use Rattle.buffer.specs.Buffer.{part, word_bytes}
use Rattle.buffer.specs.Lists.{flat}
use Rattle.place.specs.declared.Run.{Run}
use Rattle.disc.specs.Layout.{name_size}
use Rattle.variable.specs.Limits.{count_at, entries_at, entry_size, max_variables, memory_size}
use Rattle.variable.specs.declared.Variable.{Variable}
use Rattle.variable.specs.declared.Variables.{Variables}
use Rattle.variable.specs.Bytes.{variable_bytes, variable_of, variables_of}
use Rattle.machine.specs.Area.{kernel_bytes, kernel_of, process_bytes, process_of, register_bytes, stack_at}
use Rattle.machine.specs.Limits.{next_at, record_size, records_at, slot_count, stack_size, zeros_at}
use Rattle.machine.specs.Limits.{zeros_size}
use Rattle.machine.specs.State.{no_process, process_at}
use Rattle.machine.specs.declared.Kernel.{Kernel}
use Rattle.machine.specs.declared.OpenFile.{OpenFile}
use Rattle.machine.specs.declared.Process.{Process}
use Rattle.buffer.proofs.ByteLists.{Bytes, IsByte, IsWord, append-bytes, byte_at, one_byte, part_bytes, take-bytes, word-at}
use Rattle.buffer.proofs.ByteLists.{word-bytes}
use Rattle.buffer.proofs.Each.{Each, each_at, each-flat, each-tab}

pub record ByteRun (r : Run) : Type 0 where
  pub start : IsWord r.start
  pub len : IsWord r.len

pub record ByteFile (f : OpenFile) : Type 0 where
  pub start : IsWord f.start
  pub len : IsWord f.len
  pub offset : IsWord f.offset

pub record ByteProcess (p : Process) : Type 0 where
  pub name : Bytes p.name
  pub id : IsWord p.id
  pub state : IsByte p.state
  pub fault : IsByte p.fault
  pub code : ByteRun p.code
  pub pc : IsWord p.pc
  pub loopstart : IsWord p.loopstart
  pub file : ByteFile p.file
  pub sp : IsByte p.sp
  pub share : IsByte p.share
  pub stack : Bytes p.stack

pub record ByteVariable (e : Variable) : Type 0 where
  pub name : IsByte e.name
  pub kind : IsByte e.kind
  pub address : IsByte e.address
  pub size : IsByte e.size
  pub owner : IsWord e.owner

pub record ByteVariables (v : Variables) : Type 0 where
  pub memory : Bytes v.memory
  pub entries : Each ByteVariable v.entries
  pub count : IsByte v.count

pub record ByteKernel (k : Kernel) : Type 0 where
  pub variables : ByteVariables k.variables
  pub next : IsWord k.next
  pub zeros : Bytes k.zeros
  pub processes : Each ByteProcess k.processes

-- ---- what an area says
variable-of : (b : List ℕ) → Bytes b → ByteVariable (variable_of b)
variable-of b h = record {
  name = byte_at b 0 h;
  kind = byte_at b 1 h;
  address = byte_at b 2 h;
  size = byte_at b 3 h;
  owner = word-at b 4 h;
}

process-of : (b : List ℕ) → Bytes b → ByteProcess (process_of b)
process-of b h = record {
  name = take-bytes name_size b h;
  id = word-at b 12 h;
  state = byte_at b 14 h;
  fault = byte_at b 15 h;
  code = record { start = word-at b 16 h; len = word-at b 18 h };
  pc = word-at b 20 h;
  loopstart = word-at b 22 h;
  file = record { start = word-at b 24 h; len = word-at b 26 h; offset = word-at b 28 h };
  sp = byte_at b 30 h;
  share = byte_at b 31 h;
  stack = part_bytes b stack_at stack_size h;
}

pub kernel-of : (area : List ℕ) → Bytes area → ByteKernel (kernel_of area)
unfolding kernel_of variables_of
kernel-of area h = record {
  variables = record {
    memory = take-bytes memory_size area h;
    entries = each-tab ByteVariable _ max_variables
        (λ i. variable-of (part area (entries_at + i * entry_size) entry_size)
        (part_bytes area (entries_at + i * entry_size) entry_size h));
    count = byte_at area count_at h;
  };
  next = word-at area next_at h;
  zeros = part_bytes area zeros_at zeros_size h;
  processes = each-tab ByteProcess _ slot_count
      (λ i. process-of (part area (records_at + i * record_size) record_size)
      (part_bytes area (records_at + i * record_size) record_size h));
}

-- ---- what is written of a state
low : (w : ℕ) → IsByte (w % 256)
low w = omega arith

high : (w : ℕ) → IsWord w → IsByte (w / 256)
high w h = omega arith

variable-bytes : (e : Variable) → ByteVariable e → Bytes (variable_bytes e)
unfolding Each
variable-bytes e h = (h.name, (h.kind, (h.address, (h.size, word-bytes e.owner h.owner))))

register-bytes : (p : Process) → ByteProcess p → Bytes (register_bytes p)
unfolding Each
register-bytes p h = (
  low _,
  (
    high _ h.id,
    (
      h.state,
      (
        h.fault,
        (
          low _,
          (
            high _ h.code.start,
            (
              low _,
              (
                high _ h.code.len,
                (
                  low _,
                  (
                    high _ h.pc,
                    (
                      low _,
                      (
                        high _ h.loopstart,
                        (
                          low _,
                          (
                            high _ h.file.start,
                            (
                              low _,
                              (
                                high _ h.file.len,
                                (
                                  low _,
                                  (
                                    high _ h.file.offset,
                                    (h.sp, (h.share, tt)),
                                  ),
                                ),
                              ),
                            ),
                          ),
                        ),
                      ),
                    ),
                  ),
                ),
              ),
            ),
          ),
        ),
      ),
    ),
  ),
)

process-bytes : (p : Process) → ByteProcess p → Bytes (process_bytes p)
process-bytes p h =
    append-bytes (p.name ++ register_bytes p) p.stack
    (append-bytes p.name (register_bytes p) h.name (register-bytes p h)) h.stack

pub kernel-bytes : (k : Kernel) → ByteKernel k → Bytes (kernel_bytes k)
unfolding kernel_bytes
kernel-bytes k h =
    append-bytes (front ++ k.zeros) (flat process_bytes k.processes)
    (append-bytes front k.zeros
    (append-bytes (entries ++ (k.variables.count ∷ [])) (word_bytes k.next)
    (append-bytes entries (k.variables.count ∷ [])
    (append-bytes k.variables.memory (flat variable_bytes k.variables.entries) h.variables.memory
    (each-flat ByteVariable IsByte variable_bytes variable-bytes k.variables.entries h.variables.entries))
    (one_byte k.variables.count h.variables.count))
    (word-bytes k.next h.next))
    h.zeros)
    (each-flat ByteProcess IsByte process_bytes process-bytes k.processes h.processes)
  where
    entries : List ℕ
    entries = k.variables.memory ++ flat variable_bytes k.variables.entries

    front : List ℕ
    front = entries ++ (k.variables.count ∷ []) ++ word_bytes k.next

-- ---- the record in a slot
no-process : ByteProcess no_process
unfolding Each
no-process = record {
  name = tt;
  id = omega arith;
  state = omega arith;
  fault = omega arith;
  code = record { start = omega arith; len = omega arith };
  pc = omega arith;
  loopstart = omega arith;
  file = record { start = omega arith; len = omega arith; offset = omega arith };
  sp = omega arith;
  share = omega arith;
  stack = tt;
}

pub process-at : (k : Kernel) → ByteKernel k → (slot : ℕ) → ByteProcess (process_at k slot)
process-at k h slot = each_at ByteProcess k.processes slot no_process h.processes no-process
