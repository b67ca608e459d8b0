-- The work area's bytes and the kernel's state, one made from the other.
use Rattle.std.specs.Prelude.{ℕ, ◌+◌, ◌*◌, ◌<◌, ◌≡◌, Bool, List, [], ◌∷◌, ◌++◌, eqb, get_or, take}
use Rattle.buffer.specs.Buffer.{part, word_at, word_bytes}
use Rattle.buffer.specs.Lists.{flat, tab}
use Rattle.disc.specs.Layout.{name_size}
use Rattle.variable.specs.Bytes.{variables_bytes, variables_of}
use Rattle.machine.specs.Limits.{area_length, next_at, record_size, records_at, slot_count, stack_size, zeros_at}
use Rattle.machine.specs.Limits.{zeros_size}
use Rattle.machine.specs.declared.Kernel.{Kernel}
use Rattle.machine.specs.declared.Process.{Process}

-- Document 01: "Work area, 1,056 bytes."
abbrev pub is_area_length : ℕ → Bool
is_area_length n = eqb n area_length

-- every element is a byte
abbrev pub AreBytes : List ℕ → Type 0
AreBytes l = (i : ℕ) → get_or l i 0 < 256

-- where a record's stack begins
abbrev pub stack_at : ℕ
stack_at = 32

abbrev pub process_of : List ℕ → Process
process_of b =
    record {
      name = take name_size b;
      id = word_at b 12;
      state = get_or b 14 0;
      fault = get_or b 15 0;
      code = record { start = word_at b 16; len = word_at b 18 };
      pc = word_at b 20;
      loopstart = word_at b 22;
      file = record { start = word_at b 24; len = word_at b 26; offset = word_at b 28 };
      sp = get_or b 30 0;
      share = get_or b 31 0;
      stack = part b stack_at stack_size;
    }

-- between name and stack
abbrev pub register_size : ℕ
register_size = 20

abbrev pub register_bytes : Process → List ℕ
register_bytes p =
    word_bytes p.id ++ (p.state ∷ p.fault ∷ []) ++ word_bytes p.code.start ++ word_bytes p.code.len
    ++ word_bytes p.pc ++ word_bytes p.loopstart
    ++ word_bytes p.file.start ++ word_bytes p.file.len ++ word_bytes p.file.offset ++ (p.sp ∷ p.share ∷ [])

abbrev pub process_bytes : Process → List ℕ
process_bytes p = p.name ++ register_bytes p ++ p.stack

unfoldable pub kernel_of : List ℕ → Kernel
kernel_of area =
    record {
      variables = variables_of area;
      next = word_at area next_at;
      zeros = part area zeros_at zeros_size;
      processes = tab (λ i. process_of (part area (records_at + i * record_size) record_size)) slot_count;
    }

unfoldable pub kernel_bytes : Kernel → List ℕ
kernel_bytes k =
    variables_bytes k.variables ++ word_bytes k.next ++ k.zeros ++ flat process_bytes k.processes

-- the area's bytes are those of the state that it says
abbrev pub Whole : List ℕ → Type 0
Whole area = kernel_bytes (kernel_of area) ≡ area
