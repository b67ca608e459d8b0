-- One process and its bytes in the work area.
use Prim.Native.Nat.{ℕ, ◌+◌, ◌/◌, ◌%◌}
use mathlib.Core.Path.{◌≡◌, refl, sym, ap, ◌∙◌}
use mathlib.Core.List.{List, ◌++◌, append_assoc}
use native.Mathlib.Nat.{add_assoc}
use native.Mathlib.Omega.{arith}
use lib.ListN.{length, get_or, take, length-append}
use lib.Seq.{drop_at, get_or-append-add, take_all, take_at}
use Rattle.buffer.specs.Buffer.{part, word_at}
use Rattle.buffer.specs.Lists.{tab}
use Rattle.buffer.proofs.Buffer.{word_split}
use Rattle.buffer.proofs.Parts.{part-split}
use Rattle.buffer.proofs.Words.{spelled, word-high, word_low}
use Rattle.disc.specs.Layout.{name_size}
use Rattle.machine.specs.Area.{AreBytes, process_bytes, process_of, register_bytes, register_size, stack_at}
use Rattle.machine.specs.Limits.{record_size, stack_size}
use Rattle.machine.specs.declared.Process.{Process}
use Rattle.machine.proofs.Bytes.Sizes.{SizedProcess}

-- ---- a record's bytes, read and written again
module _ (l : List ℕ) (bytes : AreBytes l) where
  registers-encode-decode : length l ≡ record_size → register_bytes (process_of l) ≡ part l name_size register_size
  unfolding tab
  registers-encode-decode h = simp (word_low l bytes, word-high l bytes) (spelled l name_size register_size (omega arith))

  pub process-encode-decode : length l ≡ record_size → process_bytes (process_of l) ≡ l
  process-encode-decode h =
      rw (registers-encode-decode h)
      (ap (λ (s : List ℕ). s ++ part l stack_at stack_size) (sym (part-split l 0 name_size register_size))
      ∙ sym (part-split l 0 stack_at stack_size)
      ∙ take_all record_size l (omega arith))

-- ---- a record, written and read back
-- what lies behind the name
abbrev behind_name : Process → List ℕ
behind_name p = register_bytes p ++ p.stack

module _ (p : Process) (sized : SizedProcess p) where
  pub process-bytes-length : length (process_bytes p) ≡ record_size
  process-bytes-length = simp length-append (omega arith)

  byte : (i : ℕ) → get_or (process_bytes p) (name_size + i) 0 ≡ get_or (behind_name p) i 0
  byte i = rw (append_assoc p.name (register_bytes p) p.stack, ← sized.name) (get_or-append-add p.name (behind_name p) i 0)

  word : (i w : ℕ) → get_or (behind_name p) i 0 ≡ w % 256 → get_or (behind_name p) (i + 1) 0 ≡ w / 256
      → word_at (process_bytes p) (name_size + i) ≡ w
  word i w a b = rw (byte i, add_assoc, byte (i + 1), a, b) (word_split w)

  name : take name_size (process_bytes p) ≡ p.name
  name = rw (append_assoc p.name (register_bytes p) p.stack) (take_at p.name (behind_name p) name_size sized.name)

  stack : part (process_bytes p) stack_at stack_size ≡ p.stack
  stack = rw (drop_at (p.name ++ register_bytes p) p.stack stack_at (simp length-append (omega arith)))
      (take_all stack_size p.stack (omega arith))

  pub process-decode-encode : process_of (process_bytes p) ≡ p
  process-decode-encode = λ t. record {
    name = name t;
    id = word 0 p.id refl refl t;
    state = byte 2 t;
    fault = byte 3 t;
    code = record { start = word 4 p.code.start refl refl t; len = word 6 p.code.len refl refl t };
    pc = word 8 p.pc refl refl t;
    loopstart = word 10 p.loopstart refl refl t;
    file = record {
      start = word 12 p.file.start refl refl t;
      len = word 14 p.file.len refl refl t;
      offset = word 16 p.file.offset refl refl t;
    };
    sp = byte 18 t;
    share = byte 19 t;
    stack = stack t;
  }
