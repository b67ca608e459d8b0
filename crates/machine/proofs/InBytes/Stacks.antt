-- Stacks of bytes: what is popped off them and what is pushed onto them is bytes.
use Prim.Native.Nat.{ℕ, ◌+◌, ◌-◌, ◌≤◌}
use mathlib.Core.Path.{◌≡◌}
use mathlib.Core.Bool.{Bool, true, false, cond}
use mathlib.Core.List.{List, [], ◌∷◌, ◌++◌}
use native.Mathlib.Omega.{arith}
use lib.Dec.{eqb, leb}
use lib.ListN.{get_or, length, take, length-append}
use Rattle.buffer.specs.Buffer.{part}
use Rattle.operator.specs.Instruction.{includes}
use Rattle.number.specs.Text.{text_of}
use Rattle.operator.specs.declared.instruction.Types.{Types}
use Rattle.disc.specs.Name.{trimmed}
use Rattle.machine.specs.Effect.{newline, number, printed}
use Rattle.machine.specs.Limits.{stack_size}
use Rattle.machine.specs.Stack.{Item, Popped, popped, cannot, pop, pop_number, pop_string, push, push_item, push_string, string_kind}
use Rattle.machine.specs.Stack.{unless_fault, well_formed}
use Rattle.buffer.proofs.ByteLists.{Bytes, IsByte, append-bytes, byte_at, one_byte, part_bytes, take-bytes}
use Rattle.machine.proofs.Bytes.ByteTexts.{trimmed-bytes}
use Rattle.buffer.proofs.Each.{Each}
use Rattle.machine.proofs.InBytes.NumberBytes.{number_fits, text-bytes}

-- ---- popping
pub record ByteItem (item : Item) : Type 0 where
  pub kind : IsByte item.kind
  pub bytes : Bytes item.bytes

abbrev pub PopsBytes : Popped → Type 0
PopsBytes (popped item rest) = ByteItem item × Bytes rest
PopsBytes (cannot fault) = Unit {0}

unless-bytes : (b : Bool) (fault : ℕ) (p : Popped) → PopsBytes p → PopsBytes (unless_fault b fault p)
unless-bytes true fault p h = h
unless-bytes false fault p h = tt

pub pop-bytes : (types : Types) (stack : List ℕ) → Bytes stack → PopsBytes (pop types stack)
unfolding pop pop_string pop_number
pop-bytes types stack h =
    unless-bytes (leb 1 n) 5 _ (unless-bytes (includes types kind) 6 _ (by_kind (eqb kind string_kind)))
  where
    n : ℕ
    n = length stack

    kind : ℕ
    kind = get_or stack (n - 1) 0

    len : ℕ
    len = get_or stack (n - 2) 0

    -- a value of that kind and so many bytes, from there on
    taken : (k at size : ℕ) → IsByte k → PopsBytes (popped (record { kind = k; bytes = part stack at size }) (take at stack))
    taken k at size b = (record { kind = b; bytes = part_bytes stack at size h }, take-bytes at stack h)

    by_kind : (string : Bool) → PopsBytes (cond string (pop_string stack n) (pop_number stack n kind))
    by_kind true =
        unless-bytes (leb 2 n) 5 _
        (unless-bytes (leb (len + 2) n) 5 _
        (unless-bytes (well_formed (part stack (n - 2 - len) len)) 6 _ (taken string_kind (n - 2 - len) len (omega arith))))
    by_kind false = unless-bytes (leb (kind + 1) n) 5 _ (taken kind (n - 1 - kind) kind (byte_at stack (n - 1) h))

-- ---- pushing
pub push-bytes : (stack : List ℕ) (kind : ℕ) (bytes : List ℕ) → Bytes stack → IsByte kind → Bytes bytes → Bytes (push stack kind bytes)
push-bytes stack kind bytes h k b = append-bytes (stack ++ bytes) (kind ∷ []) (append-bytes stack bytes h b) (one_byte kind k)

-- a string that fits on the stack has a length that fits in a byte
pub push-string-bytes : (stack bytes : List ℕ) → Bytes stack → Bytes bytes → length (push_string stack bytes) ≤ stack_size
    → Bytes (push_string stack bytes)
unfolding Each
push-string-bytes stack bytes h b fits =
    let n : length (push_string stack bytes) ≡ length stack + length bytes + 2 = simp length-append (omega arith) in
    append-bytes (stack ++ bytes) (length bytes ∷ string_kind ∷ []) (append-bytes stack bytes h b) (omega arith, (omega arith, tt))

pub push-item-bytes : (stack : List ℕ) (kind : ℕ) (bytes : List ℕ) → Bytes stack → IsByte kind → Bytes bytes
    → length (push_item stack kind bytes) ≤ stack_size → Bytes (push_item stack kind bytes)
push-item-bytes stack kind bytes h k b = go (eqb kind string_kind)
  where
    go : (string : Bool) → length (cond string (push_string stack bytes) (push stack kind bytes)) ≤ stack_size
        → Bytes (cond string (push_string stack bytes) (push stack kind bytes))
    go true fits = push-string-bytes stack bytes h b fits
    go false fits = push-bytes stack kind bytes h k b

-- ---- printing
pub printed-bytes : (item : Item) → ByteItem item → Bytes (printed item)
printed-bytes item h = go (eqb item.kind string_kind)
  where
    go : (string : Bool) → Bytes (cond string (trimmed item.bytes) (text_of (number item)))
    go true = trimmed-bytes item.bytes h.bytes
    go false = text-bytes (number item) (number_fits item.kind item.bytes h.bytes)

pub newline-bytes : (ends : Bool) → Bytes (newline ends)
unfolding Each
newline-bytes true = one_byte 10 (omega arith)
newline-bytes false = tt
