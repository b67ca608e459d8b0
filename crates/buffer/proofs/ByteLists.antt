-- Lists of bytes, and which lists made from them are bytes.
use Prim.Native.Nat.{ℕ, ◌+◌, ◌<◌}
use mathlib.Core.List.{List, [], ◌∷◌, ◌++◌}
use native.Mathlib.Omega.{arith}
use lib.ListN.{drop, get_or, length, replicate, set, take}
use Rattle.buffer.specs.Buffer.{overwrite, part, word_at, word_bytes}
use Rattle.buffer.proofs.Each.{Each, at_each, each_append, each_at, each-drop, each-replicate, each_set, each_take}

abbrev pub IsByte : ℕ → Type 0
IsByte b = b < 256

abbrev pub IsWord : ℕ → Type 0
IsWord w = w < 65536

abbrev pub Bytes : List ℕ → Type 0
Bytes l = Each IsByte l

pub bytes-of : (l : List ℕ) → ((i : ℕ) → IsByte (get_or l i 0)) → Bytes l
bytes-of l h = at_each IsByte l 0 h

pub are-bytes : (l : List ℕ) → Bytes l → (i : ℕ) → IsByte (get_or l i 0)
are-bytes l h i = each_at IsByte l i 0 h (omega arith)

pub append-bytes : (l m : List ℕ) → Bytes l → Bytes m → Bytes (l ++ m)
append-bytes = each_append IsByte

pub take-bytes : (n : ℕ) (l : List ℕ) → Bytes l → Bytes (take n l)
take-bytes = each_take IsByte

pub drop-bytes : (n : ℕ) (l : List ℕ) → Bytes l → Bytes (drop n l)
drop-bytes = each-drop IsByte

pub part_bytes : (l : List ℕ) (at n : ℕ) → Bytes l → Bytes (part l at n)
part_bytes l at n h = take-bytes n (drop at l) (drop-bytes at l h)

pub overwrite-bytes : (l : List ℕ) (at : ℕ) (s : List ℕ) → Bytes l → Bytes s → Bytes (overwrite l at s)
overwrite-bytes l at s h k =
    append-bytes (take at l ++ s) (drop (at + length s) l) (append-bytes (take at l) s (take-bytes at l h) k)
    (drop-bytes (at + length s) l h)

pub zeros-bytes : (n : ℕ) → Bytes (replicate n 0)
zeros-bytes n = each-replicate IsByte n 0 (omega arith)

-- with zeros behind it
pub filled-bytes : (l : List ℕ) (n : ℕ) → Bytes l → Bytes (l ++ replicate n 0)
filled-bytes l n h = append-bytes l (replicate n 0) h (zeros-bytes n)

pub one_byte : (b : ℕ) → IsByte b → Bytes (b ∷ [])
unfolding Each
one_byte b h = (h, tt)

pub byte_at : (l : List ℕ) (i : ℕ) → Bytes l → IsByte (get_or l i 0)
byte_at l i h = are-bytes l h i

pub set-bytes : (l : List ℕ) (i b : ℕ) → Bytes l → IsByte b → Bytes (set l i b)
set-bytes = each_set IsByte

-- ---- two-byte fields
pub word-at : (l : List ℕ) (i : ℕ) → Bytes l → IsWord (word_at l i)
word-at l i h = omega (arith, byte_at l i h, byte_at l (i + 1) h)

pub word-bytes : (w : ℕ) → IsWord w → Bytes (word_bytes w)
unfolding Each
word-bytes w h = (omega arith, (omega arith, tt))
