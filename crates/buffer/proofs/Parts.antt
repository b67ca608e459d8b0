-- Parts of parts, of joined and of overwritten lists.
use Prim.Native.Nat.{ℕ, zero, suc, ◌+◌, ◌-◌, ◌≤◌, ◌<◌}
use mathlib.Core.Path.{◌≡◌, sym, ap, ◌∙◌, subst}
use mathlib.Core.List.{List, [], ◌∷◌, ◌++◌, append_assoc}
use mathlib.Core.Logic.{◌⊎◌, ⊎_elim}
use native.Mathlib.Nat.{add_assoc, add-zero}
use native.Mathlib.Omega.{arith}
use lib.ListN.{length, get_or, take, drop, length-drop}
use lib.Seq.{drop-append-add, drop-append-le, drop_at, drop-drop, get_or-drop, get_or-take, length-take-le, take-add, take-append-le}
use lib.Seq.{take-nil}
use lib.Seq.{take-take}
use Rattle.buffer.specs.Buffer.{overwrite, part, word_at}
use Rattle.buffer.proofs.Buffer.{overwrite-take, overwrite-part, part-behind}

-- ---- parts
pub part_length : (l : List ℕ) (at n : ℕ) → at + n ≤ length l → length (part l at n) ≡ n
part_length l at n h = length-take-le n (drop at l) (simp length-drop (omega arith))

pub part-byte : (l : List ℕ) (at n i : ℕ) → i < n → get_or (part l at n) i 0 ≡ get_or l (at + i) 0
part-byte l at n i h = rw (get_or-take, get_or-drop)

-- a part by its ends, as code lends it
pub part-to : (l : List ℕ) (at n : ℕ) → take (at + n - at) (drop at l) ≡ part l at n
part-to l at n = let e : at + n - at ≡ n = omega arith in rw e

-- a part, cut in two
pub part-split : (l : List ℕ) (at m n : ℕ) → part l at (m + n) ≡ part l at m ++ part l (at + m) n
part-split l at m n = take-add m n (drop at l) ∙ ap (λ (r : List ℕ). part l at m ++ take n r) (drop-drop m at l)

pub part-of-append-left : (s t : List ℕ) (at n : ℕ) → at + n ≤ length s → part (s ++ t) at n ≡ part s at n
part-of-append-left s t at n h =
    ap (λ (r : List ℕ). take n r) (drop-append-le at s t (omega arith))
    ∙ take-append-le n (drop at s) t (simp length-drop (omega arith))

pub part-of-append-right : (s t : List ℕ) (at n : ℕ) → part (s ++ t) (length s + at) n ≡ part t at n
part-of-append-right s t at n = ap (λ (r : List ℕ). take n r) (drop-append-add s t at)

-- a part looks no further than its end
pub part-of-take : (l : List ℕ) (m at n : ℕ) → at + n ≤ m → part (take m l) at n ≡ part l at n
part-of-take l m zero n h = take-take n m l (omega arith)
part-of-take [] m (suc at) n h = ap (λ (r : List ℕ). part r (suc at) n) (take-nil m)
part-of-take (x ∷ l) zero (suc at) n h = absurd (omega arith)
part-of-take (x ∷ l) (suc m) (suc at) n h = part-of-take l m at n (omega arith)

pub same-part : (k l : List ℕ) (m at n : ℕ) → take m k ≡ take m l → at + n ≤ m → part k at n ≡ part l at n
same-part k l m at n e h = sym (part-of-take k m at n h) ∙ ap (λ (r : List ℕ). part r at n) e ∙ part-of-take l m at n h

pub same_byte : (k l : List ℕ) (m i : ℕ) → take m k ≡ take m l → i < m → get_or k i 0 ≡ get_or l i 0
same_byte k l m i e h = sym (get_or-take m k i 0 h) ∙ ap (λ (r : List ℕ). get_or r i 0) e ∙ get_or-take m l i 0 h

pub part-of-part : (l : List ℕ) (at n i m : ℕ) → i + m ≤ n → part (part l at n) i m ≡ part l (at + i) m
part-of-part l at n i m h = part-of-take (drop at l) n i m h ∙ ap (λ (r : List ℕ). take m r) (drop-drop i at l)

-- a two-byte field of a part
pub part-word : (l : List ℕ) (at n i : ℕ) → i + 1 < n → word_at (part l at n) i ≡ word_at l (at + i)
part-word l at n i h = rw (part-byte l at n i (omega arith), part-byte l at n (i + 1) h, add_assoc)

-- the first bytes of a part
pub part-first : (l : List ℕ) (at m n : ℕ) → m ≤ n → part (part l at n) 0 m ≡ part l at m
part-first l at m n h = take-take m n (drop at l) h

-- a byte is a part of one byte
pub byte-of-part : (k l : List ℕ) (i j : ℕ) → part k i 1 ≡ part l j 1 → get_or k i 0 ≡ get_or l j 0
byte-of-part k l i j e = sym (first k i) ∙ ap (λ (r : List ℕ). get_or r 0 0) e ∙ first l j
  where
    first : (r : List ℕ) (a : ℕ) → get_or (part r a 1) 0 0 ≡ get_or r a 0
    first r a = part-byte r a 1 0 (omega arith) ∙ rw add-zero

-- ---- parts of an overwritten list
module _ (d s : List ℕ) (at : ℕ) (h : at + length s ≤ length d) where
  pub part-before : (i n : ℕ) → i + n ≤ at → part (overwrite d at s) i n ≡ part d i n
  part-before i n k = same-part (overwrite d at s) d at i n (overwrite-take d s at h at (omega arith)) k

  pub part-outside : (i n : ℕ) → (i + n ≤ at) ⊎ (at + length s ≤ i) → part (overwrite d at s) i n ≡ part d i n
  part-outside i n k = ⊎_elim (part-before i n) (part-behind d s at h i n) k

  pub byte-before : (i : ℕ) → i < at → get_or (overwrite d at s) i 0 ≡ get_or d i 0
  byte-before i k = byte-of-part (overwrite d at s) d i i (part-before i 1 (omega arith))

  pub byte-behind : (i : ℕ) → at + length s ≤ i → get_or (overwrite d at s) i 0 ≡ get_or d i 0
  byte-behind i k = byte-of-part (overwrite d at s) d i i (part-behind d s at h i 1 k)

  -- a part of what was laid
  pub part-inside : (i n : ℕ) → i + n ≤ length s → part (overwrite d at s) (at + i) n ≡ part s i n
  part-inside i n k =
      let q : length (take at d) ≡ at = length-take-le at d (omega arith) in
      rw append_assoc
      (ap (λ (a : ℕ). part (take at d ++ (s ++ drop (at + length s) d)) (a + i) n) (sym q)
      ∙ part-of-append-right (take at d) (s ++ drop (at + length s) d) i n
      ∙ part-of-append-left s (drop (at + length s) d) i n k)

  pub byte_inside : (i : ℕ) → i < length s → get_or (overwrite d at s) (at + i) 0 ≡ get_or s i 0
  byte_inside i k = byte-of-part (overwrite d at s) s (at + i) i (part-inside i 1 (omega arith))

-- what is left of a part behind its first m bytes
part-tail : (l : List ℕ) (at m n : ℕ) → at + m ≤ length l → drop m (part l at (m + n)) ≡ part l (at + m) n
part-tail l at m n h = ap (λ (r : List ℕ). drop m r) (part-split l at m n)
    ∙ drop_at (part l at m) (part l (at + m) n) m (part_length l at m h)

around : (d s : List ℕ) (i at m : ℕ) → i + (at + length s + m) ≤ length d
    → part (overwrite d (i + at) s) i (at + length s + m) ≡ overwrite (part d i (at + length s + m)) at s
around d s i at m h =
    let laid : List ℕ = overwrite d (i + at) s in
    let fits : i + at + length s ≤ length d = omega arith in
    let before : part laid i at ≡ part d i at = part-before d s (i + at) fits i at (omega arith) in
    let inside : part laid (i + at) (length s) ≡ s = overwrite-part d s (i + at) fits in
    let behind : part laid (i + (at + length s)) m ≡ part d (i + (at + length s)) m =
    part-behind d s (i + at) fits (i + (at + length s)) m (omega arith) in
    part-split laid i (at + length s) m
    ∙ ap (λ (r : List ℕ). r ++ part laid (i + (at + length s)) m) (part-split laid i at (length s))
    ∙ rw (before, inside, behind, part-tail d i (at + length s) m (omega arith), take-take at (at + length s + m) (drop i d) (omega arith))

-- a part that holds all that was laid is itself overwritten
pub part-around : (d s : List ℕ) (i n at : ℕ) → at + length s ≤ n → i + n ≤ length d
    → part (overwrite d (i + at) s) i n ≡ overwrite (part d i n) at s
part-around d s i n at h k =
    let m : at + length s + (n - (at + length s)) ≡ n = omega arith in
    subst (λ (a : ℕ). part (overwrite d (i + at) s) i a ≡ overwrite (part d i a) at s) m
    (around d s i at (n - (at + length s)) (omega arith))
