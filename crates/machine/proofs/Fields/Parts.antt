-- Parts of buffers, byte by byte: two parts of the same bytes are the same.
use Prim.Native.Nat.{ℕ, suc, ◌+◌, ◌≤◌, ◌<◌}
use mathlib.Core.Path.{◌≡◌, refl, sym, ap, ◌∙◌}
use mathlib.Core.Bool.{Bool, true, false}
use mathlib.Core.List.{List}
use native.Mathlib.Omega.{arith}
use lib.Dec.{ltb}
use lib.ListN.{length, get_or, get_or-eq_default}
use lib.Seq.{ext_get_or}
use borrow.Author.Tests.{ltb-false, ltb-true}
use Rattle.buffer.specs.Buffer.{part}
use Rattle.buffer.proofs.Parts.{part-byte, part_length}

-- a byte that is not 0 is one of the list
pub byte_inside : (l : List ℕ) (i x : ℕ) → get_or l i 0 ≡ suc x → i < length l
byte_inside l i x e = go (ltb i (length l)) refl
  where
    go : (t : Bool) → ltb i (length l) ≡ t → i < length l
    go true h = ltb-true i (length l) h
    go false h = let z : get_or l i 0 ≡ 0 = get_or-eq_default l 0 (ltb-false i (length l) h) in absurd (omega arith)

-- a part against a list
module _ (l s : List ℕ) (at n : ℕ) where
  pub part-is : at + n ≤ length l → length s ≡ n → ((j : ℕ) → j < n → get_or l (at + j) 0 ≡ get_or s j 0) → part l at n ≡ s
  part-is h q e =
      let size : length (part l at n) ≡ n = part_length l at n h in
      ext_get_or 0 (part l at n) s (size ∙ sym q) (λ j m. let k : j < n = omega arith in part-byte l at n j k ∙ e j k)

  pub is-part : part l at n ≡ s → (j : ℕ) → j < n → get_or l (at + j) 0 ≡ get_or s j 0
  is-part e j h = sym (part-byte l at n j h) ∙ ap (λ (r : List ℕ). get_or r j 0) e

-- a part against a part
module _ (k l : List ℕ) (a b n : ℕ) where
  pub parts_same : a + n ≤ length k → b + n ≤ length l → ((j : ℕ) → j < n → get_or k (a + j) 0 ≡ get_or l (b + j) 0)
      → part k a n ≡ part l b n
  parts_same h m e = part-is k (part l b n) a n h (part_length l b n m) (λ j i. e j i ∙ sym (part-byte l b n j i))

  pub same-bytes : part k a n ≡ part l b n → (j : ℕ) → j < n → get_or k (a + j) 0 ≡ get_or l (b + j) 0
  same-bytes e j h = is-part k (part l b n) a n e j h ∙ part-byte l b n j h
