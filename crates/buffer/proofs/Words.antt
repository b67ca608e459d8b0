-- Bytes one by one, and two-byte fields: read and written again.
use Prim.Native.Nat.{ℕ, ◌+◌, ◌/◌, ◌%◌, ◌≤◌, ◌<◌}
use mathlib.Core.Path.{◌≡◌, refl, sym, ◌∙◌}
use mathlib.Core.Bool.{Bool, true, false}
use mathlib.Core.List.{List}
use native.Mathlib.Nat.{add-zero}
use native.Mathlib.Omega.{arith}
use lib.Dec.{ltb}
use lib.ListN.{length, get_or, drop, length-take, get_or-eq_default}
use lib.Seq.{take_all}
use borrow.Author.Tests.{ltb-false, ltb-true}
use Rattle.buffer.specs.Buffer.{part, word_at, word_bytes}
use Rattle.buffer.specs.Lists.{tab}
use Rattle.buffer.proofs.FixedWidth.{tab-of}
use Rattle.buffer.proofs.Parts.{part-byte, part_length}

-- a part, byte by byte
pub spelled : (l : List ℕ) (at n : ℕ) → at + n ≤ length l → tab (λ i. get_or l (at + i) 0) n ≡ part l at n
spelled l at n h =
    let size : length (part l at n) ≡ n = part_length l at n h in
    tab-of (part l at n) 0 (λ i. get_or l (at + i) 0) n (omega arith) (λ i k. sym (part-byte l at n i k))
    ∙ take_all n (part l at n) (omega arith)

-- every element is a byte
module _ (l : List ℕ) (bytes : (i : ℕ) → get_or l i 0 < 256) where
  pub word_low : (i : ℕ) → word_at l i % 256 ≡ get_or l i 0
  word_low i = omega (arith, bytes i, bytes (i + 1))

  pub word-high : (i : ℕ) → word_at l i / 256 ≡ get_or l (i + 1) 0
  word-high i = omega (arith, bytes i, bytes (i + 1))

  pub word-encode-decode : (i : ℕ) → i + 2 ≤ length l → word_bytes (word_at l i) ≡ part l i 2
  unfolding tab
  word-encode-decode i h = rw (word_low, word-high) (rw add-zero at (spelled l i 2 h))

  -- so is every element of a part
  pub part_bytes : (at n i : ℕ) → get_or (part l at n) i 0 < 256
  part_bytes at n i = go (ltb i n) refl
    where
      go : (b : Bool) → ltb i n ≡ b → get_or (part l at n) i 0 < 256
      go true e = rw (part-byte l at n i (ltb-true i n e)) (bytes (at + i))
      go false e =
          let short = length-take n (drop at l) in
          rw (get_or-eq_default (part l at n) 0 {n = i} (omega (arith, ltb-false i n e))) (omega arith)
