-- Columns: filled from the front, and what stands in one.
use Prim.Native.Nat.{ℕ, ◌+◌, ◌≤◌, ◌<◌}
use mathlib.Core.Path.{◌≡◌, sym, ◌∙◌, subst}
use mathlib.Core.List.{List}
use native.Mathlib.Nat.{zero-add}
use native.Mathlib.Omega.{arith}
use lib.ListN.{length, get_or, set}
use lib.Seq.{paste, paste-zero}
use Rattle.buffer.specs.Buffer.{overwrite}
use Rattle.buffer.specs.Lists.{tab}
use Rattle.buffer.proofs.Buffer.{overwrite-end, overwrite-next}
use Rattle.buffer.proofs.Lists.{tab-at, tab-length}
use Rattle.buffer.proofs.Parts.{byte-behind, byte_inside}

-- ---- a loop that fills a column: the first i of n places are filled
module _ (d : List ℕ) (f : ℕ → ℕ) (n : ℕ) where
  pub record Column (l : List ℕ) (i : ℕ) : Type 0 where
    pub few : i ≤ n
    pub filled : l ≡ paste d 0 (tab f n) i

  pub column-none : Column d 0
  column-none = record { few = omega arith; filled = paste-zero d 0 (tab f n) }

  pub column-next : {l : List ℕ} {i x : ℕ} → Column l i → n ≤ length d → i < n → x ≡ f i → Column (set l i x) (i + 1)
  column-next {l} {i} c h k v =
      let q : length (tab f n) ≡ n = tab-length f n in
      record {
        few = omega arith;
        filled = rw (v ∙ sym (tab-at f n i 0 k))
            (subst (λ (j : ℕ). set l j (get_or (tab f n) i 0) ≡ paste d 0 (tab f n) (i + 1)) (zero-add i)
            (overwrite-next d (tab f n) l 0 i (omega arith) (omega arith) c.filled));
      }

  pub column-filled : {l : List ℕ} {i : ℕ} → Column l i → n ≤ i → l ≡ overwrite d 0 (tab f n)
  column-filled {l} {i} c h = overwrite-end d (tab f n) l 0 i (omega (arith, c.few, tab-length f n)) c.filled

-- ---- what stands in a filled column
module _ (d : List ℕ) (f : ℕ → ℕ) (n : ℕ) (h : n ≤ length d) where
  size : length (tab f n) ≡ n
  size = tab-length f n

  pub column-at : (i : ℕ) → i < n → get_or (overwrite d 0 (tab f n)) i 0 ≡ f i
  column-at i k =
      let q = size in
      subst (λ (j : ℕ). get_or (overwrite d 0 (tab f n)) j 0 ≡ get_or (tab f n) i 0) (zero-add i)
      (byte_inside d (tab f n) 0 (omega arith) i (omega arith))
      ∙ tab-at f n i 0 k

  pub column-behind : (i : ℕ) → n ≤ i → get_or (overwrite d 0 (tab f n)) i 0 ≡ get_or d i 0
  column-behind i k = let q = size in byte-behind d (tab f n) 0 (omega arith) i (omega arith)
