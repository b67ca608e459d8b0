-- Tables of records that take the same number of bytes each: written and read back, read and written again.
use Prim.Native.Nat.{ℕ, zero, suc, ◌+◌, ◌*◌, ◌≤◌, ◌<◌}
use mathlib.Core.Path.{◌≡◌, refl, sym, ap, ◌∙◌}
use mathlib.Core.List.{List, [], ◌∷◌, ◌++◌, append_assoc}
use native.Mathlib.Nat.{add_comm, le_of_suc-le-suc, le_refl, not-suc-le-zero, suc-mul, zero-mul}
use native.Mathlib.Omega.{arith}
use lib.ListN.{length, get_or, take, length-append}
use lib.Seq.{take_all, take_at, take-suc}
use Rattle.buffer.specs.Buffer.{part}
use Rattle.buffer.specs.Lists.{flat, tab}
use Rattle.buffer.proofs.Lists.{flat-snoc}
use Rattle.buffer.proofs.Parts.{part-of-append-right, part-split}

-- what lies behind the first at elements
pub part-after : (before s : List ℕ) (at i n : ℕ) → length before ≡ at → part (before ++ s) (at + i) n ≡ part s i n
part-after before s at i n h = rw (← h) (part-of-append-right before s i n)

-- a list is the table of its elements
pub tab-of : {A : Type 0} (l : List A) (d : A) (f : ℕ → A) (n : ℕ) → n ≤ length l → ((i : ℕ) → i < n → f i ≡ get_or l i d)
    → tab f n ≡ take n l
unfolding tab
tab-of l d f zero h e = refl
tab-of l d f (suc n) h e = rw (tab-of l d f n (omega arith) (λ i m. e i (omega arith)), e n (le_refl (suc n)), take-suc l n d h)

module _ {A : Type 0} (encode : A → List ℕ) (decode : List ℕ → A) (width : ℕ) where
  -- x takes width bytes, and they say all of it
  pub record Encoded (x : A) : Type 0 where
    pub size : length (encode x) ≡ width
    pub back : decode (encode x) ≡ x

  pub flat-length : (l : List A) (d : A) → ((i : ℕ) → i < length l → Encoded (get_or l i d)) → length (flat encode l) ≡ length l * width
  unfolding flat
  flat-length [] d e = rw zero-mul
  flat-length (x ∷ l) d e =
      let q : length (encode x) ≡ width = (e 0 (omega arith)).size in
      rw (length-append, flat-length l d (λ i h. e (suc i) (omega arith)), q, suc-mul) (add_comm width (length l * width))

  -- the bytes of the i-th record
  pub flat-part : (l : List A) (d : A) (after : List ℕ) (i : ℕ) → i < length l → ((k : ℕ) → k < length l → Encoded (get_or l k d))
      → part (flat encode l ++ after) (i * width) width ≡ encode (get_or l i d)
  unfolding flat
  flat-part [] d after i h e = absurd (not-suc-le-zero h)
  flat-part (x ∷ l) d after zero h e =
      rw (zero-mul, append_assoc) (take_at (encode x) (flat encode l ++ after) width (e 0 (omega arith)).size)
  flat-part (x ∷ l) d after (suc i) h e =
      rw (suc-mul, add_comm, append_assoc)
      (part-after (encode x) (flat encode l ++ after) width (i * width) width (e 0 (omega arith)).size
      ∙ flat-part l d after i (le_of_suc-le-suc h) (λ k m. e (suc k) (omega arith)))

  -- what was written is read back
  pub table-decode-encode : (before : List ℕ) (l : List A) (d : A) (after : List ℕ) (at n : ℕ) → length before ≡ at → length l ≡ n
      → ((i : ℕ) → i < n → Encoded (get_or l i d))
      → tab (λ i. decode (part (before ++ (flat encode l ++ after)) (at + i * width) width)) n ≡ l
  table-decode-encode before l d after at n h q e =
      tab-of l d (λ i. decode (part (before ++ (flat encode l ++ after)) (at + i * width) width)) n (omega arith) same
      ∙ take_all n l (omega arith)
    where
      same : (i : ℕ) → i < n → decode (part (before ++ (flat encode l ++ after)) (at + i * width) width) ≡ get_or l i d
      same i m =
          ap decode
          (part-after before (flat encode l ++ after) at (i * width) width h
          ∙ flat-part l d after i (omega arith) (λ k b. e k (omega arith)))
          ∙ (e i m).back

  -- what was read is written as it lay
  pub table-encode-decode : (l : List ℕ) (at n : ℕ)
      → ((i : ℕ) → i < n → encode (decode (part l (at + i * width) width)) ≡ part l (at + i * width) width)
      → flat encode (tab (λ i. decode (part l (at + i * width) width)) n) ≡ part l at (n * width)
  unfolding flat tab
  table-encode-decode l at zero e = rw zero-mul
  table-encode-decode l at (suc n) e =
      rw (flat-snoc, table-encode-decode l at n (λ i h. e i (omega arith)), e n (le_refl (suc n)), suc-mul)
      (sym (part-split l at (n * width) width))
