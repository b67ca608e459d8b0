-- Laws of `part`, `overwrite` and two-byte fields.
use Prim.Native.Nat.{ℕ, suc, ◌+◌, ◌*◌, ◌/◌, ◌%◌, ◌-◌, ◌≤◌, ◌<◌}
use mathlib.Core.Path.{◌≡◌, refl, sym, ap, ◌∙◌}
use mathlib.Core.List.{List, [], ◌∷◌, ◌++◌, append_assoc, append-nil}
use native.Mathlib.Nat.{add_assoc, zero-add}
use native.Mathlib.Numerals.{add-one}
use native.Mathlib.Omega.{arith}
use lib.ListN.{length, get_or, set, take, drop, replicate, length-drop, length-append}
use lib.Seq.{take-suc, take-suc-set, get_or-drop, get_or-take, length-take-le, take_at, drop_at, drop-drop, drop-append-add, take-append-le}
use lib.Seq.{paste, paste-suc, drop-length, drop-paste, set_split, append_snoc, take-length, take-take}
use Rattle.buffer.specs.Buffer.{part, overwrite}
use Rattle.buffer.proofs.Lists.{drop-replicate}

module _ {A : Type 0} where
  -- one more turn of a loop that fills l with the elements of t
  pub fill-next : (l t : List A) (j : ℕ) (x d : A) → j < length l → j < length t → take j l ≡ take j t → x ≡ get_or t j d
      → take (j + 1) (set l j x) ≡ take (j + 1) t
  fill-next l t j x d hl ht e v = rw (add-one, take-suc-set, take-suc t j d, e, v)

-- one more turn of a loop that copies a part
pub copy-next : (l s : List ℕ) (at j : ℕ) → j < length l → at + j < length s → take j l ≡ take j (drop at s)
    → take (j + 1) (set l j (get_or s (at + j) 0)) ≡ take (j + 1) (drop at s)
copy-next l s at j hl hs e = fill-next l (drop at s) j (get_or s (at + j) 0) 0 hl (simp length-drop (omega arith)) e (rw get_or-drop)

-- one more turn of a loop that overwrites
pub overwrite-next : (d s l : List ℕ) (at j : ℕ) → at + j < length d → j < length s → l ≡ paste d at s j
    → set l (at + j) (get_or s j 0) ≡ paste d at s (j + 1)
overwrite-next d s l at j hd hs e = rw (add-one, e) (paste-suc d at s j 0 hd hs)

pub overwrite-end : (d s l : List ℕ) (at j : ℕ) → j ≡ length s → l ≡ paste d at s j → l ≡ overwrite d at s
overwrite-end d s l at j q e = e ∙ rw (q, take-length)

-- ---- what an overwriting leaves
module _ (d s : List ℕ) (at : ℕ) (h : at + length s ≤ length d) where
  head-length : length (take at d ++ s) ≡ at + length s
  head-length = length-append (take at d) s ∙ ap (λ (k : ℕ). k + length s) (length-take-le at d (omega arith))

  pub overwrite-length : length (overwrite d at s) ≡ length d
  overwrite-length =
      length-append (take at d ++ s) (drop (at + length s) d)
      ∙ ap (λ (k : ℕ). k + length (drop (at + length s) d)) head-length
      ∙ ap (λ (k : ℕ). at + length s + k) (length-drop (at + length s) d)
      ∙ omega arith

  -- what lies before is as it was
  pub overwrite-take : (n : ℕ) → n ≤ at → take n (overwrite d at s) ≡ take n d
  overwrite-take n k =
      let q : length (take at d) ≡ at = length-take-le at d (omega arith) in
      rw (append_assoc, take-append-le n (take at d) (s ++ drop (at + length s) d) (omega arith)) (take-take n at d k)

  -- what lies behind is as it was
  pub overwrite-drop : (n : ℕ) → at + length s ≤ n → drop n (overwrite d at s) ≡ drop n d
  overwrite-drop n k =
      let m : (at + length s) + (n - (at + length s)) ≡ n = omega arith in
      let q = head-length in
      rw (← m)
      (ap (λ (j : ℕ). drop (j + (n - (at + length s))) (overwrite d at s)) (sym q)
      ∙ drop-append-add (take at d ++ s) (drop (at + length s) d) (n - (at + length s))
      ∙ drop-drop (n - (at + length s)) (at + length s) d)

  -- what was laid there is there
  pub overwrite-part : part (overwrite d at s) at (length s) ≡ s
  overwrite-part =
      let q : length (take at d) ≡ at = length-take-le at d (omega arith) in
      rw (append_assoc, drop_at (take at d) (s ++ drop (at + length s) d) at q) (take_at s (drop (at + length s) d) (length s) refl)

  -- a part that lies wholly before or behind is as it was
  pub part-behind : (i n : ℕ) → at + length s ≤ i → part (overwrite d at s) i n ≡ part d i n
  part-behind i n k = ap (λ (l : List ℕ). take n l) (overwrite-drop i k)

-- a second run laid right behind a first: as one run
pub overwrite-joined : (d s t : List ℕ) (at b : ℕ) → b ≡ at + length s → b ≤ length d
    → overwrite (overwrite d at s) b t ≡ overwrite d at (s ++ t)
overwrite-joined d s t at b q h = ap (λ (k : ℕ). overwrite (overwrite d at s) k t) q ∙ joined (omega arith)
  where
    joined : at + length s ≤ length d → overwrite (overwrite d at s) (at + length s) t ≡ overwrite d at (s ++ t)
    joined h =
        let n = head-length d s at h in
        let m : drop (at + length s + length t) (overwrite d at s) ≡ drop (at + (length s + length t)) d =
        rw (← n, drop-append-add, n, drop-drop) (rw add_assoc) in
        rw (take_at (take at d ++ s) (drop (at + length s) d) (at + length s) n, m, length-append, ← append_assoc)

-- laid over all of it
pub overwrite-whole : (d s : List ℕ) → length d ≡ length s → overwrite d 0 s ≡ s
overwrite-whole d s h = rw (zero-add, ← h, drop-length) (append-nil s)

-- laid over zeros, from the first
pub overwrite-zeros : (s : List ℕ) (n : ℕ) → overwrite (replicate n 0) 0 s ≡ s ++ replicate (n - length s) 0
overwrite-zeros s n = rw zero-add (ap (λ (l : List ℕ). s ++ l) (drop-replicate 0 n (length s)))

-- one byte written
pub overwrite-set : (l : List ℕ) (i x : ℕ) → i < length l → set l i x ≡ overwrite l i (x ∷ [])
overwrite-set l i x h = set_split l i x h ∙ sym (append_snoc (take i l) x (drop (suc i) l))
    ∙ ap (λ (k : ℕ). take i l ++ (x ∷ []) ++ drop k l) (sym (add-one i))

-- one more turn of a loop that moves a part down by k: what it reads has not been written yet
pub moved-next : (d : List ℕ) (at k n j : ℕ) → at + k + n ≤ length d → j < n
    → get_or (paste d at (part d (at + k) n) j) (at + k + j) 0 ≡ get_or (part d (at + k) n) j 0
moved-next d at k n j h b =
    let s = part d (at + k) n in
    let z : length (part d (at + k) n) ≡ n = length-take-le n (drop (at + k) d) (simp length-drop (omega arith)) in
    let e : at + k + j ≡ (at + j) + k = omega arith in
    rw e
    (sym (get_or-drop (at + j) (paste d at s j) k 0)
    ∙ ap (λ (l : List ℕ). get_or l k 0) (drop-paste d at s j (omega arith) (omega arith))
    ∙ get_or-drop (at + j) d k 0
    ∙ ap (λ (i : ℕ). get_or d i 0) (sym e)
    ∙ sym (get_or-drop (at + k) d j 0)
    ∙ sym (get_or-take n (drop (at + k) d) j 0 b))

pub word_split : (w : ℕ) → w % 256 + w / 256 * 256 ≡ w
word_split w = omega arith
