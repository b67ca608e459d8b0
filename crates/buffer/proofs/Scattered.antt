-- Laws of bytes gathered from, and laid over, places.
use Prim.Native.Nat.{ℕ, zero, suc, ◌+◌, ◌-◌, ◌≤◌, ◌<◌}
use mathlib.Core.Path.{◌≡◌, refl, sym, ap, ◌∙◌, subst}
use mathlib.Core.Bool.{Bool, true, false}
use mathlib.Core.List.{List, [], ◌∷◌}
use native.Mathlib.Nat.{add_assoc, add-zero, not-suc-le-zero, le_of_suc-le-suc}
use native.Mathlib.Omega.{arith}
use lib.Dec.{ltb}
use lib.ListN.{length, get_or, set, take, length-set}
use lib.Seq.{ext_get_or, get_or-set_other, get_or-set_same, take-set-le}
use borrow.Author.Tests.{ltb-false, ltb-true}
use Rattle.buffer.specs.Buffer.{overwrite, part}
use Rattle.buffer.specs.Lists.{tab}
use Rattle.buffer.proofs.Buffer.{overwrite-length}
use Rattle.buffer.proofs.Lists.{tab-at, tab-length, tab-same}
use Rattle.buffer.proofs.Parts.{byte-before, byte-behind, byte_inside, part-byte, part_length}

-- ---- bytes of a buffer at places that a function gives, one for each offset
-- those at the first n places
unfoldable pub gathered : (ℕ → ℕ) → List ℕ → ℕ → List ℕ
gathered at l n = tab (λ i. get_or l (at i) 0) n

-- these bytes laid over those at the places from offset i on
unfoldable pub scattered : (ℕ → ℕ) → ℕ → List ℕ → List ℕ → List ℕ
scattered at i l [] = l
scattered at i l (x ∷ xs) = scattered at (suc i) (set l (at i) x) xs

-- ---- gathered
pub gathered-length : (at : ℕ → ℕ) (l : List ℕ) (n : ℕ) → length (gathered at l n) ≡ n
unfolding gathered
gathered-length at l n = tab-length (λ i. get_or l (at i) 0) n

pub gathered-byte : (at : ℕ → ℕ) (l : List ℕ) (n i : ℕ) → i < n → get_or (gathered at l n) i 0 ≡ get_or l (at i) 0
unfolding gathered
gathered-byte at l n i h = tab-at (λ j. get_or l (at j) 0) n i 0 h

-- the same bytes at places that may differ
pub gathered-same : (f g : ℕ → ℕ) (l m : List ℕ) (n : ℕ) → ((i : ℕ) → i < n → get_or l (f i) 0 ≡ get_or m (g i) 0)
    → gathered f l n ≡ gathered g m n
unfolding gathered
gathered-same f g l m n h = tab-same (λ i. get_or l (f i) 0) (λ i. get_or m (g i) 0) n h

-- places in a row: a part of the buffer
pub gathered-part : (l : List ℕ) (s n : ℕ) → s + n ≤ length l → gathered (λ i. s + i) l n ≡ part l s n
gathered-part l s n h =
    ext_get_or 0 (gathered (λ i. s + i) l n) (part l s n) (gathered-length (λ i. s + i) l n ∙ sym (part_length l s n h))
    (λ i k. let m : i < n = omega (arith, gathered-length (λ i. s + i) l n) in
    gathered-byte (λ i. s + i) l n i m ∙ sym (part-byte l s n i m))

-- ---- scattered
pub scattered-length : (at : ℕ → ℕ) (i : ℕ) (l xs : List ℕ) → length (scattered at i l xs) ≡ length l
unfolding scattered
scattered-length at i l [] = refl
scattered-length at i l (x ∷ xs) = scattered-length at (suc i) (set l (at i) x) xs ∙ length-set l (at i) x

-- at the same places
pub scattered-same : (f g : ℕ → ℕ) (i : ℕ) (l xs : List ℕ) → ((k : ℕ) → k < length xs → f (i + k) ≡ g (i + k))
    → scattered f i l xs ≡ scattered g i l xs
unfolding scattered
scattered-same f g i l [] h = refl
scattered-same f g i l (x ∷ xs) h =
    let here : f i ≡ g i = ap f (sym (add-zero i)) ∙ h 0 (omega arith) ∙ ap g (add-zero i) in
    ap (λ (j : ℕ). scattered f (suc i) (set l j x) xs) here
    ∙ scattered-same f g (suc i) (set l (g i) x) xs
    (λ k m. let q : suc i + k ≡ i + suc k = omega arith in ap f q ∙ h (suc k) (omega arith) ∙ ap g (sym q))

-- a byte at none of the places stays
pub scattered-other : (at : ℕ → ℕ) (i : ℕ) (l xs : List ℕ) (j : ℕ) → ((k : ℕ) → k < length xs → j ≡ at (i + k) → ⊥)
    → get_or (scattered at i l xs) j 0 ≡ get_or l j 0
unfolding scattered
scattered-other at i l [] j h = refl
scattered-other at i l (x ∷ xs) j h =
    scattered-other at (suc i) (set l (at i) x) xs j
    (λ k m e. let q : suc i + k ≡ i + suc k = omega arith in h (suc k) (omega arith) (e ∙ ap at q))
    ∙ get_or-set_other l (at i) j x 0 (λ e. h 0 (omega arith) (e ∙ ap at (sym (add-zero i))))

-- the buffer before all of the places stays
pub scattered-before : (at : ℕ → ℕ) (i : ℕ) (l xs : List ℕ) (n : ℕ) → ((k : ℕ) → k < length xs → n ≤ at (i + k))
    → take n (scattered at i l xs) ≡ take n l
unfolding scattered
scattered-before at i l [] n h = refl
scattered-before at i l (x ∷ xs) n h =
    scattered-before at (suc i) (set l (at i) x) xs n
    (λ k m. let q : i + suc k ≡ suc i + k = omega arith in subst (λ (j : ℕ). n ≤ at j) q (h (suc k) (omega arith)))
    ∙ take-set-le n l (at i) x (subst (λ (j : ℕ). n ≤ at j) (add-zero i) (h 0 (omega arith)))

-- the first n places lie in the buffer, and no two are one
pub record Distinct (at : ℕ → ℕ) (l : List ℕ) (n : ℕ) : Type 0 where
  pub inside : (i : ℕ) → i < n → at i < length l
  pub once : (i j : ℕ) → i < n → j < n → at i ≡ at j → i ≡ j

set-distinct : {at : ℕ → ℕ} {l : List ℕ} {n : ℕ} (i x : ℕ) → Distinct at l n → Distinct at (set l i x) n
set-distinct {at} {l} i x d = record { inside = λ j h. rw (length-set l i x) (d.inside j h); once = d.once }

pub scattered-byte : (at : ℕ → ℕ) (n i : ℕ) (l xs : List ℕ) → Distinct at l n → i + length xs ≤ n → (k : ℕ) → k < length xs
    → get_or (scattered at i l xs) (at (i + k)) 0 ≡ get_or xs k 0
unfolding scattered
scattered-byte at n i l [] d h k m = absurd (not-suc-le-zero m)
scattered-byte at n i l (x ∷ xs) d h zero m =
    let here : at (i + 0) ≡ at i = ap at (add-zero i) in
    ap (λ (j : ℕ). get_or (scattered at (suc i) (set l (at i) x) xs) j 0) here
    ∙ scattered-other at (suc i) (set l (at i) x) xs (at i)
    (λ k o e. let z : i ≡ suc i + k = d.once i (suc i + k) (omega arith) (omega arith) e in omega arith)
    ∙ get_or-set_same l (at i) x 0 (d.inside i (omega arith))
scattered-byte at n i l (x ∷ xs) d h (suc k) m =
    let q : i + suc k ≡ suc i + k = omega arith in
    ap (λ (j : ℕ). get_or (scattered at (suc i) (set l (at i) x) xs) (at j) 0) q
    ∙ scattered-byte at n (suc i) (set l (at i) x) xs (set-distinct (at i) x d) (omega arith) k (le_of_suc-le-suc m)

-- by cases: a byte before the offset, behind the bytes laid, or at one of them
by-offset : (i offset n : ℕ) (P : Type 0) → (i < offset → P) → (offset + n ≤ i → P) → ((k : ℕ) → k < n → i ≡ offset + k → P) → P
by-offset i offset n P before behind inside = go (ltb i offset) refl (ltb i (offset + n)) refl
  where
    go : (a : Bool) → ltb i offset ≡ a → (b : Bool) → ltb i (offset + n) ≡ b → P
    go true e b f = before (ltb-true i offset e)
    go false e false f = behind (ltb-false i (offset + n) f)
    go false e true f =
        inside (i - offset) (omega (arith, ltb-false i offset e, ltb-true i (offset + n) f)) (omega (arith, ltb-false i offset e))

-- ---- what is gathered after bytes are laid at the same places, and at others
module _ (at : ℕ → ℕ) (n offset : ℕ) (l xs : List ℕ) (d : Distinct at l n) (h : offset + length xs ≤ n) where
  room : offset + length xs ≤ length (gathered at l n)
  room = omega (arith, gathered-length at l n)

  pub scattered-gathered : gathered at (scattered at offset l xs) n ≡ overwrite (gathered at l n) offset xs
  scattered-gathered =
      ext_get_or 0 (gathered at (scattered at offset l xs) n) (overwrite (gathered at l n) offset xs)
      (gathered-length at (scattered at offset l xs) n ∙ sym (gathered-length at l n)
      ∙ sym (overwrite-length (gathered at l n) xs offset room))
      (λ i m. each i (subst (λ (k : ℕ). i < k) (gathered-length at (scattered at offset l xs) n) m))
    where
      each : (i : ℕ) → i < n → get_or (gathered at (scattered at offset l xs) n) i 0 ≡ get_or (overwrite (gathered at l n) offset xs) i 0
      each i m =
          gathered-byte at (scattered at offset l xs) n i m
          ∙ by-offset i offset (length xs) (get_or (scattered at offset l xs) (at i) 0 ≡ get_or (overwrite (gathered at l n) offset xs) i 0)
          (λ low. stays (λ k q z. omega arith) ∙ sym (byte-before (gathered at l n) xs offset room i low))
          (λ high. stays (λ k q z. omega arith) ∙ sym (byte-behind (gathered at l n) xs offset room i high))
          (λ k low q.
          ap (λ (j : ℕ). get_or (scattered at offset l xs) (at j) 0) q
          ∙ scattered-byte at n offset l xs d h k low
          ∙ sym (byte_inside (gathered at l n) xs offset room k low)
          ∙ ap (λ (j : ℕ). get_or (overwrite (gathered at l n) offset xs) j 0) (sym q))
        where
          stays : ((k : ℕ) → k < length xs → i ≡ offset + k → ⊥) → get_or (scattered at offset l xs) (at i) 0 ≡ get_or (gathered at l n) i 0
          stays o = scattered-other at offset l xs (at i) (λ k q e. o k q (d.once i (offset + k) m (omega arith) e))
              ∙ sym (gathered-byte at l n i m)

  pub scattered-elsewhere : (other : ℕ → ℕ) (m : ℕ) → ((i j : ℕ) → i < n → j < m → other j ≡ at i → ⊥)
      → gathered other (scattered at offset l xs) m ≡ gathered other l m
  scattered-elsewhere other m apart =
      gathered-same other other (scattered at offset l xs) l m
      (λ j q. scattered-other at offset l xs (other j) (λ k o e. apart (offset + k) j (omega arith) q e))

-- places in a row: bytes laid over a part of the buffer
pub scattered-overwrite : (l xs : List ℕ) (s offset : ℕ) → s + offset + length xs ≤ length l
    → scattered (λ i. s + i) offset l xs ≡ overwrite l (s + offset) xs
scattered-overwrite l xs s offset h =
    ext_get_or 0 (scattered at offset l xs) (overwrite l (s + offset) xs)
    (scattered-length at offset l xs ∙ sym (overwrite-length l xs (s + offset) h))
    (λ j k. each j)
  where
    at : ℕ → ℕ
    at i = s + i

    distinct : Distinct at l (offset + length xs)
    distinct = record { inside = λ i k. omega arith; once = λ i j k m e. omega arith }

    each : (j : ℕ) → get_or (scattered at offset l xs) j 0 ≡ get_or (overwrite l (s + offset) xs) j 0
    each j =
        by-offset j (s + offset) (length xs) (get_or (scattered at offset l xs) j 0 ≡ get_or (overwrite l (s + offset) xs) j 0)
        (λ low. scattered-other at offset l xs j (λ k m q. omega arith) ∙ sym (byte-before l xs (s + offset) h j low))
        (λ high. scattered-other at offset l xs j (λ k m q. omega arith) ∙ sym (byte-behind l xs (s + offset) h j high))
        (λ k low q.
        ap (λ (x : ℕ). get_or (scattered at offset l xs) x 0) (q ∙ add_assoc s offset k)
        ∙ scattered-byte at (offset + length xs) offset l xs distinct (omega arith) k low
        ∙ sym (byte_inside l xs (s + offset) h k low)
        ∙ ap (λ (x : ℕ). get_or (overwrite l (s + offset) xs) x 0) (sym q))
