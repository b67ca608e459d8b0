-- Four bytes as one number: equal numbers are equal bytes.
use Prim.Native.Nat.{ℕ, ◌+◌, ◌*◌, ◌≤◌, ◌<◌}
use mathlib.Core.Path.{◌≡◌, refl, sym, ap, ◌∙◌}
use mathlib.Core.Bool.{true, ◌&&◌, and_assoc}
use mathlib.Core.List.{List, [], ◌∷◌, ◌++◌}
use native.Mathlib.Nat.{add_assoc, add-zero}
use native.Mathlib.Omega.{arith}
use lib.Dec.{eqb}
use lib.ListN.{length, get_or}
use lib.Seq.{ext_get_or}
use borrow.Author.Tests.{eq-eqb, eqb-true}
use Rattle.buffer.specs.Buffer.{four_at, part, word_at}
use Rattle.buffer.specs.Lists.{same, tab}
use Rattle.buffer.proofs.Bools.{and_both, and_left, and_right}
use Rattle.buffer.proofs.Equivalence.{both_ways}
use Rattle.buffer.proofs.Lists.{same-eq, same_refl, tab-at, tab-length}
use Rattle.buffer.proofs.Parts.{part-byte, part_length, part-split}

-- every element is a byte
abbrev pub Bytes : List ℕ → Type 0
Bytes l = (i : ℕ) → get_or l i 0 < 256

-- two fields read as one number
pub words-apart : (a b c d : ℕ) → a < 65536 → c < 65536 → eqb (a + b * 65536) (c + d * 65536) ≡ eqb a c && eqb b d
words-apart a b c d h k = both_ways (eqb (a + b * 65536) (c + d * 65536)) (eqb a c && eqb b d) apart together
  where
    apart : eqb (a + b * 65536) (c + d * 65536) ≡ true → eqb a c && eqb b d ≡ true
    apart e = let q : a + b * 65536 ≡ c + d * 65536 = eqb-true _ _ e in and_both (eq-eqb a c (omega arith)) (eq-eqb b d (omega arith))

    together : eqb a c && eqb b d ≡ true → eqb (a + b * 65536) (c + d * 65536) ≡ true
    together e =
        let p : a ≡ c = eqb-true a c (and_left (eqb a c) (eqb b d) e) in
        let q : b ≡ d = eqb-true b d (and_right (eqb a c) (eqb b d) e) in
        eq-eqb (a + b * 65536) (c + d * 65536) (omega arith)

pub word_bound : (l : List ℕ) → Bytes l → (i : ℕ) → word_at l i < 65536
word_bound l b i = omega (arith, b i, b (i + 1))

pub part-spelled : (l : List ℕ) (at n : ℕ) → at + n ≤ length l → part l at n ≡ tab (λ i. get_or l (at + i) 0) n
part-spelled l at n h =
    let size = part_length l at n h in
    ext_get_or 0 (part l at n) (tab (λ i. get_or l (at + i) 0) n) (size ∙ sym (tab-length (λ i. get_or l (at + i) 0) n))
    (λ i k. let m : i < n = omega arith in part-byte l at n i m ∙ sym (tab-at (λ i. get_or l (at + i) 0) n i 0 m))

module _ (k l : List ℕ) (bk : Bytes k) (bl : Bytes l) where
  -- the words of two equal numbers
  pub four-words : (i j : ℕ)
      → eqb (four_at k i) (four_at l j) ≡ eqb (word_at k i) (word_at l j) && eqb (word_at k (i + 2)) (word_at l (j + 2))
  unfolding four_at
  four-words i j =
      words-apart (word_at k i) (word_at k (i + 2)) (word_at l j) (word_at l (j + 2)) (word_bound k bk i) (word_bound l bl j)

  -- four bytes of each
  module _ (i j : ℕ) (hk : i + 4 ≤ length k) (hl : j + 4 ≤ length l) where
    same-bytes : four_at k i ≡ four_at l j → part k i 4 ≡ part l j 4
    unfolding tab
    same-bytes e =
        let w = eqb (word_at k i) (word_at l j) in
        let v = eqb (word_at k (i + 2)) (word_at l (j + 2)) in
        let q : w && v ≡ true = sym (four-words i j) ∙ eq-eqb _ _ e in
        let u : word_at k i ≡ word_at l j = eqb-true _ _ (and_left w v q) in
        let t : word_at k (i + 2) ≡ word_at l (j + 2) = eqb-true _ _ (and_right w v q) in
        let b0 : get_or k i 0 ≡ get_or l j 0 = omega (arith, bk i, bl j) in
        let b1 : get_or k (i + 1) 0 ≡ get_or l (j + 1) 0 = omega (arith, bk i, bl j) in
        let b2 : get_or k (i + 2) 0 ≡ get_or l (j + 2) 0 = omega (arith, bk (i + 2), bl (j + 2)) in
        let b3 : get_or k (i + 3) 0 ≡ get_or l (j + 3) 0 = rw (add_assoc i 2 1, add_assoc j 2 1) at (after t b2) in
        rw (part-spelled k i 4 hk, part-spelled l j 4 hl, add-zero i, add-zero j, b0, b1, b2, b3)
      where
        after : word_at k (i + 2) ≡ word_at l (j + 2) → get_or k (i + 2) 0 ≡ get_or l (j + 2) 0
            → get_or k (i + 2 + 1) 0 ≡ get_or l (j + 2 + 1) 0
        after t b = omega arith

    same_byte : part k i 4 ≡ part l j 4 → (n : ℕ) → n < 4 → get_or k (i + n) 0 ≡ get_or l (j + n) 0
    same_byte e n h = sym (part-byte k i 4 n h) ∙ ap (λ (r : List ℕ). get_or r n 0) e ∙ part-byte l j 4 n h

    same_number : part k i 4 ≡ part l j 4 → four_at k i ≡ four_at l j
    unfolding four_at
    same_number e =
        let b0 : get_or k i 0 ≡ get_or l j 0 = rw (add-zero i, add-zero j) at (same_byte e 0 (omega arith)) in
        rw (add_assoc i 2 1, add_assoc j 2 1, b0, same_byte e 1 (omega arith), same_byte e 2 (omega arith), same_byte e 3 (omega arith))

    pub four_same : eqb (four_at k i) (four_at l j) ≡ same (part k i 4) (part l j 4)
    four_same =
        both_ways (eqb (four_at k i) (four_at l j)) (same (part k i 4) (part l j 4))
        (λ e. rw (same-bytes (eqb-true _ _ e)) (same_refl (part l j 4)))
        (λ e. eq-eqb _ _ (same_number (same-eq (part k i 4) (part l j 4) e)))

pub same-append : (a b c d : List ℕ) → length a ≡ length c → same (a ++ b) (c ++ d) ≡ same a c && same b d
unfolding same
same-append [] b [] d h = refl
same-append [] b (y ∷ c) d h = absurd (omega arith)
same-append (x ∷ a) b [] d h = absurd (omega arith)
same-append (x ∷ a) b (y ∷ c) d h = rw (same-append a b c d (omega arith)) (sym (and_assoc (eqb x y) (same a c) (same b d)))

same_parts : (k l : List ℕ) (i j m n : ℕ) → i + m ≤ length k → j + m ≤ length l
    → same (part k i (m + n)) (part l j (m + n)) ≡ same (part k i m) (part l j m) && same (part k (i + m) n) (part l (j + m) n)
same_parts k l i j m n hk hl =
    rw (part-split k i m n, part-split l j m n)
    (same-append (part k i m) (part k (i + m) n) (part l j m) (part l (j + m) n) (part_length k i m hk ∙ sym (part_length l j m hl)))

-- twelve bytes, as three numbers
pub three-fours : (k l : List ℕ) → Bytes k → Bytes l → (i j : ℕ) → i + 12 ≤ length k → j + 12 ≤ length l
    → eqb (four_at k i) (four_at l j) && (eqb (four_at k (i + 4)) (four_at l (j + 4)) && eqb (four_at k (i + 8)) (four_at l (j + 8)))
    ≡ same (part k i 12) (part l j 12)
three-fours k l bk bl i j hk hl =
    rw (
      four_same k l bk bl i j (omega arith) (omega arith),
      four_same k l bk bl (i + 4) (j + 4) (omega arith) (omega arith),
      four_same k l bk bl (i + 8) (j + 8) (omega arith) (omega arith),
      same_parts k l i j 4 8 (omega arith) (omega arith),
      same_parts k l (i + 4) (j + 4) 4 4 (omega arith) (omega arith),
      add_assoc i 4 4,
      add_assoc j 4 4,
    )
