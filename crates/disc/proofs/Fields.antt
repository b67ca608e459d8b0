-- A name field tested in one pass: its first byte is not zero, its last one is, and each byte before that is of a name or
-- a zero with another behind it.
use Prim.Native.Nat.{ℕ, zero, suc, ◌+◌, ◌-◌, ◌≤◌, ◌<◌}
use mathlib.Core.Path.{◌≡◌, refl, sym, ap, ◌∙◌, subst}
use mathlib.Core.Bool.{Bool, true, false, ◌&&◌, ◌||◌, not, and_assoc, and-true}
use mathlib.Core.List.{List, [], ◌∷◌}
use mathlib.Core.Logic.{⊎_elim}
use native.Mathlib.Nat.{add_assoc, add-zero, not-suc-le-zero, le_of_suc-le-suc}
use native.Mathlib.Omega.{arith}
use lib.Dec.{eqb, leb, ltb}
use lib.ListN.{length, get_or, replicate, get_or-replicate, get_or-append}
use lib.Seq.{ext_get_or, get_or-append-add, get_or-take}
use borrow.Author.Tests.{eq-eqb, eqb-false, eqb-true, leb-true, ltb-false, ltb-true, ne_eqb, not-true}
use Rattle.buffer.specs.Buffer.{part}
use Rattle.buffer.specs.Lists.{all, same, tab}
use Rattle.buffer.proofs.Bools.{and_left, and_right, and_both, not-is-true}
use Rattle.buffer.proofs.Disjunctions.{or_cases, or-first, or-second}
use Rattle.buffer.proofs.Equivalence.{all-tab-more, both_ways}
use Rattle.buffer.proofs.Fours.{part-spelled}
use Rattle.buffer.proofs.Lists.{all-at, all-each, same_refl, tab-at, tab-length}
use Rattle.buffer.proofs.Tables.{all-tab-at, all-tab-each}
use Rattle.disc.specs.Layout.{max_name, name_size}
use Rattle.disc.specs.Name.{good_field, is_name_byte, padded, trimmed, unless_zero}
use Rattle.disc.proofs.Names.{GoodName, field-name-good, field-padded, good-name-is, is-good-name, padded-length, text-ends}
use Rattle.disc.proofs.Names.{trimmed-first}

-- a byte of a name, or a zero with another behind it
abbrev pub field_byte : ℕ → ℕ → Bool
field_byte b next = (eqb b 0 && eqb next 0) || is_name_byte b

not-zero : (b : ℕ) → is_name_byte b ≡ true → b ≡ 0 → ⊥
not-zero b t e = let l : 33 ≤ b = leb-true 33 b (and_left (leb 33 b) (leb b 126) t) in omega arith

-- no byte of the text is zero
text-nonzero : (l : List ℕ) (k : ℕ) → k < length (trimmed l) → get_or l k 0 ≡ 0 → ⊥
unfolding trimmed
text-nonzero [] k h e = absurd (not-suc-le-zero h)
text-nonzero (b ∷ l) k h e = go (eqb b 0) refl k h e (text-nonzero l)
  where
    go : (t : Bool) → eqb b 0 ≡ t → (k : ℕ) → k < length (unless_zero t b (trimmed l)) → get_or (b ∷ l) k 0 ≡ 0
        → ((j : ℕ) → j < length (trimmed l) → get_or l j 0 ≡ 0 → ⊥) → ⊥
    go true t k h e r = not-suc-le-zero h
    go false t zero h e r = eqb-false b 0 t e
    go false t (suc k) h e r = r k (le_of_suc-le-suc h) e

-- a padded text, byte by byte
module _ (text : List ℕ) where
  inside : (i : ℕ) → i < length text → get_or (padded text) i 0 ≡ get_or text i 0
  inside i h = get_or-append text (replicate (name_size - length text) 0) 0 i h

  behind : (i : ℕ) → length text ≤ i → i < name_size → get_or (padded text) i 0 ≡ 0
  behind i h k =
      let m : length text + (i - length text) ≡ i = omega arith in
      subst (λ (j : ℕ). get_or (padded text) j 0 ≡ 0) m
      (get_or-append-add text (replicate (name_size - length text) 0) (i - length text) 0
      ∙ get_or-replicate (name_size - length text) (i - length text) 0 0 (omega arith))

-- the twelve bytes b 0, b 1, .., and what the pass tests of them
abbrev pub field_of : (ℕ → ℕ) → List ℕ
field_of b = tab b name_size

-- tested as far as the first n
abbrev pub passed_first : (ℕ → ℕ) → ℕ → Bool
passed_first b n = (not (eqb (b 0) 0) && eqb (b max_name) 0) && all (λ i. field_byte (b i) (b (i + 1))) (tab (λ i. i) n)

abbrev pub one_pass : (ℕ → ℕ) → Bool
one_pass b = passed_first b max_name

record OnePass (b : ℕ → ℕ) : Type 0 where
  first : b 0 ≡ 0 → ⊥
  last : b max_name ≡ 0
  each : (i : ℕ) → i < max_name → field_byte (b i) (b (i + 1)) ≡ true

module _ (b : ℕ → ℕ) where
  byte : (i : ℕ) → i < name_size → get_or (field_of b) i 0 ≡ b i
  byte i h = tab-at b name_size i 0 h

  one-pass-is : one_pass b ≡ true → OnePass b
  one-pass-is t =
      let q : Bool = all (λ i. field_byte (b i) (b (i + 1))) (tab (λ i. i) max_name) in
      let e = and_left (not (eqb (b 0) 0) && eqb (b max_name) 0) q t in
      record {
        first = eqb-false _ _ (not-true _ (and_left (not (eqb (b 0) 0)) (eqb (b max_name) 0) e));
        last = eqb-true _ _ (and_right (not (eqb (b 0) 0)) (eqb (b max_name) 0) e);
        each = λ i h. all-tab-at (λ i. i) max_name (λ i. field_byte (b i) (b (i + 1))) i h
            (and_right (not (eqb (b 0) 0) && eqb (b max_name) 0) q t);
      }

  is-one-pass : OnePass b → one_pass b ≡ true
  is-one-pass p =
      and_both (and_both (not-is-true (ne_eqb _ _ p.first)) (eq-eqb _ _ p.last))
      (all-tab-each (λ i. i) max_name (λ i. field_byte (b i) (b (i + 1))) p.each)

-- the text in the field
abbrev text_of : (ℕ → ℕ) → List ℕ
text_of b = trimmed (field_of b)

-- ---- a field that passes is good
module _ (b : ℕ → ℕ) (p : OnePass b) where
  short : length (text_of b) ≤ max_name
  short = go (ltb max_name (length (text_of b))) refl
    where
      go : (t : Bool) → ltb max_name (length (text_of b)) ≡ t → length (text_of b) ≤ max_name
      go true t = absurd (text-nonzero (field_of b) max_name (ltb-true _ _ t) (byte b max_name (omega arith) ∙ p.last))
      go false t = ltb-false _ _ t

  some : 1 ≤ length (text_of b)
  some = go (length (text_of b)) (text-ends (field_of b))
    where
      go : (n : ℕ) → get_or (field_of b) n 0 ≡ 0 → 1 ≤ n
      go zero e = absurd (p.first (sym (byte b 0 (omega arith)) ∙ e))
      go (suc n) e = omega arith

  text-byte : (i : ℕ) → i < length (text_of b) → get_or (text_of b) i 0 ≡ b i
  text-byte i h =
      let m : i < name_size = omega (arith, short) in
      ap (λ (l : List ℕ). get_or l i 0) (sym (trimmed-first (field_of b))) ∙ get_or-take (length (text_of b)) (field_of b) i 0 h
      ∙ byte b i m

  named : (i : ℕ) → i < length (text_of b) → is_name_byte (get_or (text_of b) i 0) ≡ true
  named i h =
      let m : i < max_name = omega (arith, short) in
      rw (text-byte i h)
      (⊎_elim
      (λ e. absurd (text-nonzero (field_of b) i h (byte b i (omega arith) ∙ eqb-true _ _ (and_left (eqb (b i) 0) (eqb (b (i + 1)) 0) e))))
      (λ e. e) (or_cases (eqb (b i) 0 && eqb (b (i + 1)) 0) (is_name_byte (b i)) (p.each i m)))

  -- behind the text stand zeros only
  next-zero : (i : ℕ) → i < max_name → b i ≡ 0 → b (i + 1) ≡ 0
  next-zero i h z =
      ⊎_elim (λ e. eqb-true _ _ (and_right (eqb (b i) 0) (eqb (b (i + 1)) 0) e)) (λ e. absurd (not-zero (b i) e z))
      (or_cases (eqb (b i) 0 && eqb (b (i + 1)) 0) (is_name_byte (b i)) (p.each i h))

  zeros : (m : ℕ) → length (text_of b) + m < name_size → b (length (text_of b) + m) ≡ 0
  zeros zero h = rw add-zero (sym (byte b (length (text_of b)) (omega arith)) ∙ text-ends (field_of b))
  zeros (suc m) h =
      let e : length (text_of b) + m + 1 ≡ length (text_of b) + suc m = omega arith in
      subst (λ (i : ℕ). b i ≡ 0) e (next-zero (length (text_of b) + m) (omega arith) (zeros m (omega arith)))

  filled : field_of b ≡ padded (text_of b)
  filled =
      ext_get_or 0 (field_of b) (padded (text_of b)) (tab-length b name_size ∙ sym (padded-length (text_of b) (omega (arith, short))))
      (λ i h. let m : i < name_size = omega (arith, tab-length b name_size) in byte b i m ∙ sym (go i m (ltb i (length (text_of b))) refl))
    where
      go : (i : ℕ) → i < name_size → (t : Bool) → ltb i (length (text_of b)) ≡ t → get_or (padded (text_of b)) i 0 ≡ b i
      go i m true t = let h = ltb-true _ _ t in inside (text_of b) i h ∙ text-byte i h
      go i m false t =
          let h : length (text_of b) ≤ i = ltb-false _ _ t in
          let e : length (text_of b) + (i - length (text_of b)) ≡ i = omega arith in
          behind (text_of b) i h m ∙ sym (subst (λ (j : ℕ). b j ≡ 0) e (zeros (i - length (text_of b)) (omega arith)))

  passed : good_field (field_of b) ≡ true
  unfolding good_field
  passed =
      and_both (is-good-name (text_of b) (record { some = some; short = short; bytes = all-each is_name_byte (text_of b) 0 named }))
      (subst (λ (l : List ℕ). same (field_of b) l ≡ true) filled (same_refl (field_of b)))

-- ---- a good field passes
module _ (b : ℕ → ℕ) (good : good_field (field_of b) ≡ true) where
  name : GoodName (text_of b)
  name = good-name-is (text_of b) (field-name-good (field_of b) good)

  padded-byte : (i : ℕ) → i < name_size → b i ≡ get_or (padded (text_of b)) i 0
  padded-byte i h = sym (byte b i h) ∙ ap (λ (l : List ℕ). get_or l i 0) (field-padded (field_of b) good)

  name-byte : (i : ℕ) → i < length (text_of b) → is_name_byte (b i) ≡ true
  name-byte i h =
      rw (padded-byte i (omega (arith, name.short)), inside (text_of b) i h) (all-at is_name_byte (text_of b) i 0 h name.bytes)

  zero-byte : (i : ℕ) → length (text_of b) ≤ i → i < name_size → b i ≡ 0
  zero-byte i h k = padded-byte i k ∙ behind (text_of b) i h k

  passes : OnePass b
  passes = record {
    first = not-zero (b 0) (name-byte 0 name.some);
    last = zero-byte max_name name.short (omega arith);
    each = λ i h. go i h (ltb i (length (text_of b))) refl;
  }
    where
      go : (i : ℕ) → i < max_name → (t : Bool) → ltb i (length (text_of b)) ≡ t → field_byte (b i) (b (i + 1)) ≡ true
      go i h true t = or-second (eqb (b i) 0 && eqb (b (i + 1)) 0) (name-byte i (ltb-true _ _ t))
      go i h false t =
          let l : length (text_of b) ≤ i = ltb-false _ _ t in
          or-first (is_name_byte (b i))
          (and_both (eq-eqb _ _ (zero-byte i l (omega arith))) (eq-eqb _ _ (zero-byte (i + 1) (omega arith) (omega arith))))

pub one-pass-good : (b : ℕ → ℕ) → one_pass b ≡ good_field (field_of b)
one-pass-good b =
    both_ways (one_pass b) (good_field (field_of b)) (λ t. passed b (one-pass-is b t)) (λ t. is-one-pass b (passes b t))

-- ---- the pass in the disc's bytes
abbrev pub byte_from : List ℕ → ℕ → ℕ → ℕ
byte_from disc at i = get_or disc (at + i) 0

module _ (disc : List ℕ) (at : ℕ) where
  pub pass-begins : not (eqb (get_or disc at 0) 0) && eqb (get_or disc (at + max_name) 0) 0 ≡ passed_first (byte_from disc at) 0
  unfolding all tab
  pass-begins =
      rw add-zero (sym (and-true (not (eqb (get_or disc at 0) 0) && eqb (get_or disc (at + max_name) 0) 0)))

  pub pass-more : (n : ℕ) (x y : Bool) → x ≡ passed_first (byte_from disc at) n
      → y ≡ field_byte (get_or disc (at + n) 0) (get_or disc (at + n + 1) 0) → x && y ≡ passed_first (byte_from disc at) (n + 1)
  pass-more n x y p q =
      let test : ℕ → Bool = λ i. field_byte (byte_from disc at i) (byte_from disc at (i + 1)) in
      let ends = not (eqb (byte_from disc at 0) 0) && eqb (byte_from disc at max_name) 0 in
      rw (p, q, add_assoc at n 1, all-tab-more test (λ i. i) n) (and_assoc ends (all test (tab (λ i. i) n)) (test n))

  pub pass-ends : at + name_size ≤ length disc → (n : ℕ) (x : Bool) → n ≡ max_name → x ≡ passed_first (byte_from disc at) n
      → x ≡ good_field (part disc at name_size)
  pass-ends h n x q p =
      subst (λ (m : ℕ). x ≡ passed_first (byte_from disc at) m) q p ∙ one-pass-good (byte_from disc at)
      ∙ ap good_field (sym (part-spelled disc at name_size h))
