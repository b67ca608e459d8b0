-- Laws of texts, which end at a zero, and of names: a good name is what its padded form trims to, and a good field is
-- the padded form of its trimmed name.
use Prim.Native.Nat.{ℕ, zero, suc, ◌+◌, ◌-◌, ◌≤◌, ◌<◌}
use mathlib.Core.Path.{◌≡◌, refl, sym, ap, ◌∙◌, subst}
use mathlib.Core.Bool.{Bool, true, false, ◌&&◌}
use mathlib.Core.List.{List, [], ◌∷◌, ◌++◌, map}
use native.Mathlib.Nat.{not-suc-le-zero, le_of_suc-le-suc, le_refl, min-le_left}
use native.Mathlib.Numerals.{add-one}
use native.Mathlib.Omega.{arith}
use lib.Dec.{eqb, leb}
use lib.ListN.{length, get_or, replicate, take, length-append, length-replicate, length-take}
use lib.Seq.{length-take-le, take-length, take-suc}
use borrow.Author.Tests.{eq-eqb, eqb-true, leb-true, le-leb, ne_eqb}
use Rattle.std.specs.List.{list_all, range_with_len}
use Rattle.buffer.specs.Lists.{all, same}
use Rattle.buffer.proofs.Bools.{and_left, and_right, and_both}
use Rattle.buffer.proofs.FixedWidth.{tab-of}
use Rattle.buffer.proofs.Lists.{same-eq, same_refl}
use Rattle.buffer.proofs.Tables.{tab-range}
use Rattle.disc.specs.Layout.{max_name, name_size}
use Rattle.disc.specs.Name.{good_field, good_name, is_name_byte, padded, trimmed, unless_zero}

-- ---- texts
-- no byte before n is zero, and the one at n is, or there is none
pub trimmed-at : (l : List ℕ) (n : ℕ) → n ≤ length l → get_or l n 0 ≡ 0 → ((k : ℕ) → k < n → get_or l k 0 ≡ 0 → ⊥)
    → trimmed l ≡ take n l
unfolding trimmed
trimmed-at [] zero h e f = refl
trimmed-at [] (suc n) h e f = absurd (not-suc-le-zero h)
trimmed-at (b ∷ l) zero h e f = rw (eq-eqb b 0 e)
trimmed-at (b ∷ l) (suc n) h e f =
    rw (ne_eqb b 0 (f 0 (omega arith)))
    (ap (λ (m : List ℕ). b ∷ m) (trimmed-at l n (le_of_suc-le-suc h) e (λ k g. f (suc k) (omega arith))))

-- bytes and their text by cases: none, a zero first, or a byte of the text first
by-text : (P : List ℕ → List ℕ → Type 0) → P [] [] → ((l : List ℕ) → P (0 ∷ l) [])
    → ((b : ℕ) (l : List ℕ) → P l (trimmed l) → P (b ∷ l) (b ∷ trimmed l)) → (l : List ℕ) → P l (trimmed l)
unfolding trimmed
by-text P none stop more [] = none
by-text P none stop more (b ∷ l) = go (eqb b 0) refl (by-text P none stop more l)
  where
    go : (t : Bool) → eqb b 0 ≡ t → P l (trimmed l) → P (b ∷ l) (unless_zero t b (trimmed l))
    go true e r = subst (λ (x : ℕ). P (x ∷ l) []) (sym (eqb-true b 0 e)) (stop l)
    go false e r = more b l r

pub trimmed-short : (l : List ℕ) → length (trimmed l) ≤ length l
trimmed-short = by-text (λ l t. length t ≤ length l) (omega arith) (λ l. omega arith) (λ b l h. omega arith)

-- the text of bytes that begin with a name's field
pub field-short : (l : List ℕ) → length (trimmed (take name_size l)) ≤ name_size
field-short l = omega (
  arith,
  trimmed-short (take name_size l),
  length-take name_size l,
  min-le_left name_size (length
      l),
)

pub trimmed-first : (l : List ℕ) → take (length (trimmed l)) l ≡ trimmed l
trimmed-first = by-text (λ l t. take (length t) l ≡ t) refl (λ l. refl) (λ b l h. ap (λ (m : List ℕ). b ∷ m) h)

-- how long the text is, as code measures it
pub text-measured : (l : List ℕ) (n : ℕ) → (n ≤ length l) × (take n l ≡ trimmed l) → n ≡ length (trimmed l)
text-measured l n m = sym (length-take-le n l m.0) ∙ ap length m.1

-- behind the text stands a zero, or nothing
pub text-ends : (l : List ℕ) → get_or l (length (trimmed l)) 0 ≡ 0
text-ends = by-text (λ l t. get_or l (length t) 0 ≡ 0) refl (λ l. refl) (λ b l h. h)

-- the text with the zero behind it
pub text-with-zero : (l : List ℕ) → length (trimmed l) < length l → take (length (trimmed l) + 1) l
    ≡ trimmed l ++ (0 ∷ [])
text-with-zero l h = rw (add-one, take-suc l (length (trimmed l)) 0 h, trimmed-first l, text-ends l)

-- ---- good names
pub record GoodName (name : List ℕ) : Type 0 where
  pub some : 1 ≤ length name
  pub short : length name ≤ max_name
  pub bytes : all is_name_byte name ≡ true

pub good-name-is : (name : List ℕ) → good_name name ≡ true → GoodName name
unfolding good_name
good-name-is name e =
    let r = and_right (leb 1 (length name)) (leb (length name) max_name && all is_name_byte name) e in
    record {
      some = leb-true _ _ (and_left (leb 1 (length name)) _ e);
      short = leb-true _ _ (and_left (leb (length name) max_name) _ r);
      bytes = and_right (leb (length name) max_name) _ r;
    }

pub is-good-name : (name : List ℕ) → GoodName name → good_name name ≡ true
unfolding good_name
is-good-name name g = and_both (le-leb _ _ g.some) (and_both (le-leb _ _ g.short) g.bytes)

-- ---- padded names
pub padded-length : (name : List ℕ) → length name ≤ name_size → length (padded name) ≡ name_size
padded-length name h = length-append name (replicate (name_size - length name) 0)
    ∙ ap (λ (k : ℕ). length name + k) (length-replicate (name_size - length name) 0) ∙ omega arith

pub trimmed-zeros : (n : ℕ) → trimmed (replicate n 0) ≡ []
unfolding trimmed
trimmed-zeros zero = refl
trimmed-zeros (suc n) = refl

trimmed-filled : (name : List ℕ) (n : ℕ) → all is_name_byte name ≡ true → trimmed (name ++ replicate n 0) ≡ name
unfolding trimmed all
trimmed-filled [] n e = trimmed-zeros n
trimmed-filled (b ∷ name) n e =
    let low : 33 ≤ b = leb-true _ _ (and_left (leb 33 b) (leb b 126) (and_left (is_name_byte b) (all is_name_byte name)
    e)) in
    let z : eqb b 0 ≡ false = ne_eqb b 0 (omega arith) in
    rw z (ap (λ (l : List ℕ). b ∷ l) (trimmed-filled name n (and_right (is_name_byte b) (all is_name_byte name) e)))

pub trimmed-padded : (name : List ℕ) → good_name name ≡ true → trimmed (padded name) ≡ name
trimmed-padded name g = trimmed-filled name (name_size - length name) (good-name-is name g).bytes

-- two good names that are padded alike are one
pub padded-injective : (a b : List ℕ) → good_name a ≡ true → good_name b ≡ true → padded a ≡ padded b → a ≡ b
padded-injective a b g h e = sym (trimmed-padded a g) ∙ ap trimmed e ∙ trimmed-padded b h

-- ---- good fields
pub padded-good : (name : List ℕ) → good_name name ≡ true → good_field (padded name) ≡ true
unfolding good_field
padded-good name g = rw (trimmed-padded name g) (and_both g (same_refl (padded name)))

pub field-name-good : (field : List ℕ) → good_field field ≡ true → good_name (trimmed field) ≡ true
unfolding good_field
field-name-good field e = and_left (good_name (trimmed field)) (same field (padded (trimmed field))) e

pub field-padded : (field : List ℕ) → good_field field ≡ true → field ≡ padded (trimmed field)
unfolding good_field
field-padded field e = same-eq field (padded (trimmed field))
    (and_right (good_name (trimmed field)) (same field (padded (trimmed field))) e)

pub field-length : (field : List ℕ) → good_field field ≡ true → length field ≡ name_size
field-length field e = ap length (field-padded field e)
    ∙ padded-length (trimmed field) (omega (arith, (good-name-is (trimmed field) (field-name-good field e)).short))

-- ---- a test of each byte by its place, as `all` over a range answers it
all-listed : {A : Type 0} (p : A → Bool) (f : ℕ → A) (l : List ℕ) → list_all (λ k. p (f k)) l ≡ all p (map f l)
unfolding all
all-listed p f [] = refl
all-listed p f (x ∷ l) = ap (λ b. p (f x) && b) (all-listed p f l)

pub all-places : (p : ℕ → Bool) (l : List ℕ) → list_all (λ k. p (get_or l k 0)) (range_with_len 0 (length l)) ≡ all p l
all-places p l =
    all-listed p (λ k. get_or l k 0) (range_with_len 0 (length l))
    ∙ ap (all p) (tab-range (λ k. get_or l k 0) (length l) ∙ tab-of l 0 (λ k. get_or l k 0) (length l) (le_refl (length l)) (λ i h.
    refl) ∙ take-length l)
