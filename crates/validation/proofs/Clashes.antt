-- Variables by columns: two clash in the columns where they are not beside each other, and no place behind the last one
-- clashes with any.
use Prim.Native.Nat.{ℕ, ◌+◌, ◌*◌, ◌-◌, ◌≤◌, ◌<◌}
use mathlib.Core.Path.{◌≡◌, refl, sym, ◌∙◌, subst}
use mathlib.Core.Bool.{Bool, true, false, ◌&&◌, ◌||◌, cond, not, and-false}
use mathlib.Core.List.{List}
use native.Mathlib.Omega.{arith}
use native.Mathlib.Nat.{add_assoc}
use lib.Dec.{eqb, leb, ltb}
use lib.ListN.{length, get_or, replicate, get_or-replicate}
use borrow.Author.Tests.{eqb-false, eqb-true, leb-true, lt-leb, le-leb, le-ltb, ltb-false, ltb-true, ne_eqb, not-false, not-true}
use Rattle.buffer.specs.Buffer.{overwrite, part, word_at}
use Rattle.buffer.specs.Lists.{any, pairs, tab}
use Rattle.buffer.proofs.Bools.{not-true-is-false, true-not-false}
use Rattle.buffer.proofs.Buffer.{overwrite-length}
use Rattle.buffer.proofs.Equivalence.{both_ways}
use Rattle.buffer.proofs.Fours.{Bytes}
use Rattle.buffer.proofs.Lists.{pairs-each, tab-at, tab-length}
use Rattle.buffer.proofs.Parts.{part-byte}
use Rattle.buffer.proofs.Tables.{pairs-tab-at}
use Rattle.place.specs.Place.{apart}
use Rattle.variable.specs.Good.{beside}
use Rattle.variable.specs.Limits.{entries_at, entry_size, max_variables}
use Rattle.variable.specs.declared.Variable.{Variable}
use Rattle.validation.specs.Columns.{bytes_of, clash, ends_of, few, firsts, places, reach, words_of}
use Rattle.validation.proofs.Columns.{column-at, column-behind}
use Rattle.validation.proofs.Files.{SomeAt, any-tab-at, any-tab-is}
use Rattle.variable.specs.Bytes.{variable_in}

-- ---- the columns
abbrev pub start_column : List ℕ → ℕ → List ℕ
start_column area count = overwrite (replicate places 65535) 0 (bytes_of area 2 count)

abbrev pub end_column : List ℕ → ℕ → List ℕ
end_column area count = overwrite (replicate places 0) 0 (ends_of area count)

abbrev pub name_column : List ℕ → ℕ → List ℕ
name_column area count = overwrite (tab (λ i. 256 + i) places) 0 (bytes_of area 0 count)

abbrev pub owner_column : List ℕ → ℕ → List ℕ
owner_column area count = overwrite (replicate places 0) 0 (words_of area 4 count)

-- two that stand so in the columns
abbrev pub clash_in : List ℕ → ℕ → ℕ → ℕ → Bool
clash_in area count = clash (start_column area count) (end_column area count) (name_column area count) (owner_column area count)

abbrev pub clash_by : List ℕ → ℕ → ℕ → Bool
clash_by area count d = any (λ i. clash_in area count i (i + d)) (tab (λ i. i) firsts)

-- less than, and not at least
less-not : (a b : ℕ) → ltb a b ≡ not (leb b a)
less-not a b = go (ltb a b) refl
  where
    go : (t : Bool) → ltb a b ≡ t → t ≡ not (leb b a)
    go true t = rw (lt-leb b a (ltb-true a b t))
    go false t = rw (le-leb b a (ltb-false a b t))

not-beside : (d e : Variable) → (ltb d.address (e.address + e.size) && ltb e.address (d.address + d.size))
    || (eqb d.name e.name && eqb d.owner e.owner) ≡ not (beside d e)
unfolding beside apart
not-beside d e =
    rw (less-not d.address (e.address + e.size), less-not e.address (d.address + d.size))
    (go (leb (d.address + d.size) e.address) (leb (e.address + e.size) d.address) (eqb d.name e.name
    && eqb d.owner e.owner))
  where
    go : (a b c : Bool) → (not b && not a) || c ≡ not ((a || b) && not c)
    go true true true = refl
    go true true false = refl
    go true false true = refl
    go true false false = refl
    go false true true = refl
    go false true false = refl
    go false false true = refl
    go false false false = refl

pub word_of_part : (l : List ℕ) (at n i : ℕ) → i + 1 < n → word_at (part l at n) i ≡ word_at l (at + i)
word_of_part l at n i h = rw (part-byte l at n i (omega arith), part-byte l at n (i + 1) h, ← add_assoc at i 1)

-- every two of a table
pairs-tab-each : {A : Type 0} (r : A → A → Bool) (f : ℕ → A) (n : ℕ) → ((i j : ℕ) → i < j → j < n → r (f i) (f j) ≡ true)
    → pairs r (tab f n) ≡ true
pairs-tab-each r f n h =
    pairs-each r (tab f n) (f 0)
    (λ i j l k.
    let m : j < n = omega (arith, tab-length f n) in
    rw (tab-at f n i (f 0) (omega arith), tab-at f n j (f 0) m) (h i j l m))

any-tab-false : {A : Type 0} (p : A → Bool) (f : ℕ → A) (n : ℕ) → any p (tab f n) ≡ false → (i : ℕ) → i < n → p (f i) ≡ false
any-tab-false p f n e i h = not-true-is-false (p (f i)) (λ t. true-not-false (any-tab-at p f n i h t) e)

module _ (area : List ℕ) (count : ℕ) (fits : count ≤ max_variables) where
  -- ---- what stands in the columns
  module _ (i : ℕ) (h : i < count) where
    start-at : get_or (start_column area count) i 0 ≡ (variable_in area i).address
    start-at =
        column-at (replicate places 65535) (λ i. get_or area (entries_at + i * entry_size + 2) 0) count (omega arith) i h
        ∙ sym (part-byte area (entries_at + i * entry_size) entry_size 2 (omega arith))

    end-at : get_or (end_column area count) i 0 ≡ (variable_in area i).address + (variable_in area i).size
    end-at = column-at (replicate places 0) (λ i. (variable_in area i).address + (variable_in area i).size) count (omega arith) i h

    name-at : get_or (name_column area count) i 0 ≡ (variable_in area i).name
    name-at =
        column-at (tab (λ i. 256 + i) places) (λ i. get_or area (entries_at + i * entry_size + 0) 0) count
        (omega (arith, tab-length (λ i. 256 + i) places)) i h
        ∙ sym (part-byte area (entries_at + i * entry_size) entry_size 0 (omega arith))

    owner_at : get_or (owner_column area count) i 0 ≡ (variable_in area i).owner
    owner_at =
        column-at (replicate places 0) (λ i. word_at area (entries_at + i * entry_size + 4)) count (omega arith) i h
        ∙ sym (word_of_part area (entries_at + i * entry_size) entry_size 4 (omega arith))

  -- behind the last variable
  module _ (i : ℕ) (h : count ≤ i) (k : i < places) where
    start-behind : get_or (start_column area count) i 0 ≡ 65535
    start-behind =
        column-behind (replicate places 65535) (λ i. get_or area (entries_at + i * entry_size + 2) 0) count (omega arith) i h
        ∙ get_or-replicate places i 65535 0 k

    end-behind : get_or (end_column area count) i 0 ≡ 0
    end-behind =
        column-behind (replicate places 0) (λ i. (variable_in area i).address + (variable_in area i).size) count (omega arith) i h
        ∙ get_or-replicate places i 0 0 k

    name-behind : get_or (name_column area count) i 0 ≡ 256 + i
    name-behind =
        column-behind (tab (λ i. 256 + i) places) (λ i. get_or area (entries_at + i * entry_size + 0) 0) count
        (omega (arith, tab-length (λ i. 256 + i) places)) i h
        ∙ tab-at (λ i. 256 + i) places i 0 k

  -- ---- two variables
  clash-is : (i j : ℕ) → i < count → j < count → clash_in area count i j ≡ not (beside (variable_in area i) (variable_in area j))
  unfolding clash
  clash-is i j h k =
      rw (start-at i h, start-at j k, end-at i h, end-at j k, name-at i h, name-at j k, owner_at i h, owner_at j k)
      (not-beside (variable_in area i) (variable_in area j))

  -- ---- a place behind the last variable, against an earlier one
  module _ (bytes : Bytes area) where
    end_low : (i : ℕ) → i < places → get_or (end_column area count) i 0 ≤ 65535
    end_low i k = go (ltb i count) refl
      where
        go : (t : Bool) → ltb i count ≡ t → get_or (end_column area count) i 0 ≤ 65535
        go true t =
            let h : i < count = ltb-true i count t in
            let a = part-byte area (entries_at + i * entry_size) entry_size 2 (omega arith) in
            let b = part-byte area (entries_at + i * entry_size) entry_size 3 (omega arith) in
            omega (arith, end-at i h, bytes (entries_at + i * entry_size + 2), bytes (entries_at + i * entry_size + 3))
        go false t = omega (arith, end-behind i (ltb-false i count t) k)

    name-other : (i j : ℕ) → i < j → j < places → count ≤ j → get_or (name_column area count) i 0 ≡ get_or (name_column area count) j 0 → ⊥
    name-other i j l k h e = go (ltb i count) refl
      where
        go : (t : Bool) → ltb i count ≡ t → ⊥
        go true t =
            let h' : i < count = ltb-true i count t in
            let a = part-byte area (entries_at + i * entry_size) entry_size 0 (omega arith) in
            omega (arith, name-at i h', name-behind j h k, bytes (entries_at + i * entry_size + 0))
        go false t = omega (arith, name-behind i (ltb-false i count t) (omega arith), name-behind j h k)

    none-behind : (i j : ℕ) → i < j → j < places → count ≤ j → clash_in area count i j ≡ false
    unfolding clash
    none-behind i j l k h =
        rw (
          le-ltb (get_or (start_column area count) j 0) (get_or (end_column area count) i 0)
              (omega (arith, start-behind j h k, end_low i (omega arith))),
          and-false (ltb (get_or (start_column area count) i 0) (get_or (end_column area count) j 0)),
          ne_eqb _ _ (name-other i j l k h),
        )

    -- ---- the places behind the last variable may be left out
    module _ (d : ℕ) (l : 1 ≤ d) (m : d < count) where
      abbrev test : ℕ → Bool
      test i = clash_in area count i (i + d)

      enough : (n : ℕ) → n ≤ firsts → count ≤ n + d → any test (tab (λ i. i) n) ≡ clash_by area count d
      enough n h k = both_ways (any test (tab (λ i. i) n)) (clash_by area count d) more less
        where
          more : any test (tab (λ i. i) n) ≡ true → clash_by area count d ≡ true
          more t =
              let s = any-tab-is test (λ i. i) n t in
              let x = s.inside in
              any-tab-at test (λ i. i) firsts s.place (omega arith) s.holds

          less : clash_by area count d ≡ true → any test (tab (λ i. i) n) ≡ true
          less t = go (any-tab-is test (λ i. i) firsts t)
            where
              go : SomeAt test (λ i. i) firsts → any test (tab (λ i. i) n) ≡ true
              go s = other (ltb s.place n) refl
                where
                  other : (b : Bool) → ltb s.place n ≡ b → any test (tab (λ i. i) n) ≡ true
                  other true b = any-tab-at test (λ i. i) n s.place (ltb-true _ _ b) s.holds
                  other false b =
                      let x = s.inside in
                      let y : n ≤ s.place = ltb-false _ _ b in
                      absurd (true-not-false s.holds (none-behind s.place (s.place + d) (omega arith) (omega arith) (omega arith)))

      pub reach-enough : any test (tab (λ i. i) (reach (count - d))) ≡ clash_by area count d
      unfolding reach
      reach-enough = go (leb (count - d) few) refl
        where
          go : (b : Bool) → leb (count - d) few ≡ b → any test (tab (λ i. i) (cond b few firsts)) ≡ clash_by area count d
          go true b = let h : count - d ≤ few = leb-true _ _ b in enough few (omega arith) (omega arith)
          go false b = enough firsts (omega arith) (omega arith)

    -- ---- every two
    pub clash-stops : (d : ℕ) → 1 ≤ d → d < count → clash_by area count d ≡ true → pairs beside (tab (variable_in area) count) ≡ false
    clash-stops d l m t = go (any-tab-is (λ i. clash_in area count i (i + d)) (λ i. i) firsts t)
      where
        go : SomeAt (λ i. clash_in area count i (i + d)) (λ i. i) firsts → pairs beside (tab (variable_in area) count) ≡ false
        go s = other (ltb (s.place + d) count) refl
          where
            other : (b : Bool) → ltb (s.place + d) count ≡ b → pairs beside (tab (variable_in area) count) ≡ false
            other true b =
                let k : s.place + d < count = ltb-true _ _ b in
                let i = s.place in
                let n : beside (variable_in area i) (variable_in area (i + d)) ≡ false =
                not-true _ (sym (clash-is i (i + d) (omega arith) k) ∙ s.holds) in
                not-true-is-false (pairs beside (tab (variable_in area) count))
                (λ p. true-not-false (pairs-tab-at (variable_in area) count beside i (i + d) (omega arith) k p) n)
            other false b =
                let k : count ≤ s.place + d = ltb-false _ _ b in
                let x = s.inside in
                absurd (true-not-false s.holds (none-behind s.place (s.place + d) (omega arith) (omega arith) k))

  pub clash-none : ((d : ℕ) → 1 ≤ d → d < count → clash_by area count d ≡ false) → pairs beside (tab (variable_in area) count) ≡ true
  clash-none none = pairs-tab-each beside (variable_in area) count each
    where
      each : (i j : ℕ) → i < j → j < count → beside (variable_in area i) (variable_in area j) ≡ true
      each i j l k =
          let e : i + (j - i) ≡ j = omega arith in
          not-false _ (sym (clash-is i j (omega arith) k)
          ∙ subst (λ (n : ℕ). clash_in area count i n ≡ false) e
          (any-tab-false (λ k. clash_in area count k (k + (j - i))) (λ k. k) firsts (none (j - i) (omega arith) (omega arith)) i
          (omega arith)))

-- ---- the loop over the distances
module _ (area : List ℕ) (count : ℕ) where
  pub clash-in-columns : (s e n o : List ℕ) → s ≡ start_column area count → e ≡ end_column area count → n ≡ name_column area count
      → o ≡ owner_column area count → (d m : ℕ)
      → any (λ i. clash s e n o i (i + d)) (tab (λ i. i) m) ≡ any (λ i. clash_in area count i (i + d)) (tab (λ i. i) m)
  clash-in-columns s e n o p q r t d m = rw (p, q, r, t)

  pub clash-next : (d : ℕ) → ((k : ℕ) → 1 ≤ k → k < d → clash_by area count k ≡ false) → clash_by area count d ≡ false
      → (k : ℕ) → 1 ≤ k → k < d + 1 → clash_by area count k ≡ false
  clash-next d h e k l m = go (eqb k d) refl
    where
      go : (t : Bool) → eqb k d ≡ t → clash_by area count k ≡ false
      go true t = rw (eqb-true k d t) e
      go false t = let n = eqb-false k d t in h k l (omega arith)

  pub owner-column-length : count ≤ max_variables → length (owner_column area count) ≡ places
  owner-column-length h =
      let n = tab-length (λ i. word_at area (entries_at + i * entry_size + 4)) count in
      overwrite-length (replicate places 0) (words_of area 4 count) 0 (omega arith)
