-- Files found by their start and length as one number.
use Rattle.std.specs.Prelude.{None, Option, Some, is_some}
use Prim.Native.Nat.{ℕ, ◌+◌, ◌*◌, ◌≤◌, ◌<◌}
use mathlib.Core.Path.{◌≡◌, refl, sym, ap, ◌∙◌, subst}
use mathlib.Core.Bool.{Bool, true, false, ◌&&◌, and-false}
use mathlib.Core.List.{List}
use native.Mathlib.Omega.{arith}
use lib.Dec.{eqb, leb, ltb}
use lib.ListN.{length, get_or, replicate, get_or-replicate}
use borrow.Author.Tests.{eq-eqb, eqb-false, eqb-true, lt-leb, ltb-false, ltb-true, ne_eqb}
use Rattle.buffer.specs.Buffer.{four_at, word_at}
use Rattle.buffer.specs.Lists.{any, tab}
use Rattle.buffer.proofs.Bools.{and_both, and_left, and_right, not-true-is-false, true-not-false}
use Rattle.buffer.proofs.Disjunctions.{any-is}
use Rattle.buffer.proofs.Equivalence.{both_ways}
use Rattle.buffer.proofs.Fours.{Bytes, four-words}
use Rattle.buffer.proofs.Kept.{any_at}
use Rattle.buffer.proofs.Lists.{tab-at, tab-length}
use Rattle.place.specs.Place.{apart}
use Rattle.place.specs.declared.Run.{Run}
use Rattle.disc.specs.Directory.{entry_at, file_count, files, run_of}
use Rattle.disc.specs.Layout.{entry_size, max_files, name_size}
use Rattle.disc.specs.declared.Entry.{Entry}
use Rattle.disc.proofs.Goodness.{GoodEntry, beside_at, good-entry-at}
use Rattle.disc.proofs.InPlace.{run-in-place}
use Rattle.validation.specs.Columns.{FileOf, Listed, file_runs}
use Rattle.validation.proofs.Columns.{column-at, column-behind}

-- ---- some element of a table
module _ {A : Type 0} (p : A → Bool) (f : ℕ → A) (n : ℕ) where
  pub any-tab-at : (i : ℕ) → i < n → p (f i) ≡ true → any p (tab f n) ≡ true
  any-tab-at i h e =
      any_at p (tab f n) i (f i) (subst (λ (k : ℕ). i < k) (sym (tab-length f n)) h) (rw (tab-at f n i (f i) h) e)

  pub record SomeAt : Type 0 where
    pub place : ℕ
    pub inside : place < n
    pub holds : p (f place) ≡ true

  pub any-tab-is : any p (tab f n) ≡ true → SomeAt
  any-tab-is t =
      let s = any-is p (f 0) (tab f n) t in
      let h : s.place < n = subst (λ (k : ℕ). s.place < k) (tab-length f n) s.inside in
      record { place = s.place; inside = h; holds = subst (λ (x : A). p x ≡ true) (tab-at f n s.place (f 0) h) s.holds }

  pub any-tab-none : ((i : ℕ) → i < n → p (f i) ≡ false) → any p (tab f n) ≡ false
  any-tab-none h = not-true-is-false (any p (tab f n)) (λ t. let s = any-tab-is t in true-not-false s.holds (h s.place s.inside))

-- ---- the column of runs
module _ (disc runs : List ℕ) (listed : Listed disc runs) where
  few : file_count disc ≤ max_files
  few = listed.readable.few

  run_at : (i : ℕ) → i < file_count disc → get_or runs i 0 ≡ four_at disc (i * entry_size + name_size)
  unfolding file_runs
  run_at i h =
      ap (λ (l : List ℕ). get_or l i 0) listed.each
      ∙ column-at (replicate max_files 0) (λ i. four_at disc (i * entry_size + name_size)) (file_count disc) few i h

  run-behind : (i : ℕ) → file_count disc ≤ i → i < max_files → get_or runs i 0 ≡ 0
  unfolding file_runs
  run-behind i h k =
      ap (λ (l : List ℕ). get_or l i 0) listed.each
      ∙ column-behind (replicate max_files 0) (λ i. four_at disc (i * entry_size + name_size)) (file_count disc) few i h
      ∙ get_or-replicate max_files i 0 0 k

-- two runs that begin at the same byte are not apart
same_start : (u v : Run) → u.start ≡ v.start → 1 ≤ u.len → 1 ≤ v.len → apart u v ≡ true → ⊥
unfolding apart
same_start u v e h k t =
    let a : leb (u.start + u.len) v.start ≡ false = lt-leb (u.start + u.len) v.start (omega arith) in
    let b : leb (v.start + v.len) u.start ≡ false = lt-leb (v.start + v.len) u.start (omega arith) in
    true-not-false t (rw (a, b))

-- ---- two fields of some bytes, start and length, and the files of that run
abbrev pub of_run : List ℕ → ℕ → Entry → Bool
of_run bytes at e = eqb (word_at bytes at) e.start && eqb (word_at bytes (at + 2)) e.len

module _ (disc runs : List ℕ) (listed : Listed disc runs) (bd : Bytes disc) (bytes : List ℕ) (bb : Bytes bytes) (at : ℕ) where
  -- the numbers are equal where the fields are
  number-of-run : (i : ℕ) → i < file_count disc
      → eqb (four_at bytes at) (four_at disc (i * entry_size + name_size)) ≡ of_run bytes at (entry_at disc i)
  number-of-run i h =
      let r = listed.readable in
      let e = run-in-place disc i r.low (omega (arith, r.few)) (word_at disc (i * entry_size + name_size))
      (word_at disc (i * entry_size + name_size + 2)) refl refl in
      four-words bytes disc bb bd at (i * entry_size + name_size)
      ∙ ap (λ (u : Run). eqb (word_at bytes at) u.start && eqb (word_at bytes (at + 2)) u.len) e

  -- a file of the directory, at most one
  good : (i : ℕ) → i < file_count disc → GoodEntry (length disc) (entry_at disc i)
  good i h = good-entry-at disc listed.sound i h

  one-of-run : (i j : ℕ) → i < file_count disc → j < file_count disc → of_run bytes at (entry_at disc i) ≡ true
      → of_run bytes at (entry_at disc j) ≡ true → i ≡ j
  one-of-run i j h k p q = go (eqb i j) refl
    where
      start : (n : ℕ) → of_run bytes at (entry_at disc n) ≡ true → word_at bytes at ≡ (entry_at disc n).start
      start n t = eqb-true _ _
          (and_left (eqb (word_at bytes at) (entry_at disc n).start) (eqb (word_at bytes (at + 2)) (entry_at disc n).len) t)

      go : (t : Bool) → eqb i j ≡ t → i ≡ j
      go true t = eqb-true i j t
      go false t =
          absurd (same_start (run_of (entry_at disc i)) (run_of (entry_at disc j)) (sym (start i p)
          ∙ start j q) (good i h).some (good j k).some
          (beside_at disc listed.sound i j h k (eqb-false i j t)).clear)

  module _ (found : Option ℕ) (sought : FileOf runs (four_at bytes at) found) where
    found_inside : (four_at bytes at ≡ 0 → ⊥) → (file : ℕ) → found ≡ Some file → file < file_count disc
    found_inside n file h = go (ltb file (file_count disc)) refl
      where
        go : (t : Bool) → ltb file (file_count disc) ≡ t → file < file_count disc
        go true t = ltb-true _ _ t
        go false t =
            let s = sought.found file h in absurd (n (sym s.1 ∙ run-behind disc runs listed file (ltb-false _ _ t) s.0))

    found-run : (file : ℕ) → found ≡ Some file → file < file_count disc → of_run bytes at (entry_at disc file) ≡ true
    found-run file h k = sym (number-of-run file k) ∙ eq-eqb _ _ (sym (sought.found file h).1 ∙ run_at disc runs listed file k)

    missed-run : found ≡ None → (i : ℕ) → i < file_count disc → of_run bytes at (entry_at disc i) ≡ false
    missed-run h i k =
        sym (number-of-run i k)
        ∙ ne_eqb _ _ (λ e. sought.missed h i (omega (arith, listed.readable.few)) (run_at disc runs listed i k ∙ sym e))

    -- ---- a further test of the file of that run
    module _ (q : Entry → Bool) where
      pub missed-any : found ≡ None → any (λ e. q e && of_run bytes at e) (files disc) ≡ false
      missed-any h =
          any-tab-none (λ e. q e && of_run bytes at e) (entry_at disc) (file_count disc)
          (λ i k. rw (missed-run h i k) (and-false (q (entry_at disc i))))

      pub found-any : (four_at bytes at ≡ 0 → ⊥) → (file : ℕ) → found ≡ Some file
          → q (entry_at disc file) ≡ any (λ e. q e && of_run bytes at e) (files disc)
      found-any n file h =
          both_ways (q (entry_at disc file)) (any (λ e. q e && of_run bytes at e) (files disc))
          (λ t. any-tab-at (λ e. q e && of_run bytes at e) (entry_at disc) (file_count disc) file k (and_both t (found-run file h k)))
          (λ t. of-found (any-tab-is (λ e. q e && of_run bytes at e) (entry_at disc) (file_count disc) t))
        where
          k : file < file_count disc
          k = found_inside n file h

          of-found : SomeAt (λ e. q e && of_run bytes at e) (entry_at disc) (file_count disc) → q (entry_at disc file) ≡ true
          of-found s =
              let e = entry_at disc s.place in
              let w = one-of-run s.place file s.inside k (and_right (q e) (of_run bytes at e) s.holds) (found-run file h k) in
              subst (λ (i : ℕ). q (entry_at disc i) ≡ true) w (and_left (q e) (of_run bytes at e) s.holds)

  -- no file is empty
  pub empty-any : (q : Entry → Bool) → four_at bytes at ≡ 0 → any (λ e. q e && of_run bytes at e) (files disc) ≡ false
  unfolding four_at
  empty-any q z =
      any-tab-none (λ e. q e && of_run bytes at e) (entry_at disc) (file_count disc)
      (λ i k. rw (len i k, and-false (eqb (word_at bytes at) (entry_at disc i).start)) (and-false (q (entry_at disc i))))
    where
      len : (i : ℕ) → i < file_count disc → eqb (word_at bytes (at + 2)) (entry_at disc i).len ≡ false
      len i k =
          let l : word_at bytes at + word_at bytes (at + 2) * 65536 ≡ 0 = z in
          let g : 1 ≤ (entry_at disc i).len = (good i k).some in
          ne_eqb (word_at bytes (at + 2)) (entry_at disc i).len (λ e. omega arith)

  -- a run that is not empty is that of a file where the search finds one
  pub open-listed : (found : Option ℕ) → FileOf runs (four_at bytes at) found → (word_at bytes (at + 2) ≡ 0 → ⊥)
      → is_some found ≡ any (of_run bytes at) (files disc)
  unfolding four_at
  open-listed found s n = go found refl
    where
      some : four_at bytes at ≡ 0 → ⊥
      some z = let l : word_at bytes at + word_at bytes (at + 2) * 65536 ≡ 0 = z in n (omega arith)

      go : (f : Option ℕ) → found ≡ f → is_some f ≡ any (of_run bytes at) (files disc)
      go (Some i) t = found-any found s (λ e. true) some i t
      go None t = sym (missed-any found s (λ e. true) t)
