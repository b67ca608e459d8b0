-- Good entries, files and discs as facts: laws out of the tests, and laws into them.
use Prim.Native.Nat.{ℕ, ◌+◌, ◌≤◌, ◌<◌}
use mathlib.Core.Path.{◌≡◌, refl, sym, ◌∙◌, subst}
use mathlib.Core.Logic.{⊎_elim}
use mathlib.Core.Bool.{Bool, true, false, ◌&&◌, not}
use mathlib.Core.List.{List, [], ◌∷◌, ◌++◌}
use native.Mathlib.Nat.{eq-or-lt_of_le}
use lib.Dec.{eqb, leb, ltb}
use lib.ListN.{length}
use borrow.Author.Tests.{eqb-false, eqb-true, leb-true, le-leb, ltb-false, ltb-true, not-true}
use Rattle.buffer.specs.Lists.{all, pairs, same, without}
use Rattle.buffer.proofs.Bools.{and_left, and_right, and_both, not-is-true, true-not-false}
use Rattle.buffer.proofs.Lists.{all_snoc, all_without, pairs-snoc, pairs-without, same-differ, same_refl}
use Rattle.buffer.proofs.Tables.{all-tab-at, pairs-tab-at}
use Rattle.place.specs.Place.{apart}
use Rattle.place.proofs.Place.{apart-sym}
use Rattle.disc.specs.Directory.{beside, entry_at, file_count, files, good_disc, good_entry, good_files, run_of}
use Rattle.disc.specs.Layout.{data_start, max_files}
use Rattle.disc.specs.Name.{good_field}
use Rattle.disc.specs.declared.Entry.{Entry}

-- ---- one entry
pub record GoodEntry (end : ℕ) (e : Entry) : Type 0 where
  pub field : good_field e.name ≡ true
  pub some : 1 ≤ e.len
  pub low : data_start ≤ e.start
  pub high : e.start + e.len ≤ end

pub good-entry-is : (end : ℕ) (e : Entry) → good_entry end e ≡ true → GoodEntry end e
unfolding good_entry
good-entry-is end e t =
    let r = and_right (good_field e.name) (leb 1 e.len && (leb data_start e.start && leb (e.start + e.len) end)) t in
    let s = and_right (leb 1 e.len) (leb data_start e.start && leb (e.start + e.len) end) r in
    record {
      field = and_left (good_field e.name) _ t;
      some = leb-true _ _ (and_left (leb 1 e.len) _ r);
      low = leb-true _ _ (and_left (leb data_start e.start) _ s);
      high = leb-true _ _ (and_right (leb data_start e.start) _ s);
    }

pub is-good-entry : (end : ℕ) (e : Entry) → GoodEntry end e → good_entry end e ≡ true
unfolding good_entry
is-good-entry end e g = and_both g.field (and_both (le-leb _ _ g.some) (and_both (le-leb _ _ g.low) (le-leb _ _ g.high)))

-- ---- two entries
pub record Beside (d e : Entry) : Type 0 where
  pub differ : d.name ≡ e.name → ⊥
  pub clear : apart (run_of d) (run_of e) ≡ true

pub beside-is : (d e : Entry) → beside d e ≡ true → Beside d e
unfolding beside
beside-is d e t =
    let other : same d.name e.name ≡ false = not-true _ (and_left (not (same d.name e.name)) (apart (run_of d) (run_of e)) t) in
    record {
      differ = λ q. true-not-false (subst (λ (l : List ℕ). same d.name l ≡ true) q (same_refl d.name)) other;
      clear = and_right (not (same d.name e.name)) (apart (run_of d) (run_of e)) t;
    }

pub is-beside : (d e : Entry) → Beside d e → beside d e ≡ true
unfolding beside
is-beside d e b = and_both (not-is-true (same-differ d.name e.name b.differ)) b.clear

pub beside-sym : (d e : Entry) → Beside d e → Beside e d
beside-sym d e b = record { differ = λ q. b.differ (sym q); clear = apart-sym (run_of d) (run_of e) b.clear }

-- ---- all files
pub record GoodFiles (end : ℕ) (es : List Entry) : Type 0 where
  pub each : all (good_entry end) es ≡ true
  pub between : pairs beside es ≡ true

pub good-files-is : (end : ℕ) (es : List Entry) → good_files end es ≡ true → GoodFiles end es
unfolding good_files
good-files-is end es t =
    record {
      each = and_left (all (good_entry end) es) (pairs beside es) t;
      between = and_right (all (good_entry end) es) (pairs beside es) t;
    }

pub is-good-files : (end : ℕ) (es : List Entry) → GoodFiles end es → good_files end es ≡ true
unfolding good_files
is-good-files end es g = and_both g.each g.between

-- one more file, and one less
pub good-files-more : (end : ℕ) (es : List Entry) (e : Entry) → good_files end es ≡ true → good_entry end e ≡ true
    → all (λ d. beside d e) es ≡ true → good_files end (es ++ (e ∷ [])) ≡ true
good-files-more end es e t g b =
    let f = good-files-is end es t in
    is-good-files end (es ++ (e ∷ []))
    (record { each = all_snoc (good_entry end) es e ∙ and_both f.each g; between = pairs-snoc beside es e ∙ and_both f.between b })

pub good-files-less : (end : ℕ) (es : List Entry) (i : ℕ) → good_files end es ≡ true → good_files end (without i es) ≡ true
good-files-less end es i t =
    let f = good-files-is end es t in
    is-good-files end (without i es)
    (record { each = all_without (good_entry end) es i f.each; between = pairs-without beside es i f.between })

-- ---- the disc
pub record GoodDisc (disc : List ℕ) : Type 0 where
  pub few : file_count disc ≤ max_files
  pub entries : good_files (length disc) (files disc) ≡ true

pub good-disc-is : (disc : List ℕ) → good_disc disc ≡ true → GoodDisc disc
unfolding good_disc
good-disc-is disc t =
    record {
      few = leb-true _ _ (and_left (leb (file_count disc) max_files) (good_files (length disc) (files disc)) t);
      entries = and_right (leb (file_count disc) max_files) (good_files (length disc) (files disc)) t;
    }

pub is-good-disc : (disc : List ℕ) → GoodDisc disc → good_disc disc ≡ true
unfolding good_disc
is-good-disc disc g = and_both (le-leb _ _ g.few) g.entries

module _ (disc : List ℕ) (good : good_disc disc ≡ true) where
  facts : GoodFiles (length disc) (files disc)
  facts = good-files-is (length disc) (files disc) (good-disc-is disc good).entries

  pub good-entry-at : (i : ℕ) → i < file_count disc → GoodEntry (length disc) (entry_at disc i)
  good-entry-at i h = good-entry-is (length disc) (entry_at disc i)
      (all-tab-at (entry_at disc) (file_count disc) (good_entry (length disc)) i h facts.each)

  -- two files differ in name and share no byte
  pub beside_at : (i j : ℕ) → i < file_count disc → j < file_count disc → (i ≡ j → ⊥) → Beside (entry_at disc i) (entry_at disc j)
  beside_at i j h k n = go (ltb i j) refl
    where
      later : (a b : ℕ) → a < b → b < file_count disc → Beside (entry_at disc a) (entry_at disc b)
      later a b l m = beside-is (entry_at disc a) (entry_at disc b)
          (pairs-tab-at (entry_at disc) (file_count disc) beside a b l m facts.between)

      go : (t : Bool) → ltb i j ≡ t → Beside (entry_at disc i) (entry_at disc j)
      go true e = later i j (ltb-true i j e) k
      go false e = let l : j ≤ i = ltb-false i j e in
          beside-sym (entry_at disc j) (entry_at disc i) (⊎_elim (λ w. absurd (n (sym w))) (λ w. later j i w h) (eq-or-lt_of_le l))

  -- a name is that of one file
  pub one-of-name : (i j : ℕ) → i < file_count disc → j < file_count disc → (entry_at disc i).name ≡ (entry_at disc j).name → i ≡ j
  one-of-name i j h k e = go (eqb i j) refl
    where
      go : (t : Bool) → eqb i j ≡ t → i ≡ j
      go true q = eqb-true i j q
      go false q = absurd ((beside_at i j h k (eqb-false i j q)).differ e)
