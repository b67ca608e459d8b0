-- Laws of places: what is found is free and inside, none found means none fits; and the longest free run. That it is the
-- shortest run that fits is in ShortestFit.
use Rattle.std.specs.Prelude.{None, Option, Some}
use Prim.Native.Nat.{ℕ, zero, suc, ◌+◌, ◌-◌, ◌≤◌, ◌<◌}
use mathlib.Core.Path.{◌≡◌, refl, sym, ap, ◌∙◌}
use mathlib.Core.Bool.{Bool, true, false, not, ◌&&◌, ◌||◌, and-false}
use mathlib.Core.List.{List, append_assoc, map}
use mathlib.Core.Logic.{◌⊎◌, inl, inr, ⊎_elim}
use native.Mathlib.Nat.{eq-or-lt_of_le}
use native.Mathlib.Omega.{arith}
use lib.Dec.{eqb, leb}
use lib.ListN.{length, replicate, set, take}
use lib.Seq.{set_at, take-append_seam}
use borrow.Author.Tests.{eqb-false, le-leb, lt-leb, leb-true, leb-false, not-true}
use Rattle.buffer.specs.Lists.{all, tab}
use Rattle.buffer.proofs.Bools.{and_both, and_left, and_right, not-is-true, not-true-is-false, true-not-false}
use Rattle.buffer.proofs.Lists.{all_both, all_weaker, tab-length, tab-more}
use Rattle.buffer.proofs.Tables.{all_map}
use Rattle.place.specs.Place.{run_from, no_run, max_runs, filled, apart, fits, lowest_fit, begins, free_from, starts, place, is_at, longest}
use Rattle.place.specs.declared.Run.{Run}
use Rattle.place.proofs.Numbers.{Before, greatest-bound, greatest-holds, greatest-is, greatest-most, lacks, least_at, least-none}
use Rattle.place.proofs.Numbers.{lowest-at, lowest-is, lowest-none, lowest-nowhere}

-- ---- apart
pub record Apart (u v : Run) : Type 0 where
  pub sides : (u.start + u.len ≤ v.start) ⊎ (v.start + v.len ≤ u.start)

pub apart-is : (u v : Run) → apart u v ≡ true → Apart u v
unfolding apart
apart-is u v e = go (leb (u.start + u.len) v.start) refl e
  where
    go : (b : Bool) → leb (u.start + u.len) v.start ≡ b → b || leb (v.start + v.len) u.start ≡ true → Apart u v
    go true k h = record { sides = inl (leb-true _ _ k) }
    go false k h = record { sides = inr (leb-true _ _ h) }

pub is-apart-left : (u v : Run) → u.start + u.len ≤ v.start → apart u v ≡ true
unfolding apart
is-apart-left u v h = rw (le-leb _ _ h)

pub is-apart-right : (u v : Run) → v.start + v.len ≤ u.start → apart u v ≡ true
unfolding apart
is-apart-right u v h = go (leb (u.start + u.len) v.start)
  where
    go : (b : Bool) → b || leb (v.start + v.len) u.start ≡ true
    go true = refl
    go false = le-leb _ _ h

pub is-apart : (u v : Run) → Apart u v → apart u v ≡ true
is-apart u v a = ⊎_elim (is-apart-left u v) (is-apart-right u v) a.sides

pub apart-sym : (u v : Run) → apart u v ≡ true → apart v u ≡ true
apart-sym u v e = ⊎_elim (is-apart-right v u) (is-apart-left v u) (apart-is u v e).sides

pub record Meet (u v : Run) : Type 0 where
  pub left : v.start < u.start + u.len
  pub right : u.start < v.start + v.len

pub is-meet : (u v : Run) → Meet u v → apart u v ≡ false
unfolding apart
is-meet u v m = rw (lt-leb _ _ m.left, lt-leb _ _ m.right)

-- ---- fits
pub record Fits (runs : List Run) (lo hi n start : ℕ) : Type 0 where
  pub low : lo ≤ start
  pub high : start + n ≤ hi
  pub free : all (apart (run_from start n)) runs ≡ true

module _ (runs : List Run) (lo hi n : ℕ) where
  pub fits-is : (s : ℕ) → fits runs lo hi n s ≡ true → Fits runs lo hi n s
  unfolding fits
  fits-is s e =
      let r = and_right (leb lo s) (leb (s + n) hi && all (apart (run_from s n)) runs) e in
      record {
        low = leb-true _ _ (and_left (leb lo s) _ e);
        high = leb-true _ _ (and_left (leb (s + n) hi) _ r);
        free = and_right (leb (s + n) hi) _ r;
      }

  pub is-fits : (s : ℕ) → Fits runs lo hi n s → fits runs lo hi n s ≡ true
  unfolding fits
  is-fits s f = rw (le-leb _ _ f.low, le-leb _ _ f.high) f.free

  pub fits_below : (s : ℕ) → s < lo → fits runs lo hi n s ≡ false
  unfolding fits
  fits_below s h = rw (lt-leb _ _ h)

  pub fits-above : (s : ℕ) → hi < s + n → fits runs lo hi n s ≡ false
  unfolding fits
  fits-above s h = rw (lt-leb _ _ h) (and-false (leb lo s))

  pub fits-no-room : hi < lo + n → (s : ℕ) → fits runs lo hi n s ≡ false
  fits-no-room h s = go (leb lo s) refl
    where
      go : (b : Bool) → leb lo s ≡ b → fits runs lo hi n s ≡ false
      go true k = let up : lo ≤ s = leb-true _ _ k in fits-above s (omega arith)
      go false k = fits_below s (leb-false _ _ k)

module _ (runs : List Run) (lo hi n s : ℕ) (e : fits runs lo hi n s ≡ true) where
  -- bytes among those that fit do
  pub fits-inside : (m t : ℕ) → s ≤ t → t + m ≤ s + n → fits runs lo hi m t ≡ true
  fits-inside m t a b =
      let x = fits-is runs lo hi n s e in
      is-fits runs lo hi m t
      (record {
        low = omega (arith, x.low);
        high = omega (arith, x.high);
        free =
            all_weaker (apart (run_from s n)) (apart (run_from t m)) runs
            (λ v h. is-apart (run_from t m) v (inside v (apart-is (run_from s n) v h))) x.free;
      })
    where
      inside : (v : Run) → Apart (run_from s n) v → Apart (run_from t m) v
      inside v h =
          record {
            sides =
                ⊎_elim (λ (w : s + n ≤ v.start). inl (omega arith)) (λ (w : v.start + v.len ≤ s). inr (omega arith))
                h.sides;
          }

  -- a low end is nothing but a bound
  pub fits-from : (low : ℕ) → low ≤ s → fits runs low hi n s ≡ true
  fits-from low h = let x = fits-is runs lo hi n s e in
      is-fits runs low hi n s (record { low = h; high = x.high; free = x.free })

-- ---- the lowest start that fits
module _ (runs : List Run) (lo hi n : ℕ) where
  pub lowest-fit-fits : (s : ℕ) → lowest_fit runs lo hi n ≡ Some s → fits runs lo hi n s ≡ true
  unfolding lowest_fit
  lowest-fit-fits s e = (lowest-at (fits runs lo hi n) lo (suc hi - lo) s e).holds

  -- nothing lower fits
  pub lowest-fit-first : (s j : ℕ) → lowest_fit runs lo hi n ≡ Some s → j < s → fits runs lo hi n j ≡ false
  unfolding lowest_fit
  lowest-fit-first s j e h = go (leb lo j) refl
    where
      go : (b : Bool) → leb lo j ≡ b → fits runs lo hi n j ≡ false
      go true k = (lowest-at (fits runs lo hi n) lo (suc hi - lo) s e).first j (leb-true _ _ k) h
      go false k = fits_below runs lo hi n j (leb-false _ _ k)

  -- none found: none fits
  pub no-lowest-fit : lowest_fit runs lo hi n ≡ None → (j : ℕ) → fits runs lo hi n j ≡ false
  unfolding lowest_fit
  no-lowest-fit e j = go (leb lo j) refl (leb (j + n) hi) refl
    where
      go : (b : Bool) → leb lo j ≡ b → (c : Bool) → leb (j + n) hi ≡ c → fits runs lo hi n j ≡ false
      go false k c l = fits_below runs lo hi n j (leb-false _ _ k)
      go true k false l = fits-above runs lo hi n j (leb-false _ _ l)
      go true k true l = lowest-none (fits runs lo hi n) lo (suc hi - lo) e j (leb-true _ _ k) (let x : lo ≤ j = leb-true _ _ k in
          let y : j + n ≤ hi = leb-true _ _ l in omega arith)

  -- the other way round
  pub lowest-fit-is : (s : ℕ) → fits runs lo hi n s ≡ true → ((j : ℕ) → j < s → fits runs lo hi n j ≡ false)
      → lowest_fit runs lo hi n ≡ Some s
  unfolding lowest_fit
  lowest-fit-is s e f =
      let x = fits-is runs lo hi n s e in
      lowest-is (fits runs lo hi n) lo (suc hi - lo) s x.low (omega (arith, x.low, x.high)) e f

  pub lowest-fit-nowhere : ((j : ℕ) → fits runs lo hi n j ≡ false) → lowest_fit runs lo hi n ≡ None
  unfolding lowest_fit
  lowest-fit-nowhere f = lowest-nowhere (fits runs lo hi n) lo (suc hi - lo) f

  pub lowest-fit-some : (s : ℕ) → fits runs lo hi n s ≡ true → is_at (lowest_fit runs lo hi n) ≡ true
  lowest-fit-some s e = go (lowest_fit runs lo hi n) refl
    where
      go : (f : Option ℕ) → lowest_fit runs lo hi n ≡ f → is_at f ≡ true
      go (Some k) h = refl
      go None h = absurd (true-not-false e (no-lowest-fit h s))

-- ---- where a free run begins
module _ (runs : List Run) (lo hi n : ℕ) where
  pub begins-fits : (s : ℕ) → begins runs lo hi n s ≡ true → fits runs lo hi n s ≡ true
  unfolding begins
  begins-fits zero e = e
  begins-fits (suc s) e = and_right (not (fits runs lo hi (suc n) s)) (fits runs lo hi n (suc s)) e

  pub begins-first : (s t : ℕ) → suc t ≡ s → begins runs lo hi n s ≡ true → fits runs lo hi (suc n) t ≡ false
  unfolding begins
  begins-first zero t w e = absurd (omega arith)
  begins-first (suc s) t w e =
      let same : s ≡ t = omega arith in
      rw (← same) (not-true _ (and_left (not (fits runs lo hi (suc n) s)) (fits runs lo hi n (suc s)) e))

  pub is-begins : (s : ℕ) → fits runs lo hi n s ≡ true → ((t : ℕ) → suc t ≡ s → fits runs lo hi (suc n) t ≡ false)
      → begins runs lo hi n s ≡ true
  unfolding begins
  is-begins zero e f = e
  is-begins (suc s) e f = and_both (not-is-true (f s refl)) e

  -- at the lowest start that fits one begins
  lowest-begins : (s : ℕ) → lowest_fit runs lo hi n ≡ Some s → begins runs lo hi n s ≡ true
  lowest-begins s e =
      is-begins s (lowest-fit-fits runs lo hi n s e) λ t w.
      not-true-is-false (fits runs lo hi (suc n) t) λ f.
      true-not-false (fits-inside runs lo hi (suc n) t f n t (omega arith) (omega arith))
      (lowest-fit-first runs lo hi n s t e (omega arith))

-- ---- places
module _ (runs : List Run) (lo hi n : ℕ) where
  -- a free run begins at lo or where a taken run ends, nowhere else
  pub begins-at-start : (s : ℕ) → begins runs lo hi n s ≡ true → lacks s (starts runs lo) ≡ false
  unfolding all
  begins-at-start s b = not-true-is-false (lacks s (starts runs lo)) λ none.
      let other = not-true (eqb lo s) (and_left (not (eqb lo s)) (lacks s (map (λ v. v.start + v.len) runs)) none) in
      let ends = sym (all_map (λ k. not (eqb k s)) (λ v. v.start + v.len) runs)
      ∙ and_right (not (eqb lo s)) (lacks s (map (λ v. v.start + v.len) runs)) none in
      let x = fits-is runs lo hi n s (begins-fits runs lo hi n s b) in
      let up : lo < s = above lo s x.low (eqb-false lo s other) in
      true-not-false
      (is-fits runs lo hi (suc n) (s - 1)
      (record {
        low = omega arith;
        high = omega (arith, x.high);
        free =
            all_both (λ v. not (eqb (v.start + v.len) s)) (apart (run_from s n)) (apart (run_from (s - 1) (suc n))) runs
            (λ v h k. is-apart (run_from (s - 1) (suc n)) v (wider s up v (eqb-false _ _ (not-true _ h)) (apart-is (run_from s n) v k)))
            ends
            x.free;
      }))
      (begins-first runs lo hi n s (s - 1) (omega arith) b)
    where
      above : (k j : ℕ) → k ≤ j → (k ≡ j → ⊥) → k < j
      above k j h d = ⊎_elim (λ w. absurd (d w)) (λ w. w) (eq-or-lt_of_le h)

      wider : (s : ℕ) → lo < s → (v : Run) → (v.start + v.len ≡ s → ⊥) → Apart (run_from s n) v → Apart (run_from (s - 1) (suc n)) v
      wider s up v d a =
          record {
            sides =
                ⊎_elim (λ (w : s + n ≤ v.start). inl (omega arith))
                (λ (w : v.start + v.len ≤ s). let l = above _ _ w d in inr (omega arith)) a.sides;
          }

  -- of the starts at which a free run of n bytes or more begins the one of the shortest, the lowest of equals
  pub record IsPlace (s : ℕ) : Type 0 where
    pub begun : begins runs lo hi n s ≡ true
    pub before : (j : ℕ) → begins runs lo hi n j ≡ true → Before (free_from runs hi) s j

  pub place_at : (s : ℕ) → place runs lo hi n ≡ Some s → IsPlace s
  unfolding place
  place_at s e =
      let l = least_at (begins runs lo hi n) (free_from runs hi) (starts runs lo) s e in
      record { begun = l.holds; before = λ j b. l.before j (begins-at-start j b) b }

  no-place-none-begins : place runs lo hi n ≡ None → (s : ℕ) → begins runs lo hi n s ≡ false
  unfolding place
  no-place-none-begins e s = not-true-is-false (begins runs lo hi n s) λ b.
      true-not-false b (least-none (begins runs lo hi n) (free_from runs hi) (starts runs lo) e s (begins-at-start s b))

  -- there is only one such
  pub place_is : (s : ℕ) → IsPlace s → place runs lo hi n ≡ Some s
  place_is s l = go (place runs lo hi n) refl
    where
      go : (f : Option ℕ) → place runs lo hi n ≡ f → f ≡ Some s
      go None e = absurd (true-not-false l.begun (no-place-none-begins e s))
      go (Some t) e =
          let o = place_at t e in
          let a = l.before t o.begun in
          let b = o.before s l.begun in
          let c : t ≤ s = b.first a.small in
          let d : s ≤ t = a.first b.small in
          ap Some (omega arith)

  -- what is found lies inside and is free
  pub place-fits : (s : ℕ) → place runs lo hi n ≡ Some s → Fits runs lo hi n s
  place-fits s e = fits-is runs lo hi n s (begins-fits runs lo hi n s (place_at s e).begun)

  -- none found: none fits
  pub no-place-none-fits : place runs lo hi n ≡ None → (j : ℕ) → fits runs lo hi n j ≡ false
  no-place-none-fits e = go (lowest_fit runs lo hi n) refl
    where
      go : (f : Option ℕ) → lowest_fit runs lo hi n ≡ f → (j : ℕ) → fits runs lo hi n j ≡ false
      go None h = no-lowest-fit runs lo hi n h
      go (Some s) h = absurd (true-not-false (lowest-begins runs lo hi n s h) (no-place-none-begins e s))

  pub place-nowhere : ((j : ℕ) → fits runs lo hi n j ≡ false) → place runs lo hi n ≡ None
  place-nowhere f = go (place runs lo hi n) refl
    where
      go : (g : Option ℕ) → place runs lo hi n ≡ g → g ≡ None
      go None e = refl
      go (Some s) e = absurd (true-not-false (is-fits runs lo hi n s (place-fits s e)) (f s))

  -- document 02, Q-10: "'no run' is said as before"
  pub place_found : is_at (place runs lo hi n) ≡ is_at (lowest_fit runs lo hi n)
  place_found = go (place runs lo hi n) refl
    where
      go : (f : Option ℕ) → place runs lo hi n ≡ f → is_at f ≡ is_at (lowest_fit runs lo hi n)
      go None e = ap is_at (sym (lowest-fit-nowhere runs lo hi n (no-place-none-fits e)))
      go (Some s) e = sym (lowest-fit-some runs lo hi n s (is-fits runs lo hi n s (place-fits s e)))

-- ---- the longest free run
-- a longer run fits nowhere where a shorter one fits nowhere
pub longer-fits-nowhere : (runs : List Run) (lo hi m n : ℕ) → m ≤ n → is_at (lowest_fit runs lo hi m) ≡ false
    → is_at (lowest_fit runs lo hi n) ≡ false
longer-fits-nowhere runs lo hi m n h e = go (lowest_fit runs lo hi n) refl
  where
    go : (f : Option ℕ) → lowest_fit runs lo hi n ≡ f → is_at f ≡ false
    go None k = refl
    go (Some s) k =
        absurd (true-not-false
        (lowest-fit-some runs lo hi m s
        (fits-inside runs lo hi n s (lowest-fit-fits runs lo hi n s k) m s (omega arith) (omega arith))) e)

module _ (runs : List Run) (lo hi : ℕ) where
  pub longest-is : (g : ℕ) → g ≤ hi - lo → (0 < g → is_at (lowest_fit runs lo hi g) ≡ true)
      → ((j : ℕ) → g < j → j ≤ hi - lo → is_at (lowest_fit runs lo hi j) ≡ false) → longest runs lo hi ≡ g
  unfolding longest
  longest-is g a e f = greatest-is (λ n. is_at (lowest_fit runs lo hi n)) (hi - lo) g a e f

  pub longest-bound : longest runs lo hi ≤ hi - lo
  unfolding longest
  longest-bound = greatest-bound (λ n. is_at (lowest_fit runs lo hi n)) (hi - lo)

  -- a run of that length has a place
  pub longest-fits : 0 < longest runs lo hi → is_at (place runs lo hi (longest runs lo hi)) ≡ true
  unfolding longest
  longest-fits h = place_found runs lo hi (longest runs lo hi) ∙ greatest-holds (λ n. is_at (lowest_fit runs lo hi n)) (hi - lo) h

  -- no longer one has
  pub longest-most : lo ≤ hi → (n : ℕ) → longest runs lo hi < n → place runs lo hi n ≡ None
  unfolding longest
  longest-most b n h = place-nowhere runs lo hi n λ s.
      not-true-is-false (fits runs lo hi n s) λ e.
      let x = fits-is runs lo hi n s e in
      true-not-false (lowest-fit-some runs lo hi n s e)
      (greatest-most (λ k. is_at (lowest_fit runs lo hi k)) (hi - lo) n h (omega (arith, x.low, x.high)))

-- ---- runs in an array
-- one more turn of a loop that puts the runs f 0, f 1, .. into it
module _ (f : ℕ → Run) (i : ℕ) (h : i < max_runs) where
  pub filled_next : set (filled (tab f i)) i (f i) ≡ filled (tab f (i + 1))
  filled_next =
      let m : max_runs - length (tab f i) ≡ suc (max_runs - length (tab f (i + 1))) = omega (arith, tab-length f i, tab-length f (i + 1)) in
      rw (m, set_at (tab f i) no_run _ (f i) i (tab-length f i)) (rw (tab-more f i, append_assoc))

pub filled-take : (runs : List Run) → length runs ≤ max_runs → take (length runs) (filled runs) ≡ runs
filled-take runs h = take-append_seam runs (replicate (max_runs - length runs) no_run)
