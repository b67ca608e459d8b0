-- The runs of all variables but one, listed one after another; the place looked for among them is that of the table without that one.
use Prim.Native.Nat.{ℕ, suc, ◌+◌, ◌-◌, ◌<◌, ◌≤◌}
use mathlib.Core.Path.{◌≡◌, refl, sym, ap, ◌∙◌}
use mathlib.Core.Bool.{Bool, true, false, not}
use mathlib.Core.List.{List, [], ◌∷◌, ◌++◌, map, map-append, append_assoc, append-nil}
use native.Mathlib.Omega.{arith}
use lib.ListN.{length, get_or, replicate, set, take, length-append, length-map}
use lib.Seq.{set_at}
use Rattle.buffer.specs.Lists.{cons_if, keep}
use Rattle.buffer.proofs.Kept.{keep-length, keep-take-next}
use Rattle.place.specs.Place.{filled, max_runs, no_run}
use Rattle.place.specs.declared.Run.{Run}
use Rattle.place.proofs.Place.{filled-take}
use Rattle.variable.specs.Assign.{entry_limit, high_end, low_end, place_for, placing, taken_runs}
use Rattle.variable.specs.Closing.{Lists}
use Rattle.variable.specs.Limits.{max_variables}
use Rattle.variable.specs.Table.{Shaped, counted, freed, no_variable, run_of}
use Rattle.variable.specs.Assign.{Placing}
use Rattle.variable.specs.declared.Taken.{Taken}
use Rattle.variable.specs.declared.Variable.{Variable}
use Rattle.variable.specs.declared.Variables.{Variables}
use Rattle.variable.proofs.Freeing.{freed-count, freed-counted}
use Rattle.variable.proofs.Views.{take_bound}

-- of the first i entries those that stay take these runs
abbrev pub runs_of : Variables → (Variable → Bool) → ℕ → List Run
runs_of v gone i = map run_of (keep (λ e. not (gone e)) (take i v.entries))

filled_more : (l : List Run) (x : Run) → length l < max_runs → set (filled l) (length l) x ≡ filled (l ++ (x ∷ []))
filled_more l x h =
    let n : length (l ++ (x ∷ [])) ≡ length l + 1 = length-append l (x ∷ []) in
    let m : max_runs - length l ≡ suc (max_runs - length (l ++ (x ∷ []))) = omega arith in
    rw (m, set_at l no_run (replicate (max_runs - length (l ++ (x ∷ []))) no_run) x (length l) refl) (simp append_assoc)

module _ (v : Variables) (gone : Variable → Bool) where
  pub listed-none : {runs : List Run} → runs ≡ filled [] → Lists (record { runs = runs; count = 0 }) (runs_of v gone 0)
  unfolding keep
  listed-none e = record { count = refl; all = e }

  -- all are listed
  pub listed-all : {t : Taken} {i : ℕ} → Lists t (runs_of v gone i) → i ≡ v.count → Lists t (taken_runs (freed v gone))
  listed-all {t} {i} l q = rw freed-counted (rw q at l)

module _ (v : Variables) (shaped : Shaped v) (gone : Variable → Bool) {runs : List Run} {n i : ℕ} {e : Variable}
    (l : Lists (record { runs = runs; count = n }) (runs_of v gone i)) (h : i < max_variables)
    (r : e ≡ get_or v.entries i no_variable) where
  passed : runs_of v gone (i + 1) ≡ runs_of v gone i ++ map run_of (cons_if (not (gone e)) e [])
  passed =
      let below : i < length v.entries = omega (arith, shaped.entries) in
      let stays : Variable → Bool = λ d. not (gone d) in
      rw (keep-take-next stays v.entries i no_variable below, ← r)
      (map-append run_of (keep stays (take i v.entries)) (cons_if (not (gone e)) e []))

  few : length (runs_of v gone i) < max_runs
  few =
      let stays : Variable → Bool = λ d. not (gone d) in
      let a = keep-length stays (take i v.entries) in
      let b = take_bound i v.entries in
      let m = length-map (keep stays (take i v.entries)) run_of in
      omega arith

  pub listed-gone : not (gone e) ≡ false → Lists (record { runs = runs; count = n }) (runs_of v gone (i + 1))
  listed-gone g = rw (passed, g, append-nil (runs_of v gone i)) l

  pub listed_more : not (gone e) ≡ true → {x : Run} → x ≡ run_of e
      → Lists (record { runs = set runs n x; count = n + 1 }) (runs_of v gone (i + 1))
  listed_more g {x} y = record {
    count = rw (passed, g) (ap (λ (m : ℕ). m + 1) l.count ∙ sym (length-append (runs_of v gone i) (run_of e ∷ [])));
    all = rw (passed, g, l.all, l.count, y) (filled_more (runs_of v gone i) (run_of e) few);
  }

-- ---- the place among them is that of the table without the old one
module _ (v : Variables) (gone : Variable → Bool) {t : Taken} (l : Lists t (taken_runs (freed v gone))) where
  pub listed-count : t.count ≡ (freed v gone).count
  unfolding freed
  listed-count = l.count ∙ length-map (counted (freed v gone)) run_of ∙ ap length (freed-counted v gone)

  pub listed-few : v.count ≤ max_variables → t.count ≤ max_runs
  listed-few few = omega (arith, listed-count, freed-count v gone)

  pub placed-beside : (n : ℕ) {p : Placing} → v.count ≤ max_variables
      → p ≡ placing (take t.count t.runs) low_end high_end t.count entry_limit n → p ≡ place_for (freed v gone) n
  unfolding place_for
  placed-beside n {p} few x =
      let runs : List Run = taken_runs (freed v gone) in
      let first : take t.count t.runs ≡ runs =
      rw (l.all, l.count) (filled-take runs (omega (arith, l.count, listed-few few))) in
      x ∙ (λ j. placing (first j) low_end high_end (listed-count j) entry_limit n)
