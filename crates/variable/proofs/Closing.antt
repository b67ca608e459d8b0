-- The loop that closes up, and the one that blanks what lies behind: one turn of each.
use Prim.Native.Nat.{ℕ, suc, ◌+◌, ◌-◌, ◌≤◌, ◌<◌}
use mathlib.Core.Path.{◌≡◌, refl, sym, ap, ◌∙◌}
use mathlib.Core.Bool.{Bool, true, false, not}
use mathlib.Core.List.{List, [], ◌∷◌, ◌++◌, append_assoc, append-nil}
use native.Mathlib.Nat.{add-zero}
use native.Mathlib.Numerals.{add-one}
use native.Mathlib.Omega.{arith}
use lib.ListN.{length, get_or, take, drop, set, replicate, length-append, length-drop, length-replicate, length-set}
use lib.ListN.{replicate-append-replicate, take-append-drop}
use lib.Seq.{append_snoc, drop-cons, drop-drop, drop-set-lt, get_or-drop, length-take-le, set_at, take-suc, take-suc-set}
use Rattle.buffer.specs.Lists.{cons_if, keep}
use Rattle.buffer.proofs.Kept.{keep-take-next}
use Rattle.variable.specs.Bytes.{variables_bytes, variables_of, with_count, with_entries, with_entry}
use Rattle.variable.specs.Closing.{ClosedUp, blanked}
use Rattle.variable.specs.Limits.{max_variables}
use Rattle.variable.specs.Table.{Shaped, counted, freed, no_variable}
use Rattle.variable.specs.declared.Variable.{Variable}
use Rattle.variable.specs.declared.Variables.{Variables}
use Rattle.variable.proofs.Bytes.{variables-said}

-- the place behind becomes d
pub blank-next : {A : Type 0} (d : A) (k l : List A) (n : ℕ) → length k ≤ n → n < length l
    → set (k ++ replicate (n - length k) d ++ drop n l) n d ≡ k ++ replicate (n + 1 - length k) d ++ drop (n + 1) l
blank-next {A} d k l n h b =
    let m : n + 1 - length k ≡ n - length k + 1 = omega arith in
    let zeros : List A = replicate (n - length k) d in
    let front : length (k ++ zeros) ≡ n =
    length-append k zeros ∙ ap (λ (j : ℕ). length k + j) (length-replicate (n - length k) d) ∙ omega arith in
    rw (drop-cons l n d b, m, ← replicate-append-replicate, add-one n)
    (set_at (k ++ zeros) (get_or l n d) (drop (suc n) l) d n front
    ∙ sym (ap (λ (r : List A). r ++ drop (suc n) l) (sym (append_assoc k zeros (d ∷ []))) ∙ append_snoc (k ++ zeros) d (drop (suc n) l)))

module _ (v : Variables) (shaped : Shaped v) (gone : Variable → Bool) where
  abbrev old : List Variable
  old = v.entries

  abbrev stays : Variable → Bool
  stays e = not (gone e)

  pub closed_none : {bytes : List ℕ} → variables_bytes v ≡ bytes → ClosedUp v 0 gone bytes 0
  unfolding keep
  closed_none w = record {
    entries = old;
    size = shaped.entries;
    says = sym w;
    bound = omega arith;
    first = refl;
    behind = refl;
  }

  said : {bytes : List ℕ} {i kept : ℕ} (c : ClosedUp v i gone bytes kept) → variables_of bytes ≡ with_entries v c.entries
  said c = variables-said (with_entries v c.entries) (record { memory = shaped.memory; entries = c.size }) c.says

  module _ {bytes : List ℕ} {i kept : ℕ} {e : Variable} (c : ClosedUp v i gone bytes kept) (h : i < max_variables)
      (r : e ≡ get_or (variables_of bytes).entries i no_variable) where
    below : i < length old
    below = omega (arith, shaped.entries)

    -- what stands at the next place is the old entry
    place : get_or c.entries i no_variable ≡ get_or old i no_variable
    place =
        rw add-zero at (sym (get_or-drop i c.entries 0 no_variable) ∙ ap (λ (l : List Variable). get_or l 0 no_variable) c.behind
        ∙ get_or-drop i old 0 no_variable)

    read : e ≡ get_or old i no_variable
    read = r ∙ ap (λ (w : Variables). get_or w.entries i no_variable) (said c) ∙ place

    -- one more is passed
    next : drop (i + 1) c.entries ≡ drop (i + 1) old
    next = sym (drop-drop 1 i c.entries) ∙ ap (drop 1) c.behind ∙ drop-drop 1 i old

    -- whether it stays
    passed : keep stays (take (i + 1) old) ≡ keep stays (take i old) ++ cons_if (stays e) e []
    passed = keep-take-next stays old i no_variable below ∙ rw (← read)

    pub closed-gone : stays e ≡ false → ClosedUp v (i + 1) gone bytes kept
    closed-gone g = record {
      entries = c.entries;
      size = c.size;
      says = c.says;
      bound = omega (arith, c.bound);
      first = c.first ∙ sym (passed ∙ rw g (append-nil (keep stays (take i old))));
      behind = next;
    }

    -- it stays where it is
    pub closed-kept : stays e ≡ true → kept ≡ i → ClosedUp v (i + 1) gone bytes (kept + 1)
    closed-kept g q = record {
      entries = c.entries;
      size = c.size;
      says = c.says;
      bound = omega (arith, c.bound);
      first = rw (add-one, take-suc c.entries kept no_variable (omega (arith, c.size)), q, place, ← read)
          (ap (λ (l : List Variable). l ++ (e ∷ [])) (rw q at c.first) ∙ sym (passed ∙ rw g));
      behind = next;
    }

    -- it moves up
    pub closed-moved : {after : List ℕ} → stays e ≡ true → after ≡ variables_bytes (with_entry (variables_of bytes) kept e)
        → ClosedUp v (i + 1) gone after (kept + 1)
    closed-moved {after} g x = record {
      entries = set c.entries kept e;
      size = length-set c.entries kept e ∙ c.size;
      says = x ∙ ap (λ (w : Variables). variables_bytes (with_entry w kept e)) (said c);
      bound = omega (arith, c.bound);
      first = rw (add-one, take-suc-set c.entries kept e (omega (arith, c.size, c.bound)))
          (ap (λ (l : List Variable). l ++ (e ∷ [])) c.first ∙ sym (passed ∙ rw g));
      behind = drop-set-lt (i + 1) c.entries kept e (omega (arith, c.bound)) ∙ next;
    }

  -- all entries passed, zeros behind those that stay, the new count
  pub closed_all : {one two three : List ℕ} {n kept : ℕ} → v.count ≤ max_variables → n ≡ v.count → ClosedUp v n gone one kept
      → two ≡ variables_bytes (with_entries (variables_of one) (blanked (variables_of one).entries kept n))
      → three ≡ variables_bytes (with_count (variables_of two) kept) → three ≡ variables_bytes (freed v gone)
  unfolding freed
  closed_all {one} {two} {three} {kept = kept} few q d w y =
      let c : ClosedUp v v.count gone one kept = rw q at d in
      let x = rw q at w in
      let n : length old ≡ max_variables = shaped.entries in
      let closed = said c in
      let l : List Variable = blanked c.entries kept v.count in
      let first = c.first in
      let k : kept ≡ length (keep stays (counted v)) =
      sym (length-take-le kept c.entries (omega (arith, c.size, c.bound))) ∙ ap length first in
      let left : l ≡ keep stays (counted v) ++ replicate (v.count - length (keep stays (counted v))) no_variable ++ drop v.count old =
      λ t. first t ++ replicate (v.count - k t) no_variable ++ c.behind t in
      let size : length l ≡ max_variables =
      simp (length-append, length-replicate, length-drop) (omega (arith, length-take-le kept c.entries (omega arith))) in
      let blank : variables_of two ≡ with_entries v l =
      variables-said (with_entries v l) (record { memory = shaped.memory; entries = size })
      (x ∙ ap (λ (w : Variables). variables_bytes (with_entries w (blanked w.entries kept v.count))) closed) in
      y
      ∙ ap (λ (w : Variables). variables_bytes (with_count w kept)) blank
      ∙ (λ t. variables_bytes (record { memory = v.memory; entries = left t; count = k t }))

-- ---- blanking
pub blanked-none : (v : Variables) (from : ℕ) → variables_bytes (with_entries v (blanked v.entries from from)) ≡ variables_bytes v
blanked-none v from =
    let none : from - from ≡ 0 = omega arith in
    ap (λ (l : List Variable). variables_bytes (with_entries v l))
    (rw none (rw append-nil (take-append-drop from v.entries)))

pub blanked-next : (v : Variables) → Shaped v → (from i : ℕ) → from ≤ i → i < max_variables → {bytes after : List ℕ} {e : Variable}
    → bytes ≡ variables_bytes (with_entries v (blanked v.entries from i)) → e ≡ no_variable
    → after ≡ variables_bytes (with_entry (variables_of bytes) i e)
    → after ≡ variables_bytes (with_entries v (blanked v.entries from (i + 1)))
blanked-next v shaped from i h k {bytes} {after} {e} x empty y =
    let n : length v.entries ≡ max_variables = shaped.entries in
    let f : length (take from v.entries) ≡ from = length-take-le from v.entries (omega arith) in
    let l : List Variable = blanked v.entries from i in
    let size : length l ≡ max_variables = simp (length-append, length-replicate, length-drop) (omega arith) in
    let said : variables_of bytes ≡ with_entries v l =
    variables-said (with_entries v l) (record { memory = shaped.memory; entries = size }) x in
    let next : set l i no_variable ≡ blanked v.entries from (i + 1) =
    rw f at (blank-next no_variable (take from v.entries) v.entries i (omega arith) (omega arith)) in
    y
    ∙ (λ t. variables_bytes (with_entry (said t) i (empty t)))
    ∙ ap (λ (m : List Variable). variables_bytes (with_entries v m)) next
