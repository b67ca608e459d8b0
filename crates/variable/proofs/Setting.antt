-- SET: where a value goes, and what becomes of table and memory.
use Rattle.std.specs.Prelude.{None, Option, Some, Ok, Err}
use Rattle.std.specs.Option.{ok_or}
use Prim.Native.Nat.{ℕ, ◌+◌, ◌≤◌, ◌<◌}
use mathlib.Core.Path.{◌≡◌, refl, sym, ap, subst, ◌∙◌}
use mathlib.Core.Bool.{Bool, true, false}
use mathlib.Core.List.{List, [], ◌∷◌, ◌++◌}
use lib.Dec.{ltb}
use lib.ListN.{length}
use borrow.Author.Tests.{ltb-true, ltb-false}
use Rattle.buffer.specs.Buffer.{part}
use Rattle.place.specs.Place.{fits, place}
use Rattle.place.specs.declared.Run.{Run}
use Rattle.place.proofs.Place.{Fits, no-place-none-fits, place-fits}
use Rattle.variable.specs.Assign.{added, assign_at, assigned, entry_limit, high_end, if_entry, low_end, new_cell, new_variable}
use Rattle.variable.specs.Assign.{place_for, placing, taken_runs, value_bytes, value_of, assigned_cells}
use Rattle.variable.specs.Bytes.{variables_bytes, variables_of}
use Rattle.variable.specs.Closing.{SetLeaves}
use Rattle.variable.specs.Limits.{max_variables, memory_size}
use Rattle.variable.specs.Table.{Cell, Shaped, freed, is_of, owned}
use Rattle.variable.specs.Assign.{Placing}
use Rattle.variable.specs.declared.Unplaced.TheVariants.{NoEntry, NoRun}
use Rattle.variable.specs.declared.Value.{Value}
use Rattle.variable.specs.declared.Variable.{Variable}
use Rattle.variable.specs.declared.Variables.{Variables}
use Rattle.variable.proofs.Adding.{added-bytes, added-shaped, owned-added-other}
use Rattle.variable.proofs.Adding.{owned-added-own}
use Rattle.variable.proofs.Bytes.{variables-said}
use Rattle.variable.proofs.Reading.{value_made}
use Rattle.variable.proofs.Freeing.{freed-shaped, owned-freed-name, owned-freed-other}

-- no place was found
abbrev pub NotPlaced : Placing → Type 0
NotPlaced (Ok a) = ⊥
NotPlaced (Err e) = Unit {0}

-- ---- placing
module _ (runs : List Run) (low high used limit n : ℕ) where
  -- what each answer says
  abbrev Says : Placing → Type 0
  Says (Ok a) = (used < limit) × Fits runs low high n a
  Says (Err NoEntry) = limit ≤ used
  Says (Err NoRun) = (j : ℕ) → fits runs low high n j ≡ false

  says : (p : Placing) → placing runs low high used limit n ≡ p → Says p
  unfolding placing
  says p e = go (ltb used limit) refl (place runs low high n) refl e
    where
      go : (b : Bool) → ltb used limit ≡ b → (f : Option ℕ) → place runs low high n ≡ f → if_entry b (ok_or f NoRun) ≡ p → Says p
      go true k (Some a) h e = subst Says e (ltb-true _ _ k, place-fits runs low high n a h)
      go true k None h e = subst Says e (no-place-none-fits runs low high n h)
      go false k f h e = subst Says e (ltb-false _ _ k)

  -- an address: an entry is left, and the run from there on is inside and free
  pub placing-address : (a : ℕ) → placing runs low high used limit n ≡ Ok a → (used < limit) × Fits runs low high n a
  placing-address a e = says (Ok a) e

  -- "no entry" only with as many entries as there can be
  pub placing-no-entry : placing runs low high used limit n ≡ Err NoEntry → limit ≤ used
  placing-no-entry e = says (Err NoEntry) e

  -- "no run" only where no address fits
  pub placing-no-run : placing runs low high used limit n ≡ Err NoRun → (j : ℕ) → fits runs low high n j ≡ false
  placing-no-run e = says (Err NoRun) e

-- the same of a table
module _ (v : Variables) (n : ℕ) where
  pub place-address : (a : ℕ) → place_for v n ≡ Ok a → (v.count < entry_limit) × Fits (taken_runs v) low_end high_end n a
  unfolding place_for
  place-address a e = placing-address (taken_runs v) low_end high_end v.count entry_limit n a e

  pub place-no-entry : place_for v n ≡ Err NoEntry → entry_limit ≤ v.count
  unfolding place_for
  place-no-entry e = placing-no-entry (taken_runs v) low_end high_end v.count entry_limit n e

  pub place-no-run : place_for v n ≡ Err NoRun → (j : ℕ) → fits (taken_runs v) low_end high_end n j ≡ false
  unfolding place_for
  place-no-run e = placing-no-run (taken_runs v) low_end high_end v.count entry_limit n e

-- ---- SET
module _ (v : Variables) (name id : ℕ) (x : Value) where
  abbrev rest : Variables
  rest = freed v (is_of name id)

  pub assigned-placing : (assigned v name id x).placing ≡ place_for rest x.size
  unfolding assigned
  assigned-placing = go (place_for rest x.size)
    where
      go : (p : Placing) → (assign_at p v rest name id x).placing ≡ p
      go (Ok a) = refl
      go (Err NoEntry) = refl
      go (Err NoRun) = refl

  -- what holds of the table as it was, and of the one with the new variable, holds after a SET
  pub assigned-keeps : (P : Variables → Type 0) → P v
      → ((a : ℕ) → place_for rest x.size ≡ Ok a → P (added rest (new_variable name id x a) (value_bytes x)))
      → P (assigned v name id x).variables
  unfolding assigned
  assigned-keeps P old new = go (place_for rest x.size) refl
    where
      go : (p : Placing) → place_for rest x.size ≡ p → P (assign_at p v rest name id x).variables
      go (Ok a) e = new a e
      go (Err NoEntry) e = old
      go (Err NoRun) e = old

  -- a SET that finds no place leaves the variables as they were
  pub assigned-refused : (p : Placing) → NotPlaced p → (assigned v name id x).placing ≡ p → (assigned v name id x).variables ≡ v
  unfolding assigned
  assigned-refused p n e = go p n (sym assigned-placing ∙ e)
    where
      go : (p : Placing) → NotPlaced p → place_for rest x.size ≡ p → (assigned v name id x).variables ≡ v
      go (Ok a) none h = absurd none
      go (Err NoEntry) none h = rw h
      go (Err NoRun) none h = rw h

  -- "no entry" only with as many variables as there can be left after freeing the old one
  pub assigned-no-entry : (assigned v name id x).placing ≡ Err NoEntry → max_variables ≤ rest.count
  assigned-no-entry e = place-no-entry rest x.size (sym assigned-placing ∙ e)

  -- "no run" only where no address fits among the variables left
  pub assigned-no-run : (assigned v name id x).placing ≡ Err NoRun → (a : ℕ) → fits (taken_runs rest) low_end high_end x.size a ≡ false
  assigned-no-run e = place-no-run rest x.size (sym assigned-placing ∙ e)

  -- ---- kept in either case
  module _ (shaped : Shaped v) (few : v.count ≤ max_variables) (sized : length (value_bytes x) ≡ x.size) where
    left : Shaped rest
    left = freed-shaped v (is_of name id) few shaped

    pub assigned-shaped : Shaped (assigned v name id x).variables
    assigned-shaped = assigned-keeps Shaped shaped (λ a e. let r = place-address rest x.size a e in
        added-shaped rest (new_variable name id x a) (value_bytes x) left r.0 r.1 sized)

    -- every other process's variables, in table order
    pub assigned-other : (other : ℕ) → (other ≡ id → ⊥) → owned (assigned v name id x).variables other ≡ owned v other
    assigned-other other h =
        assigned-keeps (λ (w : Variables). owned w other ≡ owned v other) refl
        (λ a e. let r = place-address rest x.size a e in
        owned-added-other rest (new_variable name id x a) (value_bytes x) left r.0 r.1 sized other h
        ∙ owned-freed-other v id name other h)

    -- ---- a SET that is done
    module _ (a : ℕ) (done : (assigned v name id x).placing ≡ Ok a) where
      abbrev new : Variable
      new = new_variable name id x a

      placed : place_for rest x.size ≡ Ok a
      placed = sym assigned-placing ∙ done

      room : rest.count < max_variables
      room = (place-address rest x.size a placed).0

      pub assigned-run : Fits (taken_runs rest) low_end high_end x.size a
      assigned-run = (place-address rest x.size a placed).1

      pub assigned-is : (assigned v name id x).variables ≡ added rest new (value_bytes x)
      unfolding assigned
      assigned-is = rw placed

      -- Document 01: "A SET without fault drops the old variable, then adds the new one"
      pub assigned-own : owned (assigned v name id x).variables id ≡ assigned_cells (owned v id) (new_cell name x)
      unfolding assigned_cells
      assigned-own =
          ap (λ (w : Variables). owned w id) assigned-is
          ∙ owned-added-own rest new (value_bytes x) left room assigned-run sized
          ∙ ap (λ (l : List Cell). l ++ (new_cell name x ∷ [])) (owned-freed-name v id name)

      pub assigned-bytes : part (assigned v name id x).variables.memory a x.size ≡ value_bytes x
      assigned-bytes = ap (λ (w : Variables). part w.memory a x.size) assigned-is
          ∙ added-bytes rest new (value_bytes x) left room assigned-run sized

-- ---- what a SET leaves of the bytes
module _ (v : Variables) (shaped : Shaped v) (few : v.count ≤ max_variables) (name id kind : ℕ) (bytes : List ℕ) where
  abbrev value : Value
  value = value_of kind bytes

  abbrev others : Variables
  others = freed v (is_of name id)

  pub set-refused : (p : Placing) {left : List ℕ} → NotPlaced p → place_for others (length bytes) ≡ p → left ≡ variables_bytes v
      → SetLeaves p left (assigned v name id value)
  unfolding assigned
  set-refused (Ok a) n h x = absurd n
  set-refused (Err NoEntry) n h x = rw h (record { placing = refl; variables = x })
  set-refused (Err NoRun) n h x = rw h (record { placing = refl; variables = x })

  module _ (a : ℕ) (h : place_for others (length bytes) ≡ Ok a) where
    pub set_room : (others.count < max_variables) × (a + length bytes ≤ memory_size)
    set_room = let r = place-address others (length bytes) a h in
        (r.0, r.1.high)

    pub set-done : {one two : List ℕ} → one ≡ variables_bytes others
        → two ≡ variables_bytes (added (variables_of one) (new_variable name id value a) bytes)
        → SetLeaves (Ok a) two (assigned v name id value)
    unfolding assigned
    set-done {one} {two} x y =
        let rest : variables_of one ≡ others = variables-said others (freed-shaped v (is_of name id) few shaped) x in
        let made : bytes ≡ value_bytes value = sym (value_made kind bytes) in
        rw h
        (record { placing = refl; variables = y ∙ (λ t. variables_bytes (added (rest t) (new_variable name id value a) (made t))) })
