-- GET: what the table's lookup finds is what a process finds by name among its own variables.
use Rattle.std.specs.Prelude.{None, Option, Some}
use Prim.Native.Nat.{ℕ, ◌-◌, ◌<◌}
use mathlib.Core.Path.{◌≡◌, refl, sym, ap, ◌∙◌}
use mathlib.Core.Bool.{Bool, true, false, ◌&&◌}
use mathlib.Core.List.{List, [], ◌∷◌, map}
use lib.Dec.{eqb}
use lib.ListN.{length, get_or, replicate}
use lib.Seq.{get_or-take, take_at}
use native.Mathlib.Omega.{arith}
use Rattle.buffer.specs.Lists.{cons_if, here_or, index, keep, later}
use Rattle.buffer.proofs.Tables.{index_at}
use Rattle.variable.specs.Assign.{value_bytes, value_of}
use Rattle.variable.specs.Limits.{value_size}
use Rattle.variable.specs.Table.{Cell, cell_of, counted, find, is_of, no_variable, owned, owned_by}
use Rattle.variable.specs.declared.Variables.{Variables}
use Rattle.variable.proofs.Views.{take_bound}

-- what is made of a search in l: `next` of what it found, or `none`
abbrev pub found_in : {A C : Type 0} → List A → A → (A → C) → C → Option ℕ → C
found_in l d next none (Some i) = next (get_or l i d)
found_in l d next none None = none

found-later : {A C : Type 0} (x : A) (l : List A) (d : A) (next : A → C) (none : C) (f : Option ℕ)
    → found_in (x ∷ l) d next none (later f) ≡ found_in l d next none f
found-later x l d next none (Some i) = refl
found-later x l d next none None = refl

-- a search by r among what p keeps, and one by both tests in the whole list, find the same element
module _ {A B C : Type 0} (p : A → Bool) (f : A → B) (r : B → Bool) (d : A) (e : B) (next : B → C) (none : C) where
  abbrev kept : List A → List B
  kept l = map f (keep p l)

  abbrev both : A → Bool
  both x = r (f x) && p x

  found-kept : (l : List A) → found_in (kept l) e next none (index r (kept l)) ≡ found_in l d (λ x. next (f x)) none (index both l)
  unfolding index keep
  found-kept [] = refl
  found-kept (x ∷ l) = go (r (f x)) refl (p x) (found-kept l)
    where
      behind : found_in (x ∷ l) d (λ y. next (f y)) none (later (index both l)) ≡ found_in l d (λ y. next (f y)) none (index both l)
      behind = found-later x l d (λ y. next (f y)) none (index both l)

      go : (b : Bool) → r (f x) ≡ b → (a : Bool)
          → found_in (kept l) e next none (index r (kept l)) ≡ found_in l d (λ y. next (f y)) none (index both l)
          → found_in (map f (cons_if a x (keep p l))) e next none (index r (map f (cons_if a x (keep p l))))
          ≡ found_in (x ∷ l) d (λ y. next (f y)) none (here_or (b && a) (index both l))
      go true q true h = rw q
      go false q true h = rw q (found-later (f x) (kept l) e next none (index r (kept l)) ∙ h ∙ sym behind)
      go true q false h = h ∙ sym behind
      go false q false h = h ∙ sym behind

module _ (v : Variables) (name id : ℕ) where
  abbrev named : Cell → Bool
  named c = eqb c.name name

  -- a process's own variable of a name is the table's first of that name and owner
  pub variable-found : {C : Type 0} (d : Cell) (next : Cell → C) (none : C)
      → found_in (owned v id) d next none (index named (owned v id))
      ≡ found_in (counted v) no_variable (λ e. next (cell_of v.memory e)) none (find v name id)
  unfolding find owned
  variable-found d next none = found-kept (owned_by id) (cell_of v.memory) named no_variable d next none (counted v)

  -- a variable among the process's own, the one of that name
  pub record Own (d x : Cell) : Type 0 where
    pub place : ℕ
    pub found : index named (owned v id) ≡ Some place
    pub is : get_or (owned v id) place d ≡ x

  module _ (d : Cell) where
    abbrev alone : Option ℕ → List Cell
    alone f = found_in (owned v id) d (λ c. c ∷ []) [] f

    -- found in the table: found among its own, and the same
    pub find-own : (i : ℕ) → find v name id ≡ Some i → Own d (cell_of v.memory (get_or (counted v) i no_variable))
    find-own i h = go (index named (owned v id)) refl (variable-found d (λ c. c ∷ []) []
        ∙ ap (found_in (counted v) no_variable (λ e. cell_of v.memory e ∷ []) []) h)
      where
        go : (f : Option ℕ) → index named (owned v id) ≡ f → alone f ≡ cell_of v.memory (get_or (counted v) i no_variable) ∷ []
            → Own d (cell_of v.memory (get_or (counted v) i no_variable))
        go (Some k) q e = record { place = k; found = q; is = cc }
        go None q e = absurd (let z : ◌≡◌ {A = ℕ} 0 1 = cc in omega arith)

    -- none in the table: none among its own
    pub find-own-none : find v name id ≡ None → index named (owned v id) ≡ None
    find-own-none h = go (index named (owned v id)) (variable-found d (λ c. c ∷ []) []
        ∙ ap (found_in (counted v) no_variable (λ e. cell_of v.memory e ∷ []) []) h)
      where
        go : (f : Option ℕ) → alone f ≡ [] → f ≡ None
        go (Some k) e = absurd (let z : ◌≡◌ {A = ℕ} 0 1 = cc in omega arith)
        go None e = refl

-- a counted variable is the table's entry at that place
pub find-counted : (v : Variables) (name id i : ℕ) → find v name id ≡ Some i
    → (i < v.count) × (get_or (counted v) i no_variable ≡ get_or v.entries i no_variable)
unfolding find
find-counted v name id i h =
    let f = index_at (is_of name id) no_variable (counted v) i h in
    let n : i < v.count = omega (arith, f.inside, take_bound v.count v.entries) in
    (n, get_or-take v.count v.entries i no_variable n)

-- a value's bytes are those it was made of
pub value_made : (kind : ℕ) (bytes : List ℕ) → value_bytes (value_of kind bytes) ≡ bytes
value_made kind bytes = take_at bytes (replicate (value_size - length bytes) 0) (length bytes) refl
