-- Freeing: the entries that stay close up, zeros behind; memory and the variables of others are as they were.
use Prim.Native.Nat.{ℕ, ◌-◌, ◌≤◌}
use mathlib.Core.Path.{◌≡◌, refl, sym, ap, ap₂, ◌∙◌}
use mathlib.Core.Bool.{Bool, true, false, ◌&&◌, not, and-false, and-true}
use mathlib.Core.List.{List, [], ◌++◌, map, append_assoc}
use native.Mathlib.Omega.{arith}
use lib.Dec.{eqb}
use lib.ListN.{length, drop, replicate, length-append, length-drop, length-replicate}
use lib.Seq.{take_at}
use borrow.Author.Tests.{eqb-true, ne_eqb}
use Rattle.buffer.specs.Lists.{keep}
use Rattle.buffer.proofs.Kept.{keep_all, keep-keep, keep-length, keep-map, keep-none, keep-swap}
use Rattle.variable.specs.Limits.{max_variables}
use Rattle.variable.specs.Table.{Shaped, cell_of, counted, freed, freed_all, is_gone, is_of, no_variable, owned, owned_by}
use Rattle.variable.specs.declared.Variable.{Variable}
use Rattle.variable.specs.declared.Variables.{Variables}
use Rattle.variable.proofs.Views.{take_bound}

module _ (v : Variables) (gone : Variable → Bool) where
  pub freed-memory : (freed v gone).memory ≡ v.memory
  unfolding freed
  freed-memory = refl

  pub freed-counted : counted (freed v gone) ≡ keep (λ e. not (gone e)) (counted v)
  unfolding freed
  freed-counted =
      let kept : List Variable = keep (λ e. not (gone e)) (counted v) in
      rw append_assoc (take_at kept (replicate (v.count - length kept) no_variable ++ drop v.count v.entries) (length kept) refl)

  pub freed-count : (freed v gone).count ≤ v.count
  unfolding freed
  freed-count =
      let k = keep-length (λ e. not (gone e)) (counted v) in
      let b = take_bound v.count v.entries in
      omega arith

  pub freed-shaped : v.count ≤ max_variables → Shaped v → Shaped (freed v gone)
  unfolding freed
  freed-shaped h s =
      let n = s.entries in
      let k = freed-count in
      record { memory = s.memory; entries = simp (length-append, length-replicate, length-drop) (omega arith) }

  -- a process none of whose variables goes has them as they were
  pub owned-freed : (id : ℕ) → ((e : Variable) → owned_by id e ≡ true → gone e ≡ false) → owned (freed v gone) id ≡ owned v id
  unfolding owned
  owned-freed id h =
      ap₂ (λ (m : List ℕ) (l : List Variable). map (cell_of m) (keep (owned_by id) l)) freed-memory freed-counted
      ∙ ap (λ (l : List Variable). map (cell_of v.memory) l)
      (keep-keep (owned_by id) (λ e. not (gone e)) (counted v) (λ e k. ap not (h e k)))

-- ---- by whom
not-owned : (id other : ℕ) → (other ≡ id → ⊥) → (e : Variable) → owned_by other e ≡ true → owned_by id e ≡ false
not-owned id other h e k = ne_eqb _ _ (λ q. h (sym (eqb-true _ _ k) ∙ q))

module _ (v : Variables) (id : ℕ) where
  -- freeing by one process leaves every other's variables, in table order
  pub owned-freed-all-other : (other : ℕ) → (other ≡ id → ⊥) → owned (freed_all v id) other ≡ owned v other
  owned-freed-all-other other h = owned-freed v (owned_by id) other (not-owned id other h)

  pub owned-freed-other : (name other : ℕ) → (other ≡ id → ⊥) → owned (freed v (is_of name id)) other ≡ owned v other
  owned-freed-other name other h =
      owned-freed v (is_of name id) other (λ e k. rw (not-owned id other h e k) (and-false (eqb e.name name)))

  -- Document 01: "Ending (STOP, kill, fault) frees the process's variables."
  pub owned-freed-all : owned (freed_all v id) id ≡ []
  unfolding owned
  owned-freed-all =
      ap (λ (l : List Variable). map (cell_of (freed_all v id).memory) (keep (owned_by id) l)) (freed-counted v (owned_by id))
      ∙ ap (λ (l : List Variable). map (cell_of (freed_all v id).memory) l)
      (keep-none (owned_by id) (keep (λ e. not (owned_by id e)) (counted v)) (keep_all (λ e. not (owned_by id e)) (counted v)))

  -- one name goes from the list
  pub owned-freed-name : (name : ℕ) → owned (freed v (is_of name id)) id ≡ keep (λ c. not (eqb c.name name)) (owned v id)
  unfolding owned
  owned-freed-name name =
      ap₂ (λ (m : List ℕ) (l : List Variable). map (cell_of m) (keep (owned_by id) l)) (freed-memory v (is_of name id))
      (freed-counted v (is_of name id))
      ∙ ap (λ (l : List Variable). map (cell_of v.memory) l)
      (keep-swap (owned_by id) (λ e. not (is_of name id e)) (λ e. not (eqb e.name name)) (counted v)
      (λ e k. ap (λ (b : Bool). not (eqb e.name name && b)) k ∙ ap not (and-true (eqb e.name name))))
      ∙ sym (keep-map (λ c. not (eqb c.name name)) (cell_of v.memory) (keep (owned_by id) (counted v)))

-- ---- one test for both ways of freeing: that of a SET, and that of an ending
pub is-gone-named : (name id : ℕ) (e : Variable) → is_gone false name id e ≡ is_of name id e
is-gone-named name id e = refl

pub is-gone-all : (name id : ℕ) (e : Variable) → is_gone true name id e ≡ owned_by id e
is-gone-all name id e = refl
