-- Good variables: what the test says, and that freeing and setting keep it.
use Prim.Native.Nat.{ℕ, ◌+◌, ◌≤◌, ◌<◌}
use mathlib.Core.Path.{◌≡◌, refl, sym, ◌∙◌}
use mathlib.Core.Bool.{Bool, true, false, ◌&&◌, not}
use mathlib.Core.List.{List, [], ◌∷◌}
use mathlib.Core.Logic.{⊎_elim}
use native.Mathlib.Omega.{arith}
use lib.Dec.{eqb, leb}
use lib.ListN.{length}
use borrow.Author.Tests.{eqb-false, eqb-true, le-leb, leb-true, not-true}
use Rattle.buffer.specs.Buffer.{part}
use Rattle.buffer.specs.Lists.{all, any, pairs}
use Rattle.buffer.proofs.Disjunctions.{or_cases}
use Rattle.buffer.proofs.Bools.{and_both, and_left, and_right}
use Rattle.buffer.proofs.Kept.{all-kept, keep_all, pairs-keep}
use Rattle.buffer.proofs.Lists.{all_snoc, pairs-snoc}
use Rattle.buffer.proofs.Parts.{part_length}
use Rattle.buffer.proofs.Tables.{all_map}
use Rattle.place.specs.Place.{apart}
use Rattle.place.proofs.Place.{Fits, apart-sym}
use Rattle.variable.specs.Assign.{added, assigned, high_end, low_end, new_variable, taken_runs, value_bytes}
use Rattle.variable.specs.Good.{beside, good_size, good_variable, good_variables}
use Rattle.variable.specs.Limits.{max_string, max_variables, memory_size}
use Rattle.variable.specs.Table.{Shaped, counted, freed, freed_all, is_of, owned_by, run_of}
use Rattle.variable.specs.declared.Value.{Value}
use Rattle.variable.specs.declared.Variable.{Variable}
use Rattle.variable.specs.declared.Variables.{Variables}
use Rattle.variable.proofs.Adding.{added-count, added-counted}
use Rattle.variable.proofs.Freeing.{freed-count, freed-counted, freed-shaped}
use Rattle.variable.proofs.Setting.{assigned-keeps, place-address}

-- ---- what the tests say
pub good-size-bounds : (kind size : ℕ) → good_size kind size ≡ true → (1 ≤ size) × (size ≤ max_string)
unfolding good_size
good-size-bounds kind size h =
    ⊎_elim (fixed 1 1 (omega arith) (omega arith))
    (λ h. ⊎_elim (fixed 2 2 (omega arith) (omega arith)) (λ h. ⊎_elim (fixed 4 4 (omega arith) (omega arith)) text (or_cases _ _ h))
    (or_cases _ _ h))
    (or_cases _ _ h)
  where
    fixed : (k n : ℕ) → 1 ≤ n → n ≤ max_string → eqb kind k && eqb size n ≡ true → (1 ≤ size) × (size ≤ max_string)
    fixed k n lo hi e = let q : size ≡ n = eqb-true size n (and_right (eqb kind k) (eqb size n) e) in omega arith

    text : eqb kind 3 && (leb 1 size && leb size max_string) ≡ true → (1 ≤ size) × (size ≤ max_string)
    text e =
        let b = and_right (eqb kind 3) (leb 1 size && leb size max_string) e in (
          leb-true 1 size (and_left (leb 1 size) (leb size max_string) b),
          leb-true size max_string (and_right (leb 1 size) (leb size max_string) b),
        )

pub record GoodVariable (live : List ℕ) (e : Variable) : Type 0 where
  pub size : good_size e.kind e.size ≡ true
  pub inside : e.address + e.size ≤ memory_size
  pub owner : any (eqb e.owner) live ≡ true

pub good-variable-is : (live : List ℕ) (e : Variable) → good_variable live e ≡ true → GoodVariable live e
unfolding good_variable
good-variable-is live e h =
    let r = and_right (good_size e.kind e.size) (leb (e.address + e.size) memory_size && any (eqb e.owner) live) h in
    record {
      size = and_left (good_size e.kind e.size) (leb (e.address + e.size) memory_size && any (eqb e.owner) live) h;
      inside = leb-true _ _ (and_left (leb (e.address + e.size) memory_size) (any (eqb e.owner) live) r);
      owner = and_right (leb (e.address + e.size) memory_size) (any (eqb e.owner) live) r;
    }

pub is-good-variable : (live : List ℕ) (e : Variable) → GoodVariable live e → good_variable live e ≡ true
unfolding good_variable
is-good-variable live e g = and_both g.size (and_both (le-leb _ _ g.inside) g.owner)

pub record GoodVariables (live : List ℕ) (v : Variables) : Type 0 where
  pub few : v.count ≤ max_variables
  pub each : all (good_variable live) (counted v) ≡ true
  pub pairwise : pairs beside (counted v) ≡ true

module _ (live : List ℕ) (v : Variables) where
  pub good-variables-is : good_variables live v ≡ true → GoodVariables live v
  unfolding good_variables
  good-variables-is h =
      let each = all (good_variable live) (counted v) in
      let pairwise = pairs beside (counted v) in
      let r = and_right (leb v.count max_variables) (each && pairwise) h in
      record {
        few = leb-true _ _ (and_left (leb v.count max_variables) (each && pairwise) h);
        each = and_left each pairwise r;
        pairwise = and_right each pairwise r;
      }

  pub is-good-variables : GoodVariables live v → good_variables live v ≡ true
  unfolding good_variables
  is-good-variables g = and_both (le-leb _ _ g.few) (and_both g.each g.pairwise)

-- a good variable's value is as long as its entry says
pub value-length : (live : List ℕ) (v : Variables) (e : Variable) → Shaped v → GoodVariable live e
    → length (part v.memory e.address e.size) ≡ e.size
value-length live v e s g =
    let n = s.memory in
    let h = g.inside in
    part_length v.memory e.address e.size (omega arith)

-- ---- freeing
-- good for any live IDs among which the owners of what stays are
pub freed-good : (live next : List ℕ) (v : Variables) (gone : Variable → Bool) → good_variables live v ≡ true
    → ((e : Variable) → gone e ≡ false → any (eqb e.owner) live ≡ true → any (eqb e.owner) next ≡ true)
    → good_variables next (freed v gone) ≡ true
freed-good live next v gone h stays =
    let g = good-variables-is live v h in
    let c = freed-counted v gone in
    is-good-variables next (freed v gone)
    (record {
      few = omega (arith, freed-count v gone, g.few);
      each = rw c (all-kept (λ e. not (gone e)) (good_variable live) (good_variable next) (counted v) still g.each);
      pairwise = rw c (pairs-keep (λ e. not (gone e)) beside (counted v) g.pairwise);
    })
  where
    still : (e : Variable) → not (gone e) ≡ true → good_variable live e ≡ true → good_variable next e ≡ true
    still e k b = let d = good-variable-is live e b in
        is-good-variable next e (record { size = d.size; inside = d.inside; owner = stays e (not-true (gone e) k) d.owner })

pub freed-name-good : (live : List ℕ) (v : Variables) (name id : ℕ) → good_variables live v ≡ true
    → good_variables live (freed v (is_of name id)) ≡ true
freed-name-good live v name id h = freed-good live live v (is_of name id) h (λ e k o. o)

-- and they are good for any live IDs that hold every other one
pub freed-all-good : (live next : List ℕ) (v : Variables) (id : ℕ) → good_variables live v ≡ true
    → ((owner : ℕ) → (owner ≡ id → ⊥) → any (eqb owner) live ≡ true → any (eqb owner) next ≡ true)
    → good_variables next (freed_all v id) ≡ true
freed-all-good live next v id h others = freed-good live next v (owned_by id) h (λ e k o. others e.owner (eqb-false e.owner id k) o)

-- ---- SET
all_both : {A : Type 0} (p q r : A → Bool) (l : List A) → ((x : A) → p x ≡ true → q x ≡ true → r x ≡ true) → all p l ≡ true → all q l ≡ true
    → all r l ≡ true
unfolding all
all_both p q r [] h a b = refl
all_both p q r (x ∷ l) h a b =
    and_both (h x (and_left (p x) (all p l) a) (and_left (q x) (all q l) b))
    (all_both p q r l h (and_right (p x) (all p l) a) (and_right (q x) (all q l) b))

module _ (live : List ℕ) (v : Variables) (e : Variable) (bytes : List ℕ) (shaped : Shaped v) (room : v.count < max_variables)
    (run : Fits (taken_runs v) low_end high_end e.size e.address) (sized : length bytes ≡ e.size) where
  -- a new variable of a live process, in a free run and with a new name
  pub added-good : good_variables live v ≡ true → good_size e.kind e.size ≡ true → any (eqb e.owner) live ≡ true
      → all (λ d. not (is_of e.name e.owner d)) (counted v) ≡ true → good_variables live (added v e bytes) ≡ true
  unfolding beside
  added-good h size owner new =
      let g = good-variables-is live v h in
      let c = added-counted v e bytes shaped room run sized in
      is-good-variables live (added v e bytes)
      (record {
        few = omega (arith, added-count v e bytes shaped room run sized);
        each = rw (c, all_snoc (good_variable live) (counted v) e)
            (and_both g.each (is-good-variable live e (record { size = size; inside = run.high; owner = owner })));
        pairwise = rw (c, pairs-snoc beside (counted v) e)
            (and_both g.pairwise
            (all_both (λ d. apart (run_of e) (run_of d)) (λ d. not (is_of e.name e.owner d)) (λ d. beside d e) (counted v) besides
            (sym (all_map (apart (run_of e)) run_of (counted v)) ∙ run.free) new));
      })
    where
      besides : (d : Variable) → apart (run_of e) (run_of d) ≡ true → not (is_of e.name e.owner d) ≡ true → beside d e ≡ true
      besides d a n = and_both (apart-sym (run_of e) (run_of d) a) n

-- a SET by a live process of a value of a good size keeps the table good
pub assigned-good : (live : List ℕ) (v : Variables) (name id : ℕ) (x : Value) → Shaped v → length (value_bytes x) ≡ x.size
    → good_variables live v ≡ true → good_size x.kind x.size ≡ true → any (eqb id) live ≡ true
    → good_variables live (assigned v name id x).variables ≡ true
assigned-good live v name id x shaped sized h size owner =
    let rest : Variables = freed v (is_of name id) in
    assigned-keeps v name id x (λ (w : Variables). good_variables live w ≡ true) h
    (λ a e.
    let r = place-address rest x.size a e in
    added-good live rest (new_variable name id x a) (value_bytes x) (freed-shaped v (is_of name id) (good-variables-is live v h).few shaped)
    r.0 r.1 sized
    (freed-name-good live v name id h) size owner
    (rw (freed-counted v (is_of name id)) (keep_all (λ d. not (is_of name id d)) (counted v))))
