-- Laws of the lookup by name.
use Rattle.std.specs.Prelude.{None, Some}
use Prim.Native.Nat.{ℕ, ◌<◌}
use mathlib.Core.Path.{◌≡◌, refl, sym, ap, ◌∙◌}
use mathlib.Core.Bool.{Bool, true, false}
use mathlib.Core.List.{List}
use native.Mathlib.Omega.{arith}
use Rattle.buffer.specs.Lists.{index}
use Rattle.buffer.proofs.Bools.{true-not-false}
use Rattle.buffer.proofs.Lists.{same-differ, same-eq, same_refl}
use Rattle.buffer.proofs.Tables.{index-tab-at, index-tab-is, index-tab-none}
use Rattle.disc.specs.Directory.{entry_at, file_count, files, good_disc, lookup, named, nowhere_unless}
use Rattle.disc.specs.Name.{good_name, padded}
use Rattle.disc.proofs.Goodness.{one-of-name}
use Rattle.disc.proofs.Names.{padded-injective}

-- the file at place i has that name, which is good
pub record Located (disc name : List ℕ) (i : ℕ) : Type 0 where
  pub good : good_name name ≡ true
  pub inside : i < file_count disc
  pub held : (entry_at disc i).name ≡ padded name

-- ---- what a lookup found
pub lookup-at : (disc name : List ℕ) (i : ℕ) → lookup disc name ≡ Some i → Located disc name i
unfolding lookup
lookup-at disc name i e = go (good_name name) refl e
  where
    go : (b : Bool) → good_name name ≡ b → nowhere_unless b (index (named name) (files disc)) ≡ Some i → Located disc name i
    go true g h =
        let f = index-tab-at (entry_at disc) (file_count disc) (named name) i h in
        record { good = g; inside = f.0; held = same-eq (entry_at disc i).name (padded name) f.1 }
    go false g h = absurd (let z : ◌≡◌ {A = ℕ} 0 1 = cc in omega arith)

pub lookup-none : {disc name : List ℕ} {i : ℕ} → lookup disc name ≡ None → Located disc name i → ⊥
unfolding lookup
lookup-none {disc} {name} {i} e l = true-not-false here (index-tab-none (entry_at disc) (file_count disc) (named name) missed i l.inside)
  where
    here : named name (entry_at disc i) ≡ true
    here = rw l.held (same_refl (padded name))

    missed : index (named name) (files disc) ≡ None
    missed = ap (λ (b : Bool). nowhere_unless b (index (named name) (files disc))) (sym l.good) ∙ e

-- ---- what a lookup will find

-- where no name stands twice
pub lookup-is : {disc name : List ℕ} {i : ℕ} → good_disc disc ≡ true → Located disc name i → lookup disc name ≡ Some i
unfolding lookup
lookup-is {disc} {name} {i} g l =
    rw l.good (index-tab-is (entry_at disc) (file_count disc) (named name) i l.inside (rw l.held (same_refl (padded name))) before)
  where
    before : (k : ℕ) → k < i → named name (entry_at disc k) ≡ false
    before k h =
        same-differ (entry_at disc k).name (padded name)
        (λ q. let w : k ≡ i = one-of-name disc g k i (omega (arith, l.inside)) l.inside (q ∙ sym l.held) in omega arith)

-- one file has one name
pub located-once : {disc a b : List ℕ} {i : ℕ} → Located disc a i → Located disc b i → a ≡ b
located-once {disc} {a} {b} l m = padded-injective a b l.good m.good (sym l.held ∙ m.held)
