-- "A SET lacks space where fault 10 is defined for it": where it does not, the kernel finds a place.
use Prim.Native.Nat.{ℕ, ◌≤◌}
use mathlib.Core.Path.{◌≡◌, refl, subst}
use mathlib.Core.Bool.{true, false}
use mathlib.Core.List.{List, map}
use lib.Dec.{leb}
use lib.ListN.{length}
use borrow.Author.Tests.{le-leb}
use Rattle.buffer.specs.Lists.{tab}
use Rattle.buffer.proofs.Bools.{not-is-true, true-not-false}
use Rattle.place.specs.Place.{fits}
use Rattle.variable.specs.Assign.{assigned}
use Rattle.variable.specs.Table.{freed, is_of, run_of}
use Rattle.variable.specs.Assign.{Placing}
use Rattle.std.specs.Prelude.{Ok, Err}
use Rattle.variable.specs.declared.Unplaced.TheVariants.{NoEntry, NoRun}
use Rattle.variable.specs.declared.Value.{Value}
use Rattle.variable.specs.declared.Variable.{Variable}
use Rattle.variable.specs.declared.Variables.{Variables}
use Rattle.variable.proofs.Freeing.{freed-counted}
use Rattle.variable.proofs.Setting.{assigned-no-entry, assigned-no-run}
use Rattle.variable.specs.Limits.{max_variables, memory_size}
use Rattle.machine.specs.Suppositions.{lacks_space, others_than}
use Rattle.buffer.proofs.Disjunctions.{any_none, or-first, or-second}

module _ (v : Variables) (name i : ℕ) (x : Value) where
  abbrev others : List Variable
  others = others_than name i v

  pub freed-count-is : (freed v (is_of name i)).count ≡ length others
  unfolding freed
  freed-count-is = refl

  pub room-found : lacks_space v name i x.size ≡ false → (a : ℕ) × ((assigned v name i x).placing ≡ Ok a)
  unfolding lacks_space
  room-found h = go (assigned v name i x).placing refl
    where
      go : (q : Placing) → (assigned v name i x).placing ≡ q → (a : ℕ) × ((assigned v name i x).placing ≡ Ok a)
      go (Ok a) e = (a, e)
      go (Err NoEntry) e =
          let full : leb max_variables (length others) ≡ true =
          le-leb max_variables (length others) (subst (λ (n : ℕ). max_variables ≤ n) freed-count-is (assigned-no-entry v name i x e)) in
          absurd (true-not-false (or-first _ full) h)
      go (Err NoRun) e =
          let runs : (freed v (is_of name i)).count ≡ length others = freed-count-is in
          let none : (a : ℕ) → fits (map run_of others) 0 memory_size x.size a ≡ false = λ a.
          subst (λ (l : List Variable). fits (map run_of l) 0 memory_size x.size a ≡ false) (freed-counted v (is_of name i))
          (assigned-no-run v name i x e a) in
          absurd (true-not-false
          (or-second (leb max_variables (length others))
          (not-is-true (any_none (fits (map run_of others) 0 memory_size x.size) (tab (λ a. a) memory_size) none))) h)
