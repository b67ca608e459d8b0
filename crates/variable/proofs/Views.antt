-- The counted entries: as a table of their places, and what a search among them found.
use Prim.Native.Nat.{ℕ, zero, suc, ◌≤◌}
use mathlib.Core.Path.{◌≡◌, refl, ap, ◌∙◌}
use mathlib.Core.List.{List, [], ◌∷◌, ◌++◌}
use native.Mathlib.Omega.{arith}
use lib.ListN.{length, get_or, take}
use lib.Seq.{take-suc}
use Rattle.buffer.specs.Lists.{tab}

pub take-tab : {A : Type 0} (l : List A) (d : A) (n : ℕ) → n ≤ length l → take n l ≡ tab (λ i. get_or l i d) n
unfolding tab
take-tab l d zero h = refl
take-tab {A} l d (suc n) h = take-suc l n d h ∙ ap (λ (m : List A). m ++ (get_or l n d ∷ [])) (take-tab l d n (omega arith))

pub take_bound : {A : Type 0} (n : ℕ) (l : List A) → length (take n l) ≤ n
take_bound zero l = omega arith
take_bound (suc n) [] = omega arith
take_bound (suc n) (x ∷ l) = let h = take_bound n l in omega arith
