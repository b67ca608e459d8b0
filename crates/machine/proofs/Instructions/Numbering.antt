-- A byte in no row of the table is no instruction.
use Prim.Native.Nat.{ℕ}
use mathlib.Core.Path.{◌≡◌, refl, sym, ap, ◌∙◌}
use mathlib.Core.Bool.{Bool, cond}
use mathlib.Core.List.{List, [], ◌∷◌}
use borrow.Author.Tests.{ne_eqb}
use Rattle.operator.proofs.Table.{Absent, first}
use Rattle.machine.specs.Instruction.{find}
use Rattle.machine.specs.declared.instruction.Instruction.{Instruction}
use Rattle.machine.specs.declared.instruction.Instruction.TheVariants.{Unknown}

pub absent : (n : ℕ) (table : List (ℕ × Instruction)) (U : Type 0) → Absent n table U → Unknown ≡ find n table
unfolding find
absent n [] U u = refl
absent n (row ∷ table) U u =
    let W = U × (n ≡ row.0 → ⊥) in
    absent n table W u ∙ ap (λ (t : Bool). cond t row.1 (find n table)) (sym (ne_eqb n row.0 (first n table W u).1))
