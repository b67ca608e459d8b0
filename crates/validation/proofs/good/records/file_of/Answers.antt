-- The first place of the ten whose run is equal; none where no run is.
use Rattle.std.specs.Prelude.{Option, Some, None, MatchOption}
use Prim.Native.Nat.{ℕ, ◌≤◌, ◌<◌}
use mathlib.Core.Path.{◌≡◌, sym, subst}
use mathlib.Core.List.{List}
use native.Mathlib.Omega.{arith}
use lib.ListN.{get_or}
use borrow.Author.Rules.{rules}
use Rattle.std.proofs.lemmas.Iterator.{first_from_Range}
use Rattle.std.proofs.lemmas.Option.{none-some, same_Some}
use Rattle.disc.specs.Layout.{max_files}
use Rattle.validation.specs.Columns.{FileOf}
use Rattle.validation.proofs.good.records.file_of.Goals as goal

searched : (runs : List ℕ) (run : ℕ) (file : Option ℕ)
    → MatchOption file ((k : ℕ) → 0 ≤ k → k < max_files → get_or runs k 0 ≡ run → ⊥)
    (λ i. (0 ≤ i) × (i < max_files) × (get_or runs i 0 ≡ run) × ((k : ℕ) → 0 ≤ k → k < i → get_or runs k 0 ≡ run → ⊥))
    → FileOf runs run file
searched runs run None h =
    record { found = λ i e. absurd (none-some i e); missed = λ e i k q. h i (omega arith) k q }
searched runs run (Some j) h =
    record {
      found = λ i e. subst (λ (k : ℕ). (k < max_files) × (get_or runs k 0 ≡ run)) (same_Some j i e) (h.1, h.2);
      missed = λ e. absurd (none-some j (sym e));
    }

pub returns : goal.returns
returns c =
    let runs = c.args.runs.now in
    searched runs c.args.run c.find.result
    (first_from_Range _ _ _ _ (λ k. get_or runs k 0 ≡ c.args.run) (λ k. get_or runs k 0 ≡ c.args.run → ⊥) c.find.ensures.ran
    (λ x q k. search rules) (λ x q k. search rules))
