-- No byte before the first zero is zero.
use Rattle.std.specs.Prelude.{Option, Some, None, unwrap_or, MatchOption}
use Prim.Native.Nat.{ℕ, ◌≤◌, ◌<◌}
use mathlib.Core.Path.{◌≡◌, sym, subst⁻¹}
use mathlib.Core.List.{List}
use mathlib.Core.Logic.{◌≢◌}
use native.Mathlib.Omega.{arith}
use lib.ListN.{length, get_or, take, get_or-eq_default}
use borrow.Author.Rules.{rules}
use Rattle.std.proofs.lemmas.Iterator.{first_from_Range}
use Rattle.disc.specs.Name.{trimmed}
use Rattle.disc.proofs.Names.{trimmed-at}
use Rattle.disc.proofs.name.text_length.Goals as goal

-- the first zero's place, or the length where there is none
up-to : (b : List ℕ) (r : Option ℕ) {n : ℕ} → n ≡ unwrap_or r (length b)
    → MatchOption r ((k : ℕ) → 0 ≤ k → k < length b → get_or b k 0 ≢ 0)
    (λ i. (0 ≤ i) × (i < length b) × (get_or b i 0 ≡ 0) × ((k : ℕ) → 0 ≤ k → k < i → get_or b k 0 ≢ 0))
    → (n ≤ length b) × (take n b ≡ trimmed b)
up-to b None {n} e h =
    (omega arith, sym (trimmed-at b n (omega arith) (get_or-eq_default b 0 (omega arith)) (λ k l. h k (omega arith) (omega arith))))
up-to b (Some i) {n} e h =
    let is : (i ≤ length b) × (take i b ≡ trimmed b) =
    (omega arith, sym (trimmed-at b i (omega arith) h.2 (λ k l. h.3 k (omega arith) l))) in
    subst⁻¹ (λ (m : ℕ). (m ≤ length b) × (take m b ≡ trimmed b)) e is

pub returns : goal.returns
returns c =
    let b = c.args.bytes.now in
    up-to b c.find.result (search rules)
    (first_from_Range _ _ _ _ (λ k. get_or b k 0 ≡ 0) (λ k. get_or b k 0 ≢ 0) c.find.ensures.ran
    (λ x q k. search rules) (λ x q k. search rules))
