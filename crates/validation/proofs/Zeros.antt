-- The seven zeros as two numbers of four bytes, which share one.
use Prim.Native.Nat.{ℕ, ◌+◌, ◌<◌}
use mathlib.Core.Path.{◌≡◌, refl}
use mathlib.Core.Bool.{Bool, true, ◌&&◌}
use mathlib.Core.List.{List}
use native.Mathlib.Omega.{arith}
use lib.Dec.{eqb}
use lib.ListN.{length, get_or}
use borrow.Author.Tests.{eq-eqb, eqb-true}
use Rattle.buffer.specs.Buffer.{four_at, part}
use Rattle.buffer.specs.Lists.{all, tab}
use Rattle.buffer.proofs.Bools.{and_both, and_left, and_right}
use Rattle.buffer.proofs.Equivalence.{both_ways}
use Rattle.buffer.proofs.Fours.{part-spelled}
use Rattle.buffer.proofs.Tables.{all-tab-at}
use Rattle.machine.specs.Limits.{area_length, zeros_at, zeros_size}

module _ (area : List ℕ) where
  abbrev zero : ℕ → ℕ
  zero i = get_or area (zeros_at + i) 0

  abbrev fours : Bool
  fours = eqb (four_at area zeros_at) 0 && eqb (four_at area (zeros_at + 3)) 0

  to-fours : all (eqb 0) (tab zero zeros_size) ≡ true → fours ≡ true
  unfolding four_at
  to-fours t =
      let z : (i : ℕ) → i < zeros_size → 0 ≡ zero i = λ i h. eqb-true 0 (zero i) (all-tab-at zero zeros_size (eqb 0) i h t) in
      let shared = z 3 (omega arith) in
      and_both
      (eq-eqb (four_at area zeros_at) 0 (omega (arith, z 0 (omega arith), z 1 (omega arith), z 2 (omega arith))))
      (eq-eqb (four_at area (zeros_at + 3)) 0 (omega (arith, z 4 (omega arith), z 5 (omega arith), z 6 (omega arith))))

  to-bytes : fours ≡ true → all (eqb 0) (tab zero zeros_size) ≡ true
  unfolding four_at all tab
  to-bytes t =
      let low : four_at area zeros_at ≡ 0 = eqb-true _ _ (and_left _ (eqb (four_at area (zeros_at + 3)) 0) t) in
      let high : four_at area (zeros_at + 3) ≡ 0 = eqb-true _ _ (and_right (eqb (four_at area zeros_at) 0) _ t) in
      let is : (i : ℕ) → 0 ≡ zero i → eqb 0 (zero i) ≡ true = λ i. eq-eqb 0 (zero i) in
      and_both (is 0 (omega arith)) (and_both (is 1 (omega arith)) (and_both (is 2 (omega arith)) (and_both (is 3 (omega arith))
      (and_both (is 4 (omega arith)) (and_both (is 5 (omega arith)) (and_both (is 6 (omega arith)) refl))))))

  pub seven-zeros : length area ≡ area_length → fours ≡ all (eqb 0) (part area zeros_at zeros_size)
  seven-zeros h =
      rw (part-spelled area zeros_at zeros_size (omega arith)) (both_ways fours (all (eqb 0) (tab zero zeros_size)) to-bytes to-fours)
