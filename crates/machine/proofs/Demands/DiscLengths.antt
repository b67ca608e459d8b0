-- What an empty disc of either length takes: the tests of *store*, one after another. What OPEN takes for a new file's size.
use Prim.Native.Nat.{ℕ, zero, suc, ◌+◌, ◌*◌, ◌/◌, ◌≤◌, ◌<◌}
use mathlib.Core.Path.{◌≡◌, refl, ap, ◌∙◌}
use mathlib.Core.Bool.{Bool, true, false}
use mathlib.Core.List.{List}
use mathlib.Core.Logic.{◌⊎◌, inl, inr}
use native.Mathlib.Omega.{arith}
use lib.Dec.{leb}
use lib.Ieee.{up, down}
use lib.IntN.{pos, neg_ℤ}
use lib.ListN.{length}
use borrow.Author.Tests.{leb-true, leb-false}
use Rattle.buffer.specs.Lists.{all, pairs, tab}
use Rattle.float.specs.Whole.{sized, size_of, whole_of, within}
use Rattle.disc.specs.Directory.{DiscLength, file_count, good_disc, good_files}
use Rattle.disc.specs.Layout.{data_start, max_files}
use Rattle.store.specs.File.{size_limit}
use Rattle.store.specs.Room.{Free}
use Rattle.store.proofs.Rooms.{empty-free, size-limit-is}
use Rattle.machine.specs.Answer.{Answer, Buffers, answer, other, store}
use Rattle.machine.specs.DiscLengths.{BothSizes, EmptyDiscTakes, Fitting, OpenTakes, Taken, data_bytes}
use Rattle.machine.specs.Fields.{IsName, NoFile}
use Rattle.machine.specs.Tests.{Decides, Tests, passed, test}
use Rattle.machine.proofs.Demands.Refused.{call-decided}
use Rattle.machine.proofs.Done.Files.{store-done}

module _ (b : Buffers) (name bytes : List ℕ) (long : DiscLength (length b.disc)) (none : file_count b.disc ≡ 0)
    (good : IsName name) where
  abbrev a : Answer
  a = answer (other (store name bytes)) b

  abbrev fits : Type 0
  fits = Fitting b.disc (length bytes)

  -- where a test holds, those behind it decide
  past : (n : ℕ) (rest : Tests) {holds : Type 0} → holds → Decides (test n holds rest) b a → Decides rest b a
  past n rest h (inl p) = p.1
  past n rest h (inr p) = absurd (p.0 h)

  good-disc : good_disc b.disc ≡ true
  unfolding good_disc good_files tab all pairs
  good-disc = rw none refl

  no-file : NoFile b.disc name
  no-file i n = omega (arith, n.counted, none)

  -- ---- the tests of *store* from each on
  abbrev from_place : Tests
  from_place = test 9 ((start : ℕ) × Free b.disc (length bytes) start) passed

  abbrev from-lookup : Tests
  from-lookup = test 7 (NoFile b.disc name) from_place

  abbrev from-count : Tests
  from-count = test 8 (file_count b.disc < max_files) from-lookup

  abbrev from-size : Tests
  from-size = test 6 ((1 ≤ length bytes) × (data_start + length bytes ≤ length b.disc)) from-count

  abbrev from-name : Tests
  from-name = test 5 (IsName name) from-size

  by_size : Decides from-size b a
  by_size =
      past 5 from-size good
      (past 2 from-name good-disc
      (past 1 (test 2 (good_disc b.disc ≡ true) from-name) long (call-decided (other (store name bytes)) b).is))

  takes : Decides from-size b a → (fits × (a.number ≡ pos 0)) ⊎ ((fits → ⊥) × (a.number ≡ neg_ℤ (pos 6)))
  takes (inr p) = inr (λ f. p.0 (f.0, omega (arith, f.1, f.0)), p.1)
  takes (inl p) =
      let f : fits = (p.0.0, omega (arith, p.0.1)) in
      let few : file_count b.disc < max_files = omega (arith, none) in
      let small : length bytes ≤ size_limit b.disc = omega (arith, size-limit-is b.disc, f.1) in
      let room : (start : ℕ) × Free b.disc (length bytes) start =
      (data_start, empty-free b.disc none (length bytes) f.0 small) in
      let d = past 9 passed room (past 7 from_place no-file (past 8 from-lookup few p.1)) in
      inl (f, d.1 ∙ ap pos (store-done b name bytes d.0 d.1).0)

pub empty-disc-takes : EmptyDiscTakes
empty-disc-takes b name bytes long none good = takes b name bytes long none good (by_size b name bytes long none good)

-- n as a size
taken : (disc : List ℕ) (n : ℕ) → Taken disc n (sized (within (data_bytes (length disc)) (pos n)))
taken disc n = go n (leb n (data_bytes (length disc))) refl
  where
    go : (n : ℕ) (small : Bool) → leb n (data_bytes (length disc)) ≡ small
        → Taken disc n (sized (within (data_bytes (length disc)) (pos n)))
    go zero true e = inr (λ f. omega (arith, f.0), rw e refl)
    go zero false e = inr (λ f. omega (arith, f.0), rw e refl)
    go (suc m) true e = inl ((omega arith, leb-true _ _ e), rw e refl)
    go (suc m) false e = inr (λ f. omega (arith, f.1, leb-false (suc m) (data_bytes (length disc)) e), rw e refl)

pub open-takes : OpenTakes
unfolding size_of whole_of
open-takes disc = (taken disc, λ m e. taken disc (m * up e / down e))

pub both-sizes : BothSizes
both-sizes = (refl, refl)
