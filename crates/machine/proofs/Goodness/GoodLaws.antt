-- A good area as facts: its header, its IDs and the whole; laws out of each test, and laws into it.
use Prim.Native.Nat.{ℕ, ◌≤◌, ◌<◌}
use mathlib.Core.Path.{◌≡◌, refl, sym}
use mathlib.Core.Logic.{⊎_elim}
use mathlib.Core.Bool.{Bool, true, false, ◌&&◌}
use mathlib.Core.List.{List}
use native.Mathlib.Nat.{eq-or-lt_of_le}
use lib.Dec.{eqb, leb, ltb}
use lib.ListN.{length}
use borrow.Author.Tests.{eq-eqb, eqb-true, le-leb, leb-true, ltb-false, ltb-true, not-true}
use Rattle.buffer.specs.Lists.{all, pairs}
use Rattle.buffer.proofs.Bools.{and_left, and_right, and_both, not-is-true, not-true-is-false, true-not-false}
use Rattle.buffer.proofs.Lists.{all-at, pairs-at}
use Rattle.disc.specs.declared.Entry.{Entry}
use Rattle.variable.specs.Good.{good_variables}
use Rattle.machine.specs.GoodArea.{good_header, good_kernel, good_process, other_id}
use Rattle.machine.specs.Limits.{id_limit}
use Rattle.machine.specs.State.{is_live, live_ids, no_process, process_at}
use Rattle.machine.specs.declared.Kernel.{Kernel}
use Rattle.machine.specs.declared.Process.{Process}

-- ---- the header
pub record GoodHeader (k : Kernel) : Type 0 where
  pub zeros : all (eqb 0) k.zeros ≡ true
  pub low : 1 ≤ k.next
  pub high : k.next ≤ id_limit

pub good-header-is : (k : Kernel) → good_header k ≡ true → GoodHeader k
unfolding good_header
good-header-is k t =
    let r = and_right (all (eqb 0) k.zeros) (leb 1 k.next && leb k.next id_limit) t in
    record {
      zeros = and_left (all (eqb 0) k.zeros) _ t;
      low = leb-true _ _ (and_left (leb 1 k.next) _ r);
      high = leb-true _ _ (and_right (leb 1 k.next) _ r);
    }

pub is-good-header : (k : Kernel) → GoodHeader k → good_header k ≡ true
unfolding good_header
is-good-header k g = and_both g.zeros (and_both (le-leb _ _ g.low) (le-leb _ _ g.high))

-- ---- IDs
module _ (p q : Process) where
  pub other-id-is : other_id p q ≡ true → is_live p ≡ true → is_live q ≡ true → p.id ≡ q.id → ⊥
  unfolding other_id
  other-id-is t h k e = true-not-false (and_both h (and_both k (eq-eqb _ _ e))) (not-true _ t)

  pub is-other-id : (is_live p ≡ true → is_live q ≡ true → p.id ≡ q.id → ⊥) → other_id p q ≡ true
  unfolding other_id
  is-other-id n = not-is-true (not-true-is-false (is_live p && (is_live q && eqb p.id q.id)) same_live)
    where
      same_live : is_live p && (is_live q && eqb p.id q.id) ≡ true → ⊥
      same_live t =
          let r = and_right (is_live p) (is_live q && eqb p.id q.id) t in
          n (and_left (is_live p) (is_live q && eqb p.id q.id) t) (and_left (is_live q) (eqb p.id q.id) r)
          (eqb-true _ _ (and_right (is_live q) (eqb p.id q.id) r))

-- ---- the whole
pub record GoodKernel (entries : List Entry) (k : Kernel) : Type 0 where
  pub variables : good_variables (live_ids k) k.variables ≡ true
  pub header : GoodHeader k
  pub each : all (good_process entries k.next) k.processes ≡ true
  pub distinct : pairs other_id k.processes ≡ true

module _ (entries : List Entry) (k : Kernel) where
  pub good-kernel-is : good_kernel entries k ≡ true → GoodKernel entries k
  unfolding good_kernel
  good-kernel-is t =
      let r = and_right (good_variables (live_ids k) k.variables) _ t in
      let s = and_right (good_header k) _ r in
      record {
        variables = and_left (good_variables (live_ids k) k.variables) _ t;
        header = good-header-is k (and_left (good_header k) _ r);
        each = and_left (all (good_process entries k.next) k.processes) _ s;
        distinct = and_right (all (good_process entries k.next) k.processes) _ s;
      }

  pub is-good-kernel : GoodKernel entries k → good_kernel entries k ≡ true
  unfolding good_kernel
  is-good-kernel g = and_both g.variables (and_both (is-good-header k g.header) (and_both g.each g.distinct))

  module _ (good : good_kernel entries k ≡ true) where
    pub good-process-at : (i : ℕ) → i < length k.processes → good_process entries k.next (process_at k i) ≡ true
    good-process-at i h = all-at (good_process entries k.next) k.processes i no_process h (good-kernel-is good).each

    -- an ID is that of one live process
    pub one-of-id : (i j : ℕ) → i < length k.processes → j < length k.processes → is_live (process_at k i) ≡ true
        → is_live (process_at k j) ≡ true
        → (process_at k i).id ≡ (process_at k j).id → i ≡ j
    one-of-id i j h m a b e = go (ltb i j) refl
      where
        later : (x y : ℕ) → x < y → y < length k.processes → is_live (process_at k x) ≡ true → is_live (process_at k y) ≡ true
            → (process_at k x).id ≡ (process_at k y).id → ⊥
        later x y l n = other-id-is (process_at k x) (process_at k y)
            (pairs-at other_id k.processes x y no_process l n (good-kernel-is good).distinct)

        go : (t : Bool) → ltb i j ≡ t → i ≡ j
        go true w = absurd (later i j (ltb-true i j w) m a b e)
        go false w =
            let l : j ≤ i = ltb-false i j w in
            ⊎_elim (λ q. sym q) (λ n. absurd (later j i n h b a (sym e))) (eq-or-lt_of_le l)
