-- Slots and IDs: a live process is found under its ID in its slot, and nowhere else.
use Rattle.std.specs.Prelude.{None, Some}
use Prim.Native.Nat.{ℕ, ◌<◌}
use mathlib.Core.Path.{◌≡◌, refl, ap, sym, ◌∙◌}
use mathlib.Core.Bool.{Bool, true, false}
use mathlib.Core.List.{List}
use native.Mathlib.Omega.{arith}
use lib.Dec.{ltb}
use lib.ListN.{length, get_or-eq_default}
use borrow.Author.Tests.{eq-eqb, eqb-true, ltb-false, ltb-true}
use Rattle.buffer.proofs.Bools.{and_both, and_left, and_right, not-true-is-false, true-not-false}
use Rattle.buffer.proofs.Lists.{index_is, index-miss}
use Rattle.buffer.proofs.Tables.{index_at, index-none}
use Rattle.disc.specs.Directory.{files}
use Rattle.machine.specs.Area.{kernel_of}
use Rattle.machine.specs.Limits.{slot_count}
use Rattle.machine.specs.Observation.{place_in}
use Rattle.machine.specs.Trace.{Storage}
use Rattle.machine.specs.State.{has_id, is_live, no_process, process_at, slot_of}
use Rattle.machine.specs.declared.Kernel.{Kernel}
use Rattle.machine.specs.declared.Process.{Process}
use Rattle.machine.proofs.Changes.Change.{GoodState}
use Rattle.machine.proofs.Goodness.GoodLaws.{one-of-id}

-- past the records nothing is live
pub live_inside : (k : Kernel) (s : ℕ) → is_live (process_at k s) ≡ true → s < length k.processes
live_inside k s h = go (ltb s (length k.processes)) refl
  where
    go : (b : Bool) → ltb s (length k.processes) ≡ b → s < length k.processes
    go true e = ltb-true s (length k.processes) e
    go false e = absurd (true-not-false h
        (ap is_live (get_or-eq_default k.processes no_process (ltb-false s (length k.processes) e))))

pub live-below-ten : {k : Kernel} {disc : List ℕ} → GoodState k disc → (s : ℕ) → is_live (process_at k s) ≡ true → s < slot_count
live-below-ten {k} g s h = omega (arith, live_inside k s h, g.sized.processes)

has-id-is : (i : ℕ) (p : Process) → has_id i p ≡ true → (is_live p ≡ true) × (p.id ≡ i)
has-id-is i p t = (and_left (is_live p) _ t, eqb-true p.id i (and_right (is_live p) _ t))

is-has-id : (i : ℕ) (p : Process) → is_live p ≡ true → p.id ≡ i → has_id i p ≡ true
is-has-id i p h e = and_both h (eq-eqb p.id i e)

-- ---- what the search for an ID found
pub slot_at : (k : Kernel) (i s : ℕ) → slot_of k i ≡ Some s → (s < length k.processes) × (is_live (process_at k s) ≡ true)
    × ((process_at k s).id ≡ i)
unfolding slot_of
slot_at k i s e =
    let f = index_at (has_id i) no_process k.processes s e in
    let h = has-id-is i (process_at k s) f.holds in
    (f.inside, h.0, h.1)

pub slot-none : (k : Kernel) (i : ℕ) → slot_of k i ≡ None → (s : ℕ) → is_live (process_at k s) ≡ true → (process_at k s).id ≡ i → ⊥
unfolding slot_of
slot-none k i e s h q =
    true-not-false (is-has-id i (process_at k s) h q) (index-none (has_id i) no_process k.processes e s (live_inside k s h))

-- ---- what it will find
pub slot-nowhere : (k : Kernel) (i : ℕ) → ((s : ℕ) → is_live (process_at k s) ≡ true → (process_at k s).id ≡ i → ⊥) → slot_of k i ≡ None
unfolding slot_of
slot-nowhere k i n =
    index-miss (has_id i) k.processes no_process
    (λ s h. not-true-is-false (has_id i (process_at k s)) (λ t. let f = has-id-is i (process_at k s) t in n s f.0 f.1))

pub slot_is : {k : Kernel} {disc : List ℕ} → GoodState k disc → (s i : ℕ) → is_live (process_at k s) ≡ true → (process_at k s).id ≡ i
    → slot_of k i ≡ Some s
unfolding slot_of
slot_is {k} {disc} g s i h e =
    index_is (has_id i) k.processes s no_process (live_inside k s h) (is-has-id i (process_at k s) h e)
    (λ t m. not-true-is-false (has_id i (process_at k t)) (before t m))
  where
    before : (t : ℕ) → t < s → has_id i (process_at k t) ≡ true → ⊥
    before t m b =
        let f = has-id-is i (process_at k t) b in
        let w : t ≡ s = one-of-id (files disc) k g.area t s (live_inside k t f.0) (live_inside k s h) f.0 h (f.1 ∙ sym e) in
        omega arith

-- the place of a live process in a run is its slot
pub place-is-slot : (s : Storage) (i : ℕ) → place_in s i ≡ slot_of (kernel_of s.area) i
unfolding place_in slot_of
place-is-slot s i = refl
