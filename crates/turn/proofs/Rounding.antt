-- The ten slots of a round, and the turns of one slot's share.
use Prim.Native.Nat.{ℕ, ◌≤◌, ◌<◌}
use mathlib.Core.Path.{◌≡◌, refl, sym, subst⁻¹}
use mathlib.Core.Bool.{Bool, true, false, cond}
use mathlib.Core.List.{List}
use native.Mathlib.Omega.{arith}
use lib.Dec.{eqb}
use lib.ListN.{length, get_or, replicate}
use borrow.Author.Tests.{eqb-true}
use Rattle.buffer.specs.Lists.{all, tab}
use Rattle.buffer.proofs.Lists.{all-at, tab-at, tab-length}
use Rattle.machine.specs.Area.{kernel_of}
use Rattle.machine.specs.Limits.{max_share, share_room, slot_count, turn_room}
use Rattle.machine.specs.Operations.{in_order, share_of_turns, slots, turn_if_running, turns_due}
use Rattle.machine.specs.Refusals.{Passes}
use Rattle.machine.specs.State.{is_running, process_at}
use Rattle.machine.specs.declared.Kernel.{Kernel}
use Rattle.machine.proofs.Demands.GoodCalls.{passes-good, share-of-turns-good, turn-if-running-good}
use Rattle.machine.proofs.Demands.Lengths.{few-turns, share-length, share-short, turn-if-running-length, turn-if-running-short, turns-idle}
use Rattle.turn.specs.Turns.{due}
use Rattle.turn.proofs.Going.{Steady}

pub turn-steady : Steady turn_if_running turn_room
turn-steady = record { good = turn-if-running-good; short = turn-if-running-short; same = turn-if-running-length }

pub share-steady : Steady share_of_turns share_room
share-steady = record { good = share-of-turns-good; short = share-short; same = share-length }

-- ---- the ten slots
slots-each : all (λ i. eqb (get_or slots i 0) i) (tab (λ i. i) slot_count) ≡ true
unfolding all tab
slots-each = refl

pub slot_is : (i : ℕ) → i < slot_count → get_or slots i 0 ≡ i
slot_is i h =
    let n : i < length (tab (λ (j : ℕ). j) slot_count) = subst⁻¹ (λ (m : ℕ). i < m) (tab-length (λ (j : ℕ). j) slot_count) h in
    let e : eqb (get_or slots (get_or (tab (λ (j : ℕ). j) slot_count) i 0) 0) (get_or (tab (λ (j : ℕ). j) slot_count) i 0) ≡ true =
    all-at (λ (j : ℕ). eqb (get_or slots j 0) j) (tab (λ (j : ℕ). j) slot_count) i 0 n slots-each in
    eqb-true _ _ (rw (tab-at (λ (j : ℕ). j) slot_count i 0 h) at e)

-- ---- the turns of one slot
module _ (slot clock : ℕ) (disc area : List ℕ) where
  abbrev k : Kernel
  k = kernel_of area

  -- at most eight are due
  pub due-few : Passes disc area → due (process_at k slot) ≤ max_share
  due-few passes = go (is_running (process_at k slot)) refl
    where
      go : (f : Bool) → is_running (process_at k slot) ≡ f → cond f (turns_due (process_at k slot)) 0 ≤ max_share
      go true h = few-turns k slot disc (passes-good disc area passes) h
      go false h = omega arith

  -- the turns that are due are the share
  pub due-share : in_order turn_if_running (replicate (due (process_at k slot)) slot) k clock disc ≡ share_of_turns k slot clock disc
  unfolding share_of_turns in_order
  due-share = go (is_running (process_at k slot)) refl
    where
      go : (f : Bool) → is_running (process_at k slot) ≡ f
          → in_order turn_if_running (replicate (cond f (turns_due (process_at k slot)) 0) slot) k clock disc
          ≡ in_order turn_if_running (replicate (turns_due (process_at k slot)) slot) k clock disc
      go true h = refl
      go false h = sym (turns-idle (turns_due (process_at k slot)) k slot clock disc h)
