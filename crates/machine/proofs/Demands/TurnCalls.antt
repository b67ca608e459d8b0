-- A turn as a call: what holds of the state that it steps to holds of the work area that it leaves.
use Prim.Native.Nat.{ℕ, ◌≤◌, ◌<◌}
use mathlib.Core.Path.{◌≡◌, sym, ap, subst, subst⁻¹, ◌∙◌}
use mathlib.Core.Bool.{◌&&◌}
use mathlib.Core.Logic.{◌⊎◌}
use lib.Dec.{leb, ltb}
use lib.IntN.{pos}
use lib.ListN.{length}
use Rattle.buffer.proofs.Bools.{and_left, and_right}
use Rattle.machine.specs.Answer.{Answer, Buffers, answer, turn, turned_answer}
use Rattle.machine.specs.Area.{kernel_of}
use Rattle.machine.specs.Demands.{EndedOnly, turned_state}
use Rattle.machine.specs.Ending.{Ends, RunsOn, Touched}
use Rattle.machine.specs.Limits.{slot_count, turn_room}
use Rattle.machine.specs.Refusals.{state_of, MayTurn}
use Rattle.machine.specs.State.{is_running, process_at}
use Rattle.machine.specs.Turn.{Turned, finished, turned}
use Rattle.machine.specs.declared.Kernel.{Kernel}
use Rattle.machine.proofs.Changes.Change.{GoodState}
use Rattle.machine.proofs.Instructions.Executing.{exec-sound}
use Rattle.machine.proofs.Demands.Faulting.{ends-or-goes, turn-ends, turn-touches}
use Rattle.machine.proofs.Demands.GoodCalls.{good-back, passes-good, turn-good}
use Rattle.machine.proofs.Changes.LiveRecords.{running-live, within-local}
use Rattle.machine.proofs.Demands.Rounds.{turn-running}
use Rattle.machine.proofs.Changes.Slots.{live_inside}
use Rattle.machine.proofs.Operations.Tests.{done-test, done-tests}
use Rattle.machine.proofs.Operations.Turning.{SoundAt, turn-prints}

module _ (b : Buffers) (slot clock : ℕ) (may : MayTurn b slot) where
  abbrev step : Turned
  step = turned (state_of b) slot clock b.disc

  good : GoodState (state_of b) b.disc
  good = passes-good b.disc b.area may.passes

  inside : slot < length (state_of b).processes
  inside = live_inside (state_of b) slot (running-live (process_at (state_of b) slot) may.running)

  sound : SoundAt (state_of b) slot clock b.disc
  sound = exec-sound _ clock _ _ (within-local good slot (running-live (process_at (state_of b) slot) may.running))

  pub turn-done : answer (turn slot clock) b ≡ turned_answer step b
  turn-done = turn-running b slot clock may.passes may.room may.low may.running

  pub state-after : turned_state b slot clock ≡ step.kernel
  state-after = ap (λ (a : Answer). kernel_of a.area) turn-done
      ∙ good-back step.kernel step.disc (turn-good (state_of b) slot clock b.disc good may.running)

  -- ---- faults
  pub ended-only : (n : ℕ) → Ends (state_of b) slot clock b.disc n → EndedOnly b slot n (answer (turn slot clock) b)
  ended-only n ends =
      let whole : answer (turn slot clock) b ≡ turned_answer (finished (state_of b) slot b.disc n) b = turn-done
      ∙ ap (λ (t : Turned). turned_answer t b) (turn-ends ends) in (
        ap (λ (a : Answer). a.number) whole,
        ap (λ (a : Answer). a.disc) whole,
        ap (λ (a : Answer). a.out) whole,
        subst⁻¹ (λ (j : Kernel). Touched (state_of b) slot n j) state-after (turn-touches ends inside),
      )

  pub ends-or-runs : ((n : ℕ) × Ends (state_of b) slot clock b.disc n)
      ⊎ RunsOn (process_at (state_of b) slot) (process_at (turned_state b slot clock) slot)
  ends-or-runs =
      subst⁻¹
      (λ (j : Kernel). ((n : ℕ) × Ends (state_of b) slot clock b.disc n) ⊎ RunsOn (process_at (state_of b) slot) (process_at j slot))
      state-after (ends-or-goes (state_of b) slot clock b.disc may.running inside sound)

  -- ---- output
  pub prints-little : length step.out ≤ turn_room
  prints-little = turn-prints (state_of b) slot clock b.disc good may.running sound

-- ---- a turn that is done has passed the tests
pub turn-passed : (b : Buffers) (slot clock n : ℕ) → (answer (turn slot clock) b).number ≡ pos n → MayTurn b slot
unfolding answer
turn-passed b slot clock n =
    done-tests (λ a. MayTurn b slot) b n _ λ passes.
    done-test (λ a. MayTurn b slot) b n (leb turn_room (length b.out)) 3 _ λ room.
    done-test (λ a. MayTurn b slot) b n (ltb slot slot_count && is_running (process_at (state_of b) slot)) 15 _ λ may h.
    record { passes = passes; room = room; low = and_left (ltb slot slot_count) _ may; running = and_right (ltb slot slot_count) _ may }

pub turn-output-bound : (b : Buffers) (slot clock n : ℕ) → (answer (turn slot clock) b).number ≡ pos n → n ≤ turn_room
turn-output-bound b slot clock n done =
    let may = turn-passed b slot clock n done in
    let same : pos (length (turned (state_of b) slot clock b.disc).out) ≡ pos n =
    sym (ap (λ (a : Answer). a.number) (turn-done b slot clock may)) ∙ done in
    let size : length (turned (state_of b) slot clock b.disc).out ≡ n = cc in
    subst (λ (m : ℕ). m ≤ turn_room) size (prints-little b slot clock may)
