-- A turn of a running process is a change, and prints at most 32 bytes.
use Prim.Native.Nat.{ℕ, ◌≤◌}
use mathlib.Core.Path.{◌≡◌, refl}
use mathlib.Core.Bool.{true}
use mathlib.Core.List.{List}
use native.Mathlib.Omega.{arith}
use lib.ListN.{length}
use Rattle.variable.specs.Assign.{assigned, value_of}
use Rattle.variable.specs.Assign.{Placing}
use Rattle.std.specs.Prelude.{Ok, Err}
use Rattle.variable.specs.declared.Variables.{Variables}
use Rattle.machine.specs.Beyond.{Answered, carries_on, breaks, answered}
use Rattle.machine.specs.Effect.{Effect, goes, assigns, stops, faults, asks}
use Rattle.machine.specs.Limits.{turn_room}
use Rattle.machine.specs.Stack.{top_string}
use Rattle.machine.specs.State.{Local, is_live, is_running, local_of, process_at}
use Rattle.machine.specs.Turn.{effect_at, answering, carried_out, program_of, setting, turned}
use Rattle.machine.specs.declared.Kernel.{Kernel}
use Rattle.machine.proofs.Operations.Answering.{answer-change}
use Rattle.machine.proofs.Operations.Carrying.{assigns-here, ends-here, moves-local}
use Rattle.machine.proofs.Changes.Change.{GoodState, Change}
use Rattle.machine.proofs.Changes.LiveRecords.{running-live}
use Rattle.machine.proofs.Instructions.Sound.{Sound}

abbrev pub SoundAt : Kernel → ℕ → ℕ → List ℕ → Type 0
SoundAt k slot clock disc = Sound (program_of disc (process_at k slot)) (local_of (process_at k slot)) (effect_at k slot clock disc)

module _ (k : Kernel) (slot clock : ℕ) (disc : List ℕ) (good : GoodState k disc) (running : is_running (process_at k slot) ≡ true)
    (sound : SoundAt k slot clock disc) where
  pub turn-change : Change (top_string (local_of (process_at k slot)).stack) slot k disc (turned k slot clock disc).kernel
      (turned k slot clock disc).disc
  unfolding turned carried_out Sound
  turn-change = carried (effect_at k slot clock disc) sound
    where
      name : List ℕ
      name = top_string (local_of (process_at k slot)).stack

      live : is_live (process_at k slot) ≡ true
      live = running-live (process_at k slot) running

      carried : (e : Effect) → Sound (program_of disc (process_at k slot)) (local_of (process_at k slot)) e
          → Change name slot k disc (carried_out k slot disc e).kernel (carried_out k slot disc e).disc
      carried (goes l out) s = moves-local good slot live name l s.0
      carried (assigns letter kind bytes l) s =
          assigns-here good slot live name letter kind bytes l s.0 s.1
          (assigned k.variables letter (process_at k slot).id (value_of kind bytes)).placing refl
      carried stops s = ends-here good slot live name 0
      carried (faults n) s = ends-here good slot live name n
      carried (asks r) s = answer-change good slot running name refl r s

  pub turn-prints : length (turned k slot clock disc).out ≤ turn_room
  unfolding turned carried_out Sound
  turn-prints = carried (effect_at k slot clock disc) sound
    where
      set-prints : (q : Placing) (v : Variables) (l : Local) → length (setting k slot disc q v l).out ≤ turn_room
      set-prints (Ok a) v l = omega arith
      set-prints (Err e) v l = omega arith

      answer-prints : (a : Answered) → length (answering k slot disc a).out ≤ turn_room
      answer-prints (carries_on j after) = omega arith
      answer-prints (breaks n) = omega arith

      carried : (e : Effect) → Sound (program_of disc (process_at k slot)) (local_of (process_at k slot)) e
          → length (carried_out k slot disc e).out ≤ turn_room
      carried (goes l out) s = s.1
      carried (assigns letter kind bytes l) s =
          set-prints (assigned k.variables letter (process_at k slot).id (value_of kind bytes)).placing
          (assigned k.variables letter (process_at k slot).id (value_of kind bytes)).variables l
      carried stops s = omega arith
      carried (faults n) s = omega arith
      carried (asks r) s = answer-prints (answered k slot disc r)
