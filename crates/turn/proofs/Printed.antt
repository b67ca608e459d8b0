-- What an effect prints is what its step prints, so a step carried out and printed is the turn.
use Prim.Native.Nat.{ℕ}
use mathlib.Core.Path.{◌≡◌, refl, sym, ap, ◌∙◌}
use mathlib.Core.List.{List, []}
use lib.ListN.{length}
use lib.Seq.{paste-zero}
use Rattle.buffer.specs.Buffer.{overwrite}
use Rattle.variable.specs.Assign.{assigned, value_of}
use Rattle.variable.specs.Assign.{Placing}
use Rattle.std.specs.Prelude.{Ok, Err}
use Rattle.variable.specs.declared.Variables.{Variables}
use Rattle.machine.specs.Beyond.{Answered, answered, breaks, carries_on}
use Rattle.machine.specs.Area.{kernel_bytes}
use Rattle.machine.specs.Effect.{Effect, faults}
use Rattle.machine.specs.Ended.{ended}
use Rattle.machine.specs.State.{Local, process_at}
use Rattle.machine.specs.Turn.{Turned, answering, carried_out, effect_at, setting, turned}
use Rattle.machine.specs.declared.Kernel.{Kernel}
use Rattle.process.specs.Stepping.{left, left_by}
use Rattle.stack.specs.Steps.{about, effect_by, effect_of, keeping}
use Rattle.stack.specs.declared.Action.{Action}
use Rattle.stack.specs.declared.Action.TheVariants.{Push, Print, Assign, Stop, Open, Close, Write, Read, ReadString, Fork, Await}
use Rattle.stack.specs.declared.Step.{Step}
use Rattle.turn.specs.Turns.{printed, printed_by, turn_left, turn_left_by}

module _ (k : Kernel) (slot : ℕ) (disc : List ℕ) where
  answer-quiet : (a : Answered) → (answering k slot disc a).out ≡ []
  answer-quiet (carries_on j after) = refl
  answer-quiet (breaks n) = refl

  set-quiet : (p : Placing) (v : Variables) (l : Local) → (setting k slot disc p v l).out ≡ []
  set-quiet (Ok a) v l = refl
  set-quiet (Err e) v l = refl

  prints : (a : Action) (stack bytes : List ℕ) (l : Local) → (carried_out k slot disc (effect_by a stack bytes l)).out ≡ printed a bytes
  unfolding carried_out
  prints Push stack bytes l = refl
  prints Print stack bytes l = refl
  prints (Assign name kind) stack bytes l =
      let a = assigned k.variables name (process_at k slot).id (value_of kind bytes) in
      set-quiet a.placing a.variables l
  prints Stop stack bytes l = refl
  prints (Open size) stack bytes l = answer-quiet (answered k slot disc _)
  prints Close stack bytes l = answer-quiet (answered k slot disc _)
  prints Write stack bytes l = answer-quiet (answered k slot disc _)
  prints (Read kind) stack bytes l = answer-quiet (answered k slot disc _)
  prints ReadString stack bytes l = answer-quiet (answered k slot disc _)
  prints Fork stack bytes l = answer-quiet (answered k slot disc _)
  prints (Await id) stack bytes l = answer-quiet (answered k slot disc _)

  -- disc and area as the step leaves them, and what it prints at the front of the output
  pub turn-taken : (clock : ℕ) (stack : List ℕ) (d : Step) → effect_of stack d ≡ effect_at k slot clock disc
      → (count : ℕ) (after area out written : List ℕ) → left after area ≡ left_by (carried_out k slot disc (effect_of stack d))
      → (count ≡ length (printed_by d)) × (written ≡ overwrite out 0 (printed_by d))
      → turn_left count after area written ≡ turn_left_by (turned k slot clock disc) out
  unfolding turned
  turn-taken clock stack d effect count after area out written done text =
      let t : Turned = carried_out k slot disc (effect_of stack d) in
      let said : printed_by d ≡ t.out = sym (prints d.action stack (about d) (keeping stack d)) in
      (λ i. turn_left ((text.0 ∙ ap length said) i) (done i).disc (done i).area ((text.1 ∙ ap (overwrite out 0) said) i))
      ∙ ap (λ (e : Effect). turn_left_by (carried_out k slot disc e) out) effect

  -- a process whose instruction faults is ended, and prints nothing
  pub turn-faulted : (clock fault : ℕ) → faults fault ≡ effect_at k slot clock disc → (area out : List ℕ)
      → area ≡ kernel_bytes (ended k slot fault) → turn_left 0 disc area out ≡ turn_left_by (turned k slot clock disc) out
  unfolding turned carried_out
  turn-faulted clock fault effect area out done =
      (λ i. turn_left 0 disc (done i) (sym (paste-zero out 0 []) i))
      ∙ ap (λ (e : Effect). turn_left_by (carried_out k slot disc e) out) effect
