-- A turn and a round leave bytes of a state and a disc of bytes, and print bytes.
use Prim.Native.Nat.{ℕ, ◌-◌}
use mathlib.Core.Path.{◌≡◌, refl}
use mathlib.Core.Bool.{Bool, true, false, cond}
use mathlib.Core.List.{List, [], ◌∷◌}
use native.Mathlib.Omega.{arith}
use lib.ListN.{length, replicate}
use Rattle.variable.specs.Assign.{assigned, value_of}
use Rattle.variable.specs.Limits.{value_size}
use Rattle.variable.specs.Table.{owned}
use Rattle.variable.specs.Assign.{Placing}
use Rattle.std.specs.Prelude.{Ok, Err}
use Rattle.variable.specs.declared.Variables.{Variables}
use Rattle.variable.proofs.Goodness.{good-size-bounds}
use Rattle.machine.specs.Beyond.{Answered, carries_on, breaks, answered}
use Rattle.machine.specs.Effect.{Effect, goes, assigns, stops, faults, asks}
use Rattle.machine.specs.Operations.{in_order, round_of, share_of_turns, slots, turn_if_running, turns_due}
use Rattle.machine.specs.State.{Local, is_running, local_of, process_at, with_local, with_process}
use Rattle.machine.specs.Turn.{Turned, answering, carried_out, effect_at, finished, program_of, setting, turned}
use Rattle.machine.specs.declared.Kernel.{Kernel}
use Rattle.machine.specs.declared.Process.{Process}
use Rattle.machine.proofs.Changes.Change.{GoodState}
use Rattle.machine.proofs.Changes.LiveRecords.{running-live, within-local}
use Rattle.machine.proofs.Demands.GoodCalls.{KeepsGood, share-of-turns-good, turn-if-running-good}
use Rattle.machine.proofs.InBytes.AnswerBytes.{ByteAnswered, answer-bytes, local-bytes}
use Rattle.store.proofs.ByteDiscs.{contents-bytes}
use Rattle.buffer.proofs.ByteLists.{Bytes, IsByte, append-bytes, filled-bytes, take-bytes}
use Rattle.machine.proofs.InBytes.ByteStates.{ByteKernel, ByteProcess, ByteVariables, process-at}
use Rattle.machine.proofs.InBytes.ByteSteps.{ByteLocal, assigned-bytes, ended-bytes, owned-bytes, with-local, with-process}
use Rattle.machine.proofs.InBytes.ByteSteps.{with-variables}
use Rattle.buffer.proofs.Each.{Each}
use Rattle.machine.proofs.InBytes.EffectBytes.{GivesBytes}
use Rattle.machine.proofs.InBytes.ExecBytes.{exec-gives}
use Rattle.machine.proofs.Instructions.Executing.{exec-sound}
use Rattle.machine.proofs.Instructions.Sound.{Sound}

pub record ByteTurned (t : Turned) : Type 0 where
  pub kernel : ByteKernel t.kernel
  pub disc : Bytes t.disc
  pub out : Bytes t.out

module _ (k : Kernel) (slot : ℕ) (disc : List ℕ) (good : GoodState k disc) (h : ByteKernel k) (d : Bytes disc)
    (running : is_running (process_at k slot) ≡ true) where
  abbrev p : Process
  p = process_at k slot

  hp : ByteProcess p
  hp = process-at k h slot

  finished-bytes : (fault : ℕ) → IsByte fault → ByteTurned (finished k slot disc fault)
  unfolding Each
  finished-bytes fault b = record { kernel = ended-bytes k h slot fault b; disc = d; out = tt }

  set-bytes : (q : Placing) (v : Variables) (l : Local) → ByteVariables v → ByteLocal l → ByteTurned (setting k slot disc q v l)
  unfolding Each
  set-bytes (Ok a) v l c b = record {
    kernel = with-variables (with_process k slot (with_local p l)) (with-process k h slot (with_local p l) (with-local p hp l b)) v c;
    disc = d;
    out = tt;
  }
  set-bytes (Err e) v l c b = finished-bytes 10 (omega arith)

  answered-bytes : (a : Answered) → ByteAnswered a → ByteTurned (answering k slot disc a)
  unfolding Each
  answered-bytes (carries_on j after) b = record { kernel = b.0; disc = b.1; out = tt }
  answered-bytes (breaks fault) b = finished-bytes fault b

  carried-bytes : (e : Effect) → Sound (program_of disc p) (local_of p) e → GivesBytes e → ByteTurned (carried_out k slot disc e)
  unfolding carried_out Sound GivesBytes
  carried-bytes (goes l out) s b = record {
    kernel = with-process k h slot (with_local p l) (with-local p hp l (local-bytes good h d slot running l s.0 b.0));
    disc = d;
    out = b.1;
  }
  carried-bytes (assigns name kind bytes l) s b =
      let n = good-size-bounds kind (length bytes) s.1 in
      let a = assigned k.variables name p.id (value_of kind bytes) in
      set-bytes a.placing a.variables l
      (assigned-bytes k.variables h.variables name p.id (value_of kind bytes) b.0 hp.id b.1 n.0
      (omega (arith, n.1)) (filled-bytes bytes (value_size - length bytes) b.2))
      (local-bytes good h d slot running l s.0 b.3)
  carried-bytes stops s b = finished-bytes 0 (omega arith)
  carried-bytes (faults n) s b = finished-bytes n (omega (arith, s.1))
  carried-bytes (asks r) s b = answered-bytes (answered k slot disc r) (answer-bytes good h d slot running r s b)

  pub turned-bytes : (clock : ℕ) → ByteTurned (turned k slot clock disc)
  unfolding turned
  turned-bytes clock =
      carried-bytes (effect_at k slot clock disc)
      (exec-sound (program_of disc p) clock (local_of p) (owned k.variables p.id) (within-local good slot (running-live p running)))
      (exec-gives (program_of disc p) (contents-bytes disc d p.code) (local_of p) (take-bytes p.sp p.stack hp.stack) clock
      (owned k.variables p.id) (owned-bytes k.variables h.variables p.id))

-- ---- a round
if-running-bytes : (k : Kernel) (slot clock : ℕ) (disc : List ℕ) → GoodState k disc → ByteKernel k → Bytes disc
    → ByteTurned (turn_if_running k slot clock disc)
unfolding turn_if_running Each
if-running-bytes k slot clock disc good h d = go (is_running (process_at k slot)) refl
  where
    go : (running : Bool) → is_running (process_at k slot) ≡ running
        → ByteTurned (cond running (turned k slot clock disc) (record { kernel = k; disc = disc; out = [] }))
    go true e = turned-bytes k slot disc good h d e clock
    go false e = record { kernel = h; disc = d; out = tt }

abbrev LeavesBytes : (Kernel → ℕ → ℕ → List ℕ → Turned) → Type 0
LeavesBytes each =
    (k : Kernel) (slot clock : ℕ) (disc : List ℕ) → GoodState k disc → ByteKernel k → Bytes disc → ByteTurned (each k slot clock disc)

in-order-bytes : (each : Kernel → ℕ → ℕ → List ℕ → Turned) → KeepsGood each → LeavesBytes each → (l : List ℕ) (k : Kernel) (clock : ℕ)
    (disc : List ℕ)
    → GoodState k disc
    → ByteKernel k
    → Bytes disc
    → ByteTurned (in_order each l k clock disc)
unfolding in_order Each
in-order-bytes each keeps leaves [] k clock disc good h d = record { kernel = h; disc = d; out = tt }
in-order-bytes each keeps leaves (slot ∷ l) k clock disc good h d =
    let t : Turned = each k slot clock disc in
    let b = leaves k slot clock disc good h d in
    let c = in-order-bytes each keeps leaves l t.kernel clock t.disc (keeps k slot clock disc good) b.kernel b.disc in
    record {
      kernel = c.kernel;
      disc = c.disc;
      out = append-bytes t.out (in_order each l t.kernel clock t.disc).out b.out c.out;
    }

share-bytes : LeavesBytes share_of_turns
unfolding share_of_turns
share-bytes k slot clock disc good h d =
    in-order-bytes turn_if_running turn-if-running-good if-running-bytes
    (replicate (turns_due (process_at k slot)) slot) k clock disc good h d

pub round-bytes : (k : Kernel) (clock : ℕ) (disc : List ℕ) → GoodState k disc → ByteKernel k → Bytes disc
    → ByteTurned (round_of k clock disc)
round-bytes = in-order-bytes share_of_turns share-of-turns-good share-bytes slots
