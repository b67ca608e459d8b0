-- An OPEN that leaves a file more: the file is open at its first byte and holds zeros, and the stack has room for the empty string.
use Rattle.std.specs.Prelude.{Ok, Err, Result}
use Rattle.std.specs.Prelude.{None, Option, Some}
use Prim.Native.Nat.{ℕ, ◌+◌, ◌≤◌}
use mathlib.Core.Path.{◌≡◌, refl, sym, ap, subst⁻¹, ◌∙◌}
use mathlib.Core.Bool.{Bool, true, false}
use mathlib.Core.List.{List}
use native.Mathlib.Omega.{arith}
use lib.Dec.{ltb}
use lib.ListN.{length, get_or, length-replicate}
use lib.Seq.{take_at}
use Rattle.buffer.specs.Buffer.{zeros}
use Rattle.number.specs.declared.Number.{Number}
use Rattle.operator.specs.Instruction.{lookup as lookup_operator, operator_of}
use Rattle.operator.specs.declared.instruction.Types.TheVariants.{AnyNumber, AnyString}
use Rattle.place.specs.Place.{run_from}
use Rattle.disc.specs.Directory.{contents, file_count, lookup}
use Rattle.disc.specs.Name.{trimmed}
use Rattle.store.specs.File.{admission, stored}
use Rattle.store.specs.declared.Refusal.{Refusal}
use Rattle.store.proofs.Admissions.{Admitted, admitted, zeros-admitted}
use Rattle.store.proofs.Effects.{stored-data}
use Rattle.variable.specs.Table.{owned}
use Rattle.machine.specs.Asking.{past, reaches}
use Rattle.machine.specs.Beyond.{answered, created, created_at, file_run, new_file_size, opened, opened_at}
use Rattle.machine.specs.Effect.{Effect, asks, number, opens, unless_faults, with_number, with_popped}
use Rattle.machine.specs.Exec.{exec, performs}
use Rattle.machine.specs.Instruction.{find, instruction_of}
use Rattle.machine.specs.Limits.{stack_size}
use Rattle.machine.specs.Stack.{Popped, cannot, pop, popped}
use Rattle.machine.specs.State.{Local, is_live, is_running, local_of, process_at, with_file, with_local}
use Rattle.machine.specs.Turn.{Turned, answering, carried_out, program_of, turned}
use Rattle.machine.specs.declared.Kernel.{Kernel}
use Rattle.machine.specs.declared.Process.{Process}
use Rattle.machine.specs.declared.instruction.Reach.TheVariants.{OpenFile}
use Rattle.machine.proofs.Changes.Change.{GoodState}
use Rattle.machine.proofs.Changes.LiveRecords.{running-live, within-local}
use Rattle.machine.proofs.Changes.Replaced.{put-at}
use Rattle.machine.proofs.Instructions.Popping.{Pops, pop-pops, string-lay}

-- the process i, running, has a file of zeros open at its first byte, and room for three bytes on its stack
pub record Fresh (i : ℕ) (p : Process) (disc : List ℕ) : Type 0 where
  pub named : p.id ≡ i
  pub runs : is_running p ≡ true
  pub some : 1 ≤ p.file.len
  pub first : p.file.offset ≡ 0
  pub holds : contents disc (file_run p.file) ≡ zeros p.file.len
  pub room : length (local_of p).stack + 3 ≤ stack_size

module _ {k : Kernel} {disc : List ℕ} (good : GoodState k disc) (slot clock : ℕ) (running : is_running (process_at k slot) ≡ true) where
  abbrev p : Process
  p = process_at k slot

  abbrev stack : List ℕ
  stack = (local_of p).stack

  live : is_live p ≡ true
  live = running-live p running

  -- where there is a file more after the turn, the process is fresh
  abbrev Leaves : Turned → Type 0
  Leaves t = file_count t.disc ≡ file_count disc + 1 → Fresh p.id (process_at t.kernel slot) t.disc

  same_count : {A : Type 0} → file_count disc ≡ file_count disc + 1 → A
  same_count e = absurd (omega arith)

  -- ---- the new file
  create : (name : List ℕ) (l : Local) → length l.stack + 3 ≤ stack_size → (n s : ℕ) → Admitted disc name n s
      → Fresh p.id (with_file (with_local p l) (opened (run_from s n))) (stored disc name (zeros n) s)
  create name l room n s a =
      record {
        named = refl;
        runs = running;
        some = a.some;
        first = refl;
        holds = ap (λ (m : ℕ). contents (stored disc name (zeros n) s) (run_from s m)) (sym (length-replicate n 0))
            ∙ stored-data (zeros n) good.sound (zeros-admitted a);
        room = subst⁻¹ (λ (m : List ℕ). length m + 3 ≤ stack_size) (take_at l.stack _ (length l.stack) refl) room;
      }

  opening : (name : List ℕ) (size : Number) (l : Local) → length l.stack + 3 ≤ stack_size
      → Leaves (answering k slot disc (opened_at k slot disc (lookup disc name) name size l))
  opening name size l room = found (lookup disc name)
    where
      judged : (n : ℕ) (a : Result ℕ Refusal) → admission disc name n ≡ a → Leaves (answering k slot disc (created_at k slot disc a name n
          l))
      judged n (Err r) q e = same_count e
      judged n (Ok s) q e =
          subst⁻¹ (λ (r : Process). Fresh p.id r (stored disc name (zeros n) s))
          (put-at k slot (with_file (with_local p l) (opened (run_from s n))) live) (create name l room n s (admitted disc name n s q))

      sized : (s : Option ℕ) → Leaves (answering k slot disc (created k slot disc s name l))
      sized None e = same_count e
      sized (Some n) e = judged n (admission disc name n) refl e

      found : (f : Option ℕ) → Leaves (answering k slot disc (opened_at k slot disc f name size l))
      found (Some i) e = same_count e
      found None e = sized (new_file_size disc size) e

  -- ---- the instruction
  abbrev prog : List ℕ
  prog = program_of disc p

  abbrev on : List ℕ → Local
  on rest = past prog stack p.loopstart p.pc rest

  abbrev Does : Effect → Type 0
  Does e = Leaves (carried_out k slot disc e)

  named : (size : Number) (below : List ℕ) → length below ≤ length stack → (top : Popped) → Pops AnyString below top
      → Does (with_popped top λ name rest. asks (opens (trimmed name.bytes) size (on rest)))
  unfolding carried_out answered Pops
  named size below h (cannot n) t e = same_count e
  named size below h (popped name rest) t e =
      opening (trimmed name.bytes) size (on rest)
      (omega (arith, string-lay below name rest t, (within-local good slot live).stack)) e

  asked : (top : Popped) → Pops AnyNumber stack top
      → Does (with_number top λ size below.
      with_popped (pop AnyString below) λ name rest. asks (opens (trimmed name.bytes) size (on rest)))
  unfolding carried_out Pops
  asked (cannot n) t e = same_count e
  asked (popped size below) t e = named (number size) below (omega (arith, t.lay)) (pop AnyString below) (pop-pops AnyString below) e

  performed : (inside : Bool) → Does (unless_faults inside 2 (reaches prog stack p.loopstart p.pc OpenFile))
  unfolding carried_out
  performed false e = same_count e
  performed true e = asked (pop AnyNumber stack) (pop-pops AnyNumber stack) e

  pub created-fresh : get_or prog p.pc 0 ≡ 53 → Leaves (turned k slot clock disc)
  unfolding turned exec performs instruction_of operator_of lookup_operator find
  created-fresh found =
      subst⁻¹ (λ (byte : ℕ).
      Does (unless_faults (ltb p.pc (length prog)) 2
      (performs prog stack p.loopstart p.pc clock (instruction_of byte) (owned k.variables p.id))))
      found (performed (ltb p.pc (length prog)))
