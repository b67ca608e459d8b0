-- Document 01: "A faulting instruction changes nothing but the ending." What ends a process in its turn leaves the state `ended`, and what
-- does not leaves it running.
use Prim.Native.Nat.{ℕ, ◌<◌}
use mathlib.Core.Path.{◌≡◌, refl, sym, ap, subst⁻¹, ◌∙◌}
use mathlib.Core.Bool.{true, not}
use mathlib.Core.List.{List}
use mathlib.Core.Logic.{◌⊎◌, inl, inr}
use lib.ListN.{length}
use lib.Seq.{get_or-set_other, get_or-set_same}
use Rattle.buffer.specs.Lists.{keep}
use Rattle.buffer.proofs.Kept.{keep-keep}
use Rattle.variable.specs.Table.{counted, freed_all, owned_by}
use Rattle.variable.specs.declared.Assigned.{Assigned}
use Rattle.variable.specs.Assign.{Placing}
use Rattle.std.specs.Prelude.{Ok, Err}
use Rattle.variable.specs.declared.Unplaced.TheVariants.{NoEntry, NoRun}
use Rattle.variable.specs.declared.Variable.{Variable}
use Rattle.variable.specs.declared.Variables.{Variables}
use Rattle.variable.proofs.Freeing.{freed-counted, freed-memory, owned-freed-all, owned-freed-all-other}
use Rattle.machine.specs.Beyond.{Answered, carries_on, breaks, answered}
use Rattle.machine.specs.Effect.{Effect, goes, assigns, stops, faults, asks, Request}
use Rattle.machine.specs.Ending.{Ends, RunsOn, Touched, broken, entries_of_others, faulted, placed, stopped, unplaced}
use Rattle.machine.specs.Ended.{ended, ended_process}
use Rattle.machine.specs.State.{Local, is_running, local_of, no_process, process_at}
use Rattle.machine.specs.Turn.{effect_at, Turned, answering, carried_out, finished, program_of, setting, turned}
use Rattle.machine.specs.declared.Kernel.{Kernel}
use Rattle.machine.proofs.Demands.Lasting.{LeftRunning, answer-left, moved-running}
use Rattle.machine.proofs.Instructions.Sound.{Sound}
use Rattle.machine.proofs.Operations.Turning.{SoundAt}

pub turn-ends : {k : Kernel} {slot clock : ℕ} {disc : List ℕ} {n : ℕ} → Ends k slot clock disc n
    → turned k slot clock disc ≡ finished k slot disc n
unfolding turned carried_out
turn-ends {k} {slot} {clock} {disc} {n} (stopped e z) = ap (carried_out k slot disc) e ∙ ap (finished k slot disc) (sym z)
turn-ends {k} {slot} {clock} {disc} {n} (faulted e some few) = ap (carried_out k slot disc) e
turn-ends {k} {slot} {clock} {disc} {n} (unplaced name kind bytes l e p z) = ap (carried_out k slot disc) e ∙ none p
    ∙ ap (finished k slot disc) (sym z)
  where
    a : Assigned
    a = placed k slot name kind bytes

    none : (a.placing ≡ Err NoEntry) ⊎ (a.placing ≡ Err NoRun) → setting k slot disc a.placing a.variables l ≡ finished k slot disc 10
    none (inl q) = ap (λ (x : Placing). setting k slot disc x a.variables l) q
    none (inr q) = ap (λ (x : Placing). setting k slot disc x a.variables l) q
turn-ends {k} {slot} {clock} {disc} {n} (broken r e q) = ap (carried_out k slot disc) e ∙ ap (answering k slot disc) q

-- ---- what does not end it leaves it running, with its share
pub ends-or-goes : (k : Kernel) (slot clock : ℕ) (disc : List ℕ) → is_running (process_at k slot) ≡ true → slot < length k.processes
    → SoundAt k slot clock disc
    → ((n : ℕ) × Ends k slot clock disc n) ⊎ RunsOn (process_at k slot) (process_at (turned k slot clock disc).kernel slot)
unfolding turned carried_out Sound
ends-or-goes k slot clock disc running low sound = go (effect_at k slot clock disc) refl sound
  where
    set-left : (name kind : ℕ) (bytes : List ℕ) (l : Local) → effect_at k slot clock disc ≡ assigns name kind bytes l → (q : Placing)
        → (placed k slot name kind bytes).placing ≡ q
        → ((n : ℕ) × Ends k slot clock disc n)
        ⊎ RunsOn (process_at k slot) (process_at (setting k slot disc q (placed k slot name kind bytes).variables l).kernel slot)
    set-left name kind bytes l e (Ok a) h = inr (moved-running k slot running low l)
    set-left name kind bytes l e (Err NoEntry) h = inl (10, unplaced name kind bytes l e (inl h) refl)
    set-left name kind bytes l e (Err NoRun) h = inl (10, unplaced name kind bytes l e (inr h) refl)

    asked : (r : Request) → effect_at k slot clock disc ≡ asks r → (a : Answered) → answered k slot disc r ≡ a
        → LeftRunning (process_at k slot) slot a
        → ((n : ℕ) × Ends k slot clock disc n) ⊎ RunsOn (process_at k slot) (process_at (answering k slot disc a).kernel slot)
    asked r e (carries_on j after) h left = inr left
    asked r e (breaks n) h left = inl (n, broken r e h)

    go : (e : Effect) → effect_at k slot clock disc ≡ e → Sound (program_of disc (process_at k slot)) (local_of (process_at k slot)) e
        → ((n : ℕ) × Ends k slot clock disc n) ⊎ RunsOn (process_at k slot) (process_at (carried_out k slot disc e).kernel slot)
    go (goes l out) e h = inr (moved-running k slot running low l)
    go (assigns name kind bytes l) e h = set-left name kind bytes l e (placed k slot name kind bytes).placing refl
    go stops e h = inl (0, stopped e refl)
    go (faults n) e h = inl (n, faulted e h.0 h.1)
    go (asks r) e h = asked r e (answered k slot disc r) refl (answer-left k slot running low disc r)

-- ---- what ending touches: the own record and the entries of the own variables
others-stay : (v : Variables) (id : ℕ) → entries_of_others id (freed_all v id) ≡ entries_of_others id v
others-stay v id =
    ap (λ (l : List Variable). keep (λ e. not (owned_by id e)) l) (freed-counted v (owned_by id))
    ∙ keep-keep (λ e. not (owned_by id e)) (λ e. not (owned_by id e)) (counted v) (λ e h. h)

pub ended-touches : (k : Kernel) (slot n : ℕ) → slot < length k.processes → Touched k slot n (ended k slot n)
unfolding ended
ended-touches k slot n h =
    record {
      memory = freed-memory k.variables (owned_by (process_at k slot).id);
      others = λ i d. get_or-set_other k.processes slot i (ended_process (process_at k slot) n) no_process d;
      own = get_or-set_same k.processes slot (ended_process (process_at k slot) n) no_process h;
      other-variables = λ id d. owned-freed-all-other k.variables (process_at k slot).id id d;
      other_entries = others-stay k.variables (process_at k slot).id;
      own-variables = owned-freed-all k.variables (process_at k slot).id;
      next = refl;
      zeros = refl;
    }

pub turn-touches : {k : Kernel} {slot clock : ℕ} {disc : List ℕ} {n : ℕ} → Ends k slot clock disc n → slot < length k.processes
    → Touched k slot n (turned k slot clock disc).kernel
turn-touches {k} {slot} {clock} {disc} {n} e h =
    subst⁻¹ (λ (t : Turned). Touched k slot n t.kernel) (turn-ends e) (ended-touches k slot n h)
