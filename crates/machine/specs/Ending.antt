-- What ends a process in its turn, and what its ending touches.
use Rattle.std.specs.Prelude.{ℕ, ◌≤◌, ◌≡◌, true, not, List, [], ◌⊎◌, replicate}
use Rattle.buffer.specs.Lists.{keep}
use Rattle.variable.specs.Assign.{assigned, value_of}
use Rattle.variable.specs.Table.{counted, owned, owned_by}
use Rattle.variable.specs.declared.Variable.{Variable}
use Rattle.variable.specs.declared.Variables.{Variables}
use Rattle.variable.specs.declared.Assigned.{Assigned}
use Rattle.std.specs.Prelude.{Err}
use Rattle.variable.specs.declared.Unplaced.TheVariants.{NoEntry, NoRun}
use Rattle.machine.specs.Beyond.{breaks, answered}
use Rattle.machine.specs.Effect.{assigns, stops, faults, asks, Request}
use Rattle.machine.specs.Limits.{stack_size}
use Rattle.machine.specs.State.{Local, is_running, process_at}
use Rattle.machine.specs.Turn.{effect_at}
use Rattle.machine.specs.declared.Kernel.{Kernel}
use Rattle.machine.specs.declared.Process.{Process}

-- the place that a SET finds
abbrev pub placed : Kernel → ℕ → (name kind : ℕ) → List ℕ → Assigned
placed k slot name kind bytes = assigned k.variables name (process_at k slot).id (value_of kind bytes)

-- with the fault: STOP's 0, a fault of the instruction itself, 1 to 9, SET's "10 no variable entry or run", a fault
-- that disc or table answer
pub data Ends (k : Kernel) (slot clock : ℕ) (disc : List ℕ) (n : ℕ) : Type 0 where
  stopped : effect_at k slot clock disc ≡ stops → n ≡ 0 → Ends k slot clock disc n
  faulted : effect_at k slot clock disc ≡ faults n → 1 ≤ n → n ≤ 9 → Ends k slot clock disc n
  unplaced : (name kind : ℕ) (bytes : List ℕ) (l : Local) → effect_at k slot clock disc ≡ assigns name kind bytes l
      → ((placed k slot name kind bytes).placing ≡ Err NoEntry) ⊎ ((placed k slot name kind bytes).placing ≡ Err NoRun)
      → n ≡ 10
      → Ends k slot clock disc n
  broken : (r : Request) → effect_at k slot clock disc ≡ asks r → answered k slot disc r ≡ breaks n
      → Ends k slot clock disc n

-- the process p goes on as q: it runs, with the share that it had. Document 02, Q-9: "kept until the process ends"
pub record RunsOn (p q : Process) : Type 0 where
  pub running : is_running q ≡ true
  pub share : q.share ≡ p.share

-- the entries that are not of that process, in table order, addresses included
abbrev pub entries_of_others : ℕ → Variables → List Variable
entries_of_others id v = keep (λ e. not (owned_by id e)) (counted v)

-- j is k but for the record of that slot and the entries of its process's variables
pub record Touched (k : Kernel) (slot n : ℕ) (j : Kernel) : Type 0 where
  -- Document 01: "Freed memory keeps its bytes"
  pub memory : j.variables.memory ≡ k.variables.memory
  pub others : (i : ℕ) → (i ≡ slot → ⊥) → process_at j i ≡ process_at k i
  -- Document 01: "Its record keeps name, ID and fault (0 unless a fault) and is otherwise zero."; so its share, too
  pub own : process_at j slot
      ≡ record {
        name = (process_at k slot).name;
        id = (process_at k slot).id;
        state = 0;
        fault = n;
        code = record { start = 0; len = 0 };
        pc = 0;
        loopstart = 0;
        file = record { start = 0; len = 0; offset = 0 };
        sp = 0;
        share = 0;
        stack = replicate stack_size 0;
      }
  pub other-variables : (id : ℕ) → (id ≡ (process_at k slot).id → ⊥) → owned j.variables id ≡ owned k.variables id
  pub other_entries : entries_of_others (process_at k slot).id j.variables ≡ entries_of_others (process_at k slot).id
      k.variables
  -- Document 01: "Ending (STOP, kill, fault) frees the process's variables."
  pub own-variables : owned j.variables (process_at k slot).id ≡ []
  pub next : j.next ≡ k.next
  pub zeros : j.zeros ≡ k.zeros
