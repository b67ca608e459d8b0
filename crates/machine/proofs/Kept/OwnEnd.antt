-- What becomes of the acting process itself: as it ends, and its variables after a SET.
use Rattle.std.specs.Prelude.{None}
use Prim.Native.Nat.{ℕ}
use mathlib.Core.Path.{◌≡◌, refl}
use mathlib.Core.Bool.{true}
use mathlib.Core.List.{List, []}
use lib.ListN.{length}
use Rattle.buffer.proofs.Bools.{true-not-false}
use Rattle.disc.specs.Directory.{files}
use Rattle.variable.specs.Assign.{assigned, assigned_cells, new_cell, value_bytes}
use Rattle.variable.specs.Table.{owned}
use Rattle.std.specs.Prelude.{Ok}
use Rattle.variable.specs.declared.Value.{Value}
use Rattle.variable.proofs.Freeing.{owned-freed-all}
use Rattle.variable.proofs.Goodness.{good-variables-is}
use Rattle.variable.proofs.Setting.{assigned-own}
use Rattle.machine.specs.Ended.{ended, ended_process}
use Rattle.machine.specs.State.{is_live, live_ids, process_at, slot_of, with_process}
use Rattle.machine.specs.declared.Kernel.{Kernel}
use Rattle.machine.proofs.Changes.Change.{GoodState}
use Rattle.machine.proofs.Goodness.GoodLaws.{good-kernel-is, one-of-id}
use Rattle.machine.proofs.Changes.Replaced.{put-at, put-live}
use Rattle.machine.proofs.Changes.Slots.{live_inside, slot-nowhere}

module _ (k : Kernel) (w : ℕ) (fault : ℕ) where
  -- Document 01: "Its record keeps name, ID and fault (0 unless a fault) and is otherwise zero."
  pub ended-process : is_live (process_at k w) ≡ true → process_at (ended k w fault) w ≡ ended_process (process_at k w) fault
  unfolding ended
  ended-process live = put-at k w (ended_process (process_at k w) fault) live

  -- Document 01: "Ending (STOP, kill, fault) frees the process's variables."
  pub ended-variables : owned (ended k w fault).variables (process_at k w).id ≡ []
  unfolding ended
  ended-variables = owned-freed-all k.variables (process_at k w).id

  -- no other live process has its ID
  pub ended-gone : (disc : List ℕ) → GoodState k disc → is_live (process_at k w) ≡ true
      → slot_of (ended k w fault) (process_at k w).id ≡ None
  unfolding ended slot_of
  ended-gone disc good live =
      slot-nowhere (with_process k w (ended_process (process_at k w) fault)) (process_at k w).id
      (put-live k w (ended_process (process_at k w) fault) (λ s p. p.id ≡ (process_at k w).id → ⊥) (λ h. absurd (true-not-false h refl))
      (λ s other h same. other (one-of-id (files disc) k good.area s w (live_inside k s h) (live_inside k w live) h live same)))

-- Document 01: "A SET without fault drops the old variable, then adds the new one"
pub set-variables : (k : Kernel) (disc : List ℕ) → GoodState k disc → (name id : ℕ) (x : Value) (a : ℕ) → length (value_bytes x) ≡ x.size
    → (assigned k.variables name id x).placing ≡ Ok a
    → owned (assigned k.variables name id x).variables id ≡ assigned_cells (owned k.variables id) (new_cell name x)
set-variables k disc good name id x a sized placed =
    assigned-own k.variables name id x good.sized.variables
    (good-variables-is (live_ids k) k.variables (good-kernel-is (files disc) k good.area).variables).few sized a placed
