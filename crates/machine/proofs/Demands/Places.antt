-- A place is refused only where there is none: OPEN's 13 by 8 or 9, and SET's 10 come only with a full table or with no free run long
-- enough.
use Rattle.std.specs.Prelude.{None, Option, Some}
use Prim.Native.Nat.{ℕ, ◌≤◌}
use mathlib.Core.Path.{◌≡◌, refl, ap, ◌∙◌, subst}
use mathlib.Core.Bool.{Bool, true, false}
use mathlib.Core.List.{List}
use mathlib.Core.Logic.{◌⊎◌, inl, inr}
use native.Mathlib.Omega.{arith}
use lib.Dec.{ltb}
use lib.ListN.{length}
use lib.Seq.{get_or-set_same}
use borrow.Author.Tests.{ltb-false}
use Rattle.buffer.proofs.Bools.{true-not-false}
use Rattle.number.specs.declared.Number.{Number}
use Rattle.place.specs.Place.{place}
use Rattle.place.specs.declared.Run.{Run}
use Rattle.place.proofs.Place.{no-place-none-fits}
use Rattle.disc.specs.Directory.{good_disc, is_disc_length, lookup}
use Rattle.variable.specs.Assign.{assigned, assign_at, entry_limit, high_end, if_entry, low_end, place_for, placing}
use Rattle.variable.specs.Assign.{placing_fault}
use Rattle.variable.specs.Assign.{value_of}
use Rattle.variable.specs.Assign.{taken_runs}
use Rattle.variable.specs.Table.{freed, is_of}
use Rattle.variable.specs.declared.Assigned.{Assigned}
use Rattle.variable.specs.Assign.{Placing}
use Rattle.std.specs.Prelude.{Ok, Err}
use Rattle.std.specs.Option.{ok_or}
use Rattle.variable.specs.declared.Unplaced.TheVariants.{NoEntry, NoRun as NoFreeRun}
use Rattle.variable.specs.declared.Value.{Value}
use Rattle.variable.specs.declared.Variables.{Variables}
use Rattle.machine.specs.Beyond.{new_file_size}
use Rattle.machine.specs.Effect.{Effect, asks, assigns, opens}
use Rattle.machine.specs.NoPlace.{Lacking, NewFileRefused, NoneFits}
use Rattle.machine.specs.State.{Local, is_running, no_process, process_at, with_file, with_local, with_process}
use Rattle.machine.specs.Turn.{effect_at, answering, carried_out, setting, turned}
use Rattle.machine.specs.declared.Kernel.{Kernel}
use Rattle.machine.specs.declared.Process.{Process}
use Rattle.machine.proofs.Changes.LiveRecords.{running-live}
use Rattle.machine.proofs.Changes.Slots.{live_inside}
use Rattle.machine.proofs.Demands.Openings.{open-cases}

-- ---- SET
placing-lacking : (runs : List Run) (low high used limit n : ℕ) → placing_fault (placing runs low high used limit n) ≡ 10 → (limit ≤ used)
    ⊎ NoneFits runs low high n
unfolding placing
placing-lacking runs low high used limit n = go (ltb used limit) refl (place runs low high n) refl
  where
    go : (free : Bool) → ltb used limit ≡ free → (f : Option ℕ) → place runs low high n ≡ f
        → placing_fault (if_entry free (ok_or f NoFreeRun)) ≡ 10
        → (limit ≤ used) ⊎ NoneFits runs low high n
    go false p f q h = inl (ltb-false used limit p)
    go true p None q h = inr (no-place-none-fits runs low high n q)
    go true p (Some a) q h = absurd (omega arith)

-- Document 01: "SET first frees the old variable", so fault 10 is judged on what is left
pub set-lacking : (v : Variables) (name id : ℕ) (x : Value) → placing_fault (assigned v name id x).placing ≡ 10
    → Lacking (freed v (is_of name id)) x.size
unfolding assigned place_for
set-lacking v name id x h =
    placing-lacking (taken_runs w) low_end high_end w.count entry_limit x.size (ap placing_fault (same (place_for w x.size)) ∙ h)
  where
    w : Variables
    w = freed v (is_of name id)

    same : (p : Placing) → p ≡ (assign_at p v w name id x).placing
    same (Ok a) = refl
    same (Err NoEntry) = refl
    same (Err NoFreeRun) = refl

-- ---- the same of a turn: a SET or an OPEN that ends its process found no place
module _ (k : Kernel) (slot : ℕ) (h : is_running (process_at k slot) ≡ true) where
  -- what is put into the slot is there
  still-running : (p : Process) → is_running p ≡ true → is_running (process_at (with_process k slot p) slot) ≡ true
  still-running p r = ap is_running
      (get_or-set_same k.processes slot p no_process (live_inside k slot (running-live (process_at k slot) h)))
      ∙ r

  module _ (clock : ℕ) (disc : List ℕ) where
    abbrev Ends : Effect → Type 0
    Ends e = is_running (process_at (carried_out k slot disc e).kernel slot) ≡ false

    pub turn-set-lacking : (name kind : ℕ) (bytes : List ℕ) (l : Local) → effect_at k slot clock disc ≡ assigns name kind bytes l
        → is_running (process_at (turned k slot clock disc).kernel slot) ≡ false
        → Lacking (freed k.variables (is_of name (process_at k slot).id)) (length bytes)
    unfolding turned carried_out
    turn-set-lacking name kind bytes l e ends = go a.placing refl (subst Ends e ends)
      where
        a : Assigned
        a = assigned k.variables name (process_at k slot).id (value_of kind bytes)

        go : (p : Placing) → a.placing ≡ p → is_running (process_at (setting k slot disc p a.variables l).kernel slot) ≡ false
            → Lacking (freed k.variables (is_of name (process_at k slot).id)) (length bytes)
        go (Ok at) q r = absurd (true-not-false (still-running (with_local (process_at k slot) l) h) r)
        go (Err e) q r = set-lacking k.variables name (process_at k slot).id (value_of kind bytes) (ap placing_fault q)

    pub turn-open-refused : is_disc_length (length disc) ≡ true → good_disc disc ≡ true → (name : List ℕ) (size : Number) (l : Local)
        → effect_at k slot clock disc ≡ asks (opens name size l)
        → is_running (process_at (turned k slot clock disc).kernel slot) ≡ false → (lookup disc name ≡ None)
        × NewFileRefused disc name (new_file_size disc size)
    unfolding turned carried_out
    turn-open-refused long good name size l e ends =
        open-cases disc name long good k slot l size
        (λ a. is_running (process_at (answering k slot disc a).kernel slot) ≡ false → (lookup disc name ≡ None)
        × NewFileRefused disc name (new_file_size disc size))
        (λ f after r. absurd (true-not-false (still-running (with_file (with_local (process_at k slot) l) f) h) r))
        (λ new refused r. (new, refused))
        (subst Ends e ends)
