-- SET: the variables as it leaves them, and the process on behind it, or ended where no place was found.
use Prim.Native.Nat.{ℕ, ◌≤◌}
use mathlib.Core.Path.{◌≡◌, refl, sym, ap, subst⁻¹, ◌∙◌}
use mathlib.Core.List.{List, []}
use lib.ListN.{length}
use Rattle.variable.specs.Assign.{assigned, placing_fault, value_of}
use Rattle.variable.specs.Limits.{max_variables}
use Rattle.variable.specs.declared.Assigned.{Assigned}
use Rattle.variable.specs.Assign.{Placing}
use Rattle.std.specs.Prelude.{Ok, Err}
use Rattle.variable.specs.declared.Variables.{Variables}
use Rattle.variable.proofs.Reading.{value_made}
use Rattle.variable.proofs.Setting.{NotPlaced, assigned-refused, assigned-shaped}
use Rattle.machine.specs.Area.{kernel_bytes, kernel_of}
use Rattle.machine.specs.Effect.{assigns}
use Rattle.machine.specs.Ended.{ended}
use Rattle.machine.specs.State.{Local, process_at, with_file, with_local, with_process, with_variables}
use Rattle.machine.specs.Turn.{carried_out, finished, setting}
use Rattle.machine.specs.declared.Kernel.{Kernel}
use Rattle.machine.specs.declared.Process.{Process}
use Rattle.machine.proofs.Bytes.Sizes.{Sized, decoded-sized}
use Rattle.area.specs.Parts.{SetIn}
use Rattle.area.proofs.Front.{variables-said}
use Rattle.stack.specs.Steps.{about, keeping}
use Rattle.stack.specs.declared.Step.{Step}
use Rattle.process.specs.Stepping.{Room, Stepping, left, left_by, stack_of, went_on}
use Rattle.process.proofs.Advancing.{may-keep, own-keeping}

-- a SET that finds no place ends its process
ends : (k : Kernel) (slot : ℕ) (disc : List ℕ) (p : Placing) (v : Variables) (l : Local) → NotPlaced p
    → setting k slot disc p v l ≡ finished k slot disc (placing_fault p)
ends k slot disc (Ok a) v l n = absurd n
ends k slot disc (Err e) v l n = refl

-- the area that a SET has to leave
abbrev pub LeftBySet : List ℕ → ℕ → Process → Step → ℕ → ℕ → List ℕ → Type 0
LeftBySet area slot p d name kind after =
    (disc : List ℕ) → left disc after
    ≡ left_by (carried_out (kernel_of area) slot disc (assigns name kind (about d) (keeping (stack_of p) d)))

module _ {area : List ℕ} {slot : ℕ} {p : Process} {d : Step} (t : Stepping area slot p d) (name kind : ℕ) where
  abbrev k : Kernel
  k = kernel_of area

  abbrev on : Local
  on = keeping (stack_of p) d

  -- what the SET makes of the variables
  abbrev held : Assigned
  held = assigned k.variables name p.id (value_of kind (about d))

  sized : Sized k
  sized = decoded-sized area t.size

  carried : (disc : List ℕ)
      → carried_out k slot disc (assigns name kind (about d) on) ≡ setting k slot disc held.placing held.variables on
  unfolding carried_out
  carried disc =
      sym (ap (λ (q : Process). let a = assigned k.variables name q.id (value_of kind (about d)) in
      setting k slot disc a.placing a.variables on) t.own)

  module _ {one : List ℕ} {r : Placing} (x : SetIn r one k held) where
    -- what the area then says
    pub set-state : kernel_of one ≡ with_variables k held.variables
    set-state =
        variables-said k sized held.variables
        (assigned-shaped k.variables name p.id (value_of kind (about d)) sized.variables t.few
        (ap length (value_made kind (about d))))
        x.left

    -- the process goes on
    module _ {at : ℕ} (found : r ≡ Ok at) where
      pub set_on : Room (process_at (kernel_of one) slot) d.kept 0
      set_on = subst⁻¹ (λ (q : Kernel). Room (process_at q slot) d.kept 0) set-state (may-keep t).2

      pub set-done : {after : List ℕ} → after ≡ kernel_bytes (went_on (kernel_of one) slot d.kept d.pc d.loopstart [] [] p.file)
          → LeftBySet area slot p d name kind after
      set-done w disc =
          let old = process_at k slot in
          ap (left disc)
          (w
          ∙ ap (λ (q : Kernel). kernel_bytes (went_on q slot d.kept d.pc d.loopstart [] [] p.file)) set-state
          ∙ (λ i. kernel_bytes (with_process (with_variables k held.variables) slot
          (with_file (with_local old (own-keeping t i)) (t.own i).file))))
          ∙ sym (ap left_by (carried disc ∙ ap (λ (q : Placing). setting k slot disc q held.variables on) (sym x.placing ∙ found)))

    -- no place: nothing has changed, and the process ends
    module _ (q : Placing) (none : NotPlaced q) (found : r ≡ q) where
      unchanged : kernel_of one ≡ k
      unchanged =
          set-state
          ∙ ap (with_variables k) (assigned-refused k.variables name p.id (value_of kind (about d)) q none (sym x.placing ∙ found))

      pub set-few : (kernel_of one).variables.count ≤ max_variables
      set-few = subst⁻¹ (λ (j : Kernel). j.variables.count ≤ max_variables) unchanged t.few

      pub set-refused : {fault : ℕ} {after : List ℕ} → fault ≡ placing_fault r → after ≡ kernel_bytes (ended (kernel_of one) slot fault)
          → LeftBySet area slot p d name kind after
      set-refused {fault} f z disc =
          ap (left disc) (z ∙ (λ i. kernel_bytes (ended (unchanged i) slot ((f ∙ ap placing_fault found) i))))
          ∙ sym (ap left_by (carried disc ∙ ap (λ (j : Placing). setting k slot disc j held.variables on) (sym x.placing ∙ found)
          ∙ ends k slot disc q held.variables on none))
