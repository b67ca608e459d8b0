-- A call that is none of its own leaves a live process its record and its variables.
use Prim.Native.Nat.{ℕ}
use mathlib.Core.Path.{◌≡◌, refl, ap, subst⁻¹}
use mathlib.Core.Bool.{true, false}
use mathlib.Core.List.{List}
use mathlib.Core.Logic.{◌⊎◌, inl, inr}
use Rattle.variable.specs.Table.{owned}
use Rattle.machine.specs.Answer.{Answer, Buffers, Call, turn, round, command, share, run, other, answer, on_good}
use Rattle.machine.specs.Area.{kernel_of}
use Rattle.machine.specs.AtPc.{process_in}
use Rattle.machine.specs.LeftAlone.{Concerns}
use Rattle.machine.specs.Refusals.{Passes, state_of}
use Rattle.machine.specs.State.{is_live, process_at}
use Rattle.machine.specs.Trace.{Storage}
use Rattle.machine.specs.declared.Kernel.{Kernel}
use Rattle.machine.proofs.Changes.Slots.{slot_at}
use Rattle.machine.proofs.Demands.GoodCalls.{passes-good}
use Rattle.machine.proofs.LeftAlone.Buffers.{other-area}
use Rattle.machine.proofs.Traces.AnyBuffers.{bad-refused, passes-or-not}
use Rattle.machine.proofs.Traces.CallEffects.{Elsewhere, is_round, call-effects, effects-untouched}

module _ (b : Buffers) (own : ℕ) (live : is_live (process_in b own) ≡ true) where
  abbrev s : Storage
  s = record { disc = b.disc; area = b.area }

  abbrev Untouched : Kernel → Type 0
  Untouched after =
      (process_at after own ≡ process_in b own)
      × (owned after.variables (process_in b own).id ≡ owned (state_of b).variables (process_in b own).id)

  same_area : (area : List ℕ) → area ≡ b.area → Untouched (kernel_of area)
  same_area area e = subst⁻¹ (λ (l : List ℕ). Untouched (kernel_of l)) e (refl, refl)

  good-untouched : Passes b.disc b.area → (c : Call) → is_round c ≡ false → Elsewhere c own (state_of b)
      → Untouched (kernel_of (answer c b).area)
  good-untouched passes c single away =
      let u = effects-untouched (passes-good b.disc b.area passes) own live c away (call-effects s b.out passes c single) in
      (u.process, u.variables)

  -- a call that tries the buffers first leaves bad ones
  bad-area : (rest : Answer) → (Passes b.disc b.area → ⊥) → (on_good b rest).area ≡ b.area
  bad-area rest bad = ap (λ (a : Answer). a.area) (bad-refused b rest bad).1

  untouched : (c : Call) → is_round c ≡ false → Elsewhere c own (state_of b)
      → ((Passes b.disc b.area → ⊥) → (answer c b).area ≡ b.area) → Untouched (kernel_of (answer c b).area)
  untouched c single away bad = go (passes-or-not b.disc b.area)
    where
      go : Passes b.disc b.area ⊎ (Passes b.disc b.area → ⊥) → Untouched (kernel_of (answer c b).area)
      go (inl passes) = good-untouched passes c single away
      go (inr not) = same_area (answer c b).area (bad not)

  pub processes-kept : (c : Call) → (Concerns c b own → ⊥) → Untouched (kernel_of (answer c b).area)
  unfolding answer
  processes-kept (turn slot clock) far = untouched (turn slot clock) refl (record { turns = far; commands = tt }) (bad-area _)
  processes-kept (round clock) far = absurd (far tt)
  processes-kept (command c id) far =
      untouched (command c id) refl (record { turns = tt; commands = λ e. far (slot_at (state_of b) id own e).2 }) (bad-area _)
  processes-kept (share id turns) far =
      untouched (share id turns) refl (record { turns = tt; commands = λ e. far (slot_at (state_of b) id own e).2 }) (bad-area _)
  processes-kept (run name) far = untouched (run name) refl (record { turns = tt; commands = tt }) (bad-area _)
  processes-kept (other o) far = same_area (answer (other o) b).area (other-area b o)
