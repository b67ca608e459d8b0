-- The fault that a turn leaves in a record tells what ended the process: 10 is a SET without a place, 13 an OPEN whose new file is refused.
use Rattle.std.specs.Prelude.{None}
use Prim.Native.Nat.{ℕ}
use mathlib.Core.Path.{◌≡◌, refl, sym, ap, subst, ◌∙◌}
use mathlib.Core.Bool.{false}
use mathlib.Core.List.{List}
use mathlib.Core.Logic.{◌⊎◌, inl, inr}
use native.Mathlib.Omega.{arith}
use lib.ListN.{length}
use Rattle.buffer.proofs.Bools.{true-not-false}
use Rattle.number.specs.declared.Number.{Number}
use Rattle.variable.specs.Table.{freed, is_of}
use Rattle.disc.specs.Directory.{lookup}
use Rattle.machine.specs.Beyond.{new_file_size}
use Rattle.machine.specs.Answer.{Buffers}
use Rattle.machine.specs.Demands.{EndsWith, turned_state}
use Rattle.machine.specs.Effect.{asks, assigns, opens}
use Rattle.machine.specs.Ending.{Ends, RunsOn, stopped, faulted, unplaced, broken}
use Rattle.machine.specs.NoPlace.{Lacking, NewFileRefused}
use Rattle.machine.specs.Refusals.{state_of, MayTurn}
use Rattle.machine.specs.Ended.{ended_process}
use Rattle.machine.specs.State.{Local, is_running, process_at}
use Rattle.machine.specs.Turn.{effect_at, turned}
use Rattle.machine.specs.declared.Kernel.{Kernel}
use Rattle.machine.specs.declared.Process.{Process}
use Rattle.machine.proofs.Demands.AnswerFaults.{answer-fault, fault-number, thirteen-opens}
use Rattle.machine.proofs.Demands.GoodCalls.{passes-good}
use Rattle.machine.proofs.Demands.Places.{turn-open-refused, turn-set-lacking}
use Rattle.machine.proofs.Demands.TurnCalls.{ended-only, ends-or-runs, state-after}

module _ (b : Buffers) (slot clock : ℕ) (may : MayTurn b slot) where
  abbrev pub EndsBy : ℕ → Type 0
  EndsBy n = Ends (state_of b) slot clock b.disc n

  -- what ended it, from what the turn leaves
  pub ended_by : (n : ℕ) → EndsWith b slot clock n → EndsBy n
  ended_by n h = go (ends-or-runs b slot clock may)
    where
      go : ((m : ℕ) × EndsBy m) ⊎ RunsOn (process_at (state_of b) slot) (process_at (turned_state b slot clock) slot) → EndsBy n
      go (inl e) =
          let own : process_at (turned_state b slot clock) slot ≡ ended_process (process_at (state_of b) slot) e.0 =
          (ended-only b slot clock may e.0 e.1).3.own in
          subst EndsBy (sym (ap (λ (p : Process). p.fault) own) ∙ h.1) e.1
      go (inr r) = absurd (true-not-false r.running h.0)

  stopped-then : (n : ℕ) → EndsWith b slot clock n → is_running (process_at (turned (state_of b) slot clock b.disc).kernel slot) ≡ false
  stopped-then n h = subst (λ (j : Kernel). is_running (process_at j slot) ≡ false) (state-after b slot clock may) h.0

  pub set-no-place : EndsWith b slot clock 10
      → (name : ℕ) × (kind : ℕ) × (bytes : List ℕ) × (l : Local) × (effect_at (state_of b) slot clock b.disc ≡ assigns name kind bytes l)
      × Lacking (freed (state_of b).variables (is_of name (process_at (state_of b) slot).id)) (length bytes)
  set-no-place h = go (ended_by 10 h)
    where
      not-ten : (n : ℕ) → n ≡ 10 → (n ≡ 13) ⊎ ((n ≡ 4) ⊎ ((n ≡ 11) ⊎ (n ≡ 12))) → ⊥
      not-ten n ten (inl e) = omega arith
      not-ten n ten (inr (inl e)) = omega arith
      not-ten n ten (inr (inr (inl e))) = omega arith
      not-ten n ten (inr (inr (inr e))) = omega arith

      go : EndsBy 10 → (name : ℕ) × (kind : ℕ) × (bytes : List ℕ) × (l : Local)
          × (effect_at (state_of b) slot clock b.disc ≡ assigns name kind bytes l)
          × Lacking (freed (state_of b).variables (is_of name (process_at (state_of b) slot).id)) (length bytes)
      go (stopped e z) = absurd (omega arith)
      go (faulted e some few) = absurd (omega arith)
      go (unplaced name kind bytes l e p z) = (
        name,
        kind,
        bytes,
        l,
        e,
        turn-set-lacking (state_of b) slot may.running clock b.disc name kind bytes l e (stopped-then 10 h),
      )
      go (broken r e q) = absurd (not-ten 10 refl (fault-number r 10 (answer-fault (state_of b) slot b.disc r 10 q)))

  pub open-refused : EndsWith b slot clock 13
      → (name : List ℕ) × (size : Number) × (l : Local) × (effect_at (state_of b) slot clock b.disc ≡ asks (opens name size l))
      × (lookup b.disc name ≡ None) × NewFileRefused b.disc name (new_file_size b.disc size)
  open-refused h = go (ended_by 13 h)
    where
      refused : (name : List ℕ) (size : Number) (l : Local) → effect_at (state_of b) slot clock b.disc ≡ asks (opens name size l)
          → (lookup b.disc name ≡ None) × NewFileRefused b.disc name (new_file_size b.disc size)
      refused name size l e =
          let good = passes-good b.disc b.area may.passes in
          turn-open-refused (state_of b) slot may.running clock b.disc good.long good.sound name size l e (stopped-then 13 h)

      go : EndsBy 13 → (name : List ℕ) × (size : Number) × (l : Local)
          × (effect_at (state_of b) slot clock b.disc ≡ asks (opens name size l))
          × (lookup b.disc name ≡ None) × NewFileRefused b.disc name (new_file_size b.disc size)
      go (stopped e z) = absurd (omega arith)
      go (faulted e some few) = absurd (omega arith)
      go (unplaced name kind bytes l e p z) = absurd (omega arith)
      go (broken r e q) =
          let o = thirteen-opens r 13 refl (answer-fault (state_of b) slot b.disc r 13 q) in
          let f : effect_at (state_of b) slot clock b.disc ≡ asks (opens o.0 o.1 o.2) = e ∙ ap asks o.3 in
          let r = refused o.0 o.1 o.2 f in
          (o.0, o.1, o.2, f, r.0, r.1)
