-- The claim: each call but a round by what it does, runs and rounds by their calls.
use Rattle.std.proofs.Common.{ℕ, List}
use mathlib.Core.Logic.{inl, inr, ⊎_elim}
use Rattle.machine.specs.Answer.{Call, turn, round, command, share, run, other}
use Rattle.machine.specs.Trace.{Storage, lending}
use Rattle.machine.proofs.Demands.GoodCalls.{good-kept}
use Rattle.views.specs.Same.{SameOnBoth}
use Rattle.views.proofs.Alike.{Alike}
use Rattle.views.proofs.Doing.{Stepped}
use Rattle.views.proofs.Others.{other-stepped}
use Rattle.views.proofs.Running.{NotRound, SameCalls, same-on-both}
use Rattle.views.proofs.Stepping.{command-stepped, run-stepped, share-stepped, turn-stepped}
use Rattle.views.proofs.same_on_both.Goals as goal

stepped : (c : Call) → NotRound c → (s₁ s₂ : Storage) → Alike s₁ s₂ → (out : List ℕ) → Stepped c s₁ s₂ out
stepped (turn slot clock) n s₁ s₂ h out = turn-stepped s₁ s₂ h out slot clock
stepped (round clock) n s₁ s₂ h out = absurd n
stepped (command c id) n s₁ s₂ h out = command-stepped s₁ s₂ h out c id
stepped (share id turns) n s₁ s₂ h out = share-stepped s₁ s₂ h out id turns
stepped (run name) n s₁ s₂ h out = run-stepped s₁ s₂ h out name
stepped (other o) n s₁ s₂ h out = other-stepped o s₁ s₂ h out

same-calls : SameCalls
same-calls i n s₁ s₂ h =
    ⊎_elim inl
    (λ d. inr (
      record { done = d.done; text = d.text },
      record {
        passes₁ = good-kept (lending s₁ i.out) h.passes₁ i.call;
        passes₂ = good-kept (lending s₂ i.out) h.passes₂ i.call;
        same = d.view;
      },
    ))
    (stepped i.call n s₁ s₂ h i.out)

pub returns : goal.returns
unfolding SameOnBoth
returns c = same-on-both same-calls
