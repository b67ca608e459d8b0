-- Two good states, or two pairs of buffers, that show the same.
use Rattle.std.proofs.Common.{ℕ, ◌≡◌, true, ◌||◌, List}
use Rattle.machine.specs.Answer.{Call}
use Rattle.machine.specs.Refusals.{Passes}
use Rattle.machine.specs.Trace.{Storage}
use Rattle.machine.specs.declared.Kernel.{Kernel}
use Rattle.machine.proofs.Changes.Change.{GoodState}
use Rattle.views.specs.Same.{refuses_room, view_at, view_of}

pub record SameState (k₁ k₂ : Kernel) (d₁ d₂ : List ℕ) : Type 0 where
  pub good₁ : GoodState k₁ d₁
  pub good₂ : GoodState k₂ d₂
  pub same : view_at k₁ d₁ ≡ view_at k₂ d₂

pub record Alike (s₁ s₂ : Storage) : Type 0 where
  pub passes₁ : Passes s₁.disc s₁.area
  pub passes₂ : Passes s₂.disc s₂.area
  pub same : view_of s₁ ≡ view_of s₂

-- a call that refuses room on either
abbrev pub Lacks : Call → Storage → Storage → Type 0
Lacks c s₁ s₂ = (refuses_room c s₁ || refuses_room c s₂) ≡ true
