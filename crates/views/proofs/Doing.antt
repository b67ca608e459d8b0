-- A call on two good pairs of buffers that show the same is done, or refused, alike: what that says of two answers.
use Rattle.std.proofs.Common.{ℕ, ◌≡◌, Bool, true, false, List, refl, sym, subst₂, arith}
use mathlib.Core.Logic.{◌⊎◌, inr}
use Rattle.store.specs.File.{unless}
use Rattle.machine.specs.Answer.{Answer, Buffers, Call, turn, round, command, share, run, other, answer, on_good, refused}
use Rattle.machine.specs.Area.{kernel_of}
use Rattle.machine.specs.Suppositions.{is_done_by}
use Rattle.machine.specs.Trace.{Storage, lending}
use Rattle.machine.proofs.Demands.GoodCalls.{on-good}
use Rattle.views.specs.Same.{view_at}
use Rattle.views.proofs.Alike.{Alike, Lacks}
use Rattle.views.proofs.Running.{event_text}

-- done or refused alike, with the same text, and what is left shows the same
pub record SameDone (c : Call) (a b : Answer) : Type 0 where
  pub done : is_done_by a.number ≡ is_done_by b.number
  pub text : event_text c a ≡ event_text c b
  pub view : view_at (kernel_of a.area) a.disc ≡ view_at (kernel_of b.area) b.disc

abbrev pub Stepped : Call → (s₁ s₂ : Storage) → List ℕ → Type 0
Stepped c s₁ s₂ out = Lacks c s₁ s₂ ⊎ SameDone c (answer c (lending s₁ out)) (answer c (lending s₂ out))

module _ (c : Call) (s₁ s₂ : Storage) (h : Alike s₁ s₂) (out : List ℕ) where
  abbrev b₁ : Buffers
  b₁ = lending s₁ out

  abbrev b₂ : Buffers
  b₂ = lending s₂ out

  refused-text : (c : Call) (n : ℕ) → event_text c (refused n b₁) ≡ event_text c (refused n b₂)
  refused-text (turn slot clock) n = refl
  refused-text (round clock) n = refl
  refused-text (command d id) n = refl
  refused-text (share id turns) n = refl
  refused-text (run name) n = refl
  refused-text (other o) n = refl

  pub refused-same : (n : ℕ) → SameDone c (refused n b₁) (refused n b₂)
  refused-same n = record { done = refl; text = refused-text c n; view = h.same }

  -- a test that is the same on both
  pub tested-same : (x y : Bool) → x ≡ y → (n : ℕ) (a b : Answer) → (x ≡ true → Lacks c s₁ s₂ ⊎ SameDone c a b)
      → Lacks c s₁ s₂ ⊎ SameDone c (unless x (refused n b₁) a) (unless y (refused n b₂) b)
  tested-same true true e n a b k = k refl
  tested-same false false e n a b k = inr (refused-same n)
  tested-same true false e n a b k = absurd (let z : ◌≡◌ {A = ℕ} 0 1 = cc in omega arith)
  tested-same false true e n a b k = absurd (let z : ◌≡◌ {A = ℕ} 0 1 = cc in omega arith)

  -- the tests of lengths and goodness pass on both
  pub on-both-good : (a b : Answer) → Lacks c s₁ s₂ ⊎ SameDone c a b → Lacks c s₁ s₂ ⊎ SameDone c (on_good b₁ a) (on_good b₂ b)
  on-both-good a b k =
      subst₂ (λ x y. Lacks c s₁ s₂ ⊎ SameDone c x y) (sym (on-good b₁ a h.passes₁)) (sym (on-good b₂ b h.passes₂)) k
