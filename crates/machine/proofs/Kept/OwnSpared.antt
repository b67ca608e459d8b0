-- What the acting process does spares every other live process, revives no ended ID and gives out no new one.
use Rattle.std.specs.Prelude.{None}
use Prim.Native.Nat.{ℕ, ◌<◌}
use mathlib.Core.Path.{◌≡◌, refl, ap, ◌∙◌, subst⁻¹}
use mathlib.Core.Bool.{true}
use mathlib.Core.List.{List}
use Rattle.buffer.proofs.Bools.{true-not-false}
use Rattle.disc.specs.Directory.{files}
use Rattle.variable.specs.Table.{owned}
use Rattle.variable.proofs.Freeing.{owned-freed-all-other}
use Rattle.variable.proofs.Goodness.{good-variables-is}
use Rattle.variable.proofs.Setting.{assigned-other}
use Rattle.machine.specs.Ended.{ended, ended_process}
use Rattle.machine.specs.State.{is_live, live_ids, process_at, slot_of}
use Rattle.machine.specs.declared.Kernel.{Kernel}
use Rattle.machine.proofs.Changes.Change.{GoodState, Own, stays, moves, sets, ends}
use Rattle.machine.proofs.Goodness.GoodLaws.{good-kernel-is, one-of-id}
use Rattle.machine.proofs.Changes.Replaced.{put-none, put_other}
use Rattle.machine.proofs.Changes.Slots.{live_inside}

module _ {w : ℕ} {k : Kernel} {disc : List ℕ} {j : Kernel} where
  -- ---- another process's record
  pub own-process : (s : ℕ) → (s ≡ w → ⊥) → Own w k disc j → process_at j s ≡ process_at k s
  unfolding ended
  own-process s other (stays e) = ap (λ (x : Kernel). process_at x s) e
  own-process s other (moves q goes e) = ap (λ (x : Kernel). process_at x s) e ∙ put_other k w q s other
  own-process s other (sets q name x a goes size sized placed e) = ap (λ (x : Kernel). process_at x s) e ∙ put_other k w q s other
  own-process s other (ends fault live e) = ap (λ (x : Kernel). process_at x s) e
      ∙ put_other k w (ended_process (process_at k w) fault) s other

  -- ---- IDs
  pub own-next : Own w k disc j → j.next ≡ k.next
  unfolding ended
  own-next (stays e) = ap (λ (x : Kernel). x.next) e
  own-next (moves q goes e) = ap (λ (x : Kernel). x.next) e
  own-next (sets q name x a goes size sized placed e) = ap (λ (x : Kernel). x.next) e
  own-next (ends fault live e) = ap (λ (x : Kernel). x.next) e

  pub own-none : (i : ℕ) → slot_of k i ≡ None → Own w k disc j → slot_of j i ≡ None
  unfolding ended slot_of
  own-none i none (stays e) = ap (λ (x : Kernel). slot_of x i) e ∙ none
  own-none i none (moves q goes e) = ap (λ (x : Kernel). slot_of x i) e ∙ put-none k w q (λ h. (goes.before, goes.id)) i none
  own-none i none (sets q name x a goes size sized placed e) = ap (λ (x : Kernel). slot_of x i) e
      ∙ put-none k w q (λ h. (goes.before, goes.id)) i none
  own-none i none (ends fault live e) = ap (λ (x : Kernel). slot_of x i) e
      ∙ put-none k w (ended_process (process_at k w) fault) (λ h. absurd (true-not-false h refl)) i none

  -- an ID that was given out and is not live stays so
  pub own-gone : (i : ℕ) → i < k.next → slot_of k i ≡ None → Own w k disc j → (i < j.next) × (slot_of j i ≡ None)
  own-gone i given none own = (subst⁻¹ (λ (n : ℕ). i < n) (own-next own) given, own-none i none own)

  -- ---- another process's variables
  pub own-variables : (s : ℕ) → GoodState k disc → is_live (process_at k s) ≡ true → (s ≡ w → ⊥) → Own w k disc j
      → owned j.variables (process_at k s).id ≡ owned k.variables (process_at k s).id
  unfolding ended
  own-variables s good live other own = go own
    where
      id : ℕ
      id = (process_at k s).id

      -- its ID is another
      apart : is_live (process_at k w) ≡ true → id ≡ (process_at k w).id → ⊥
      apart h e = other (one-of-id (files disc) k good.area s w (live_inside k s live) (live_inside k w h) live h e)

      go : Own w k disc j → owned j.variables id ≡ owned k.variables id
      go (stays e) = ap (λ (x : Kernel). owned x.variables id) e
      go (moves q goes e) = ap (λ (x : Kernel). owned x.variables id) e
      go (sets q name x a goes size sized placed e) =
          ap (λ (x : Kernel). owned x.variables id) e
          ∙ assigned-other k.variables name (process_at k w).id x good.sized.variables
          (good-variables-is (live_ids k) k.variables (good-kernel-is (files disc) k good.area).variables).few sized id
          (apart goes.before)
      go (ends fault h e) = ap (λ (x : Kernel). owned x.variables id) e
          ∙ owned-freed-all-other k.variables (process_at k w).id id (apart h)
