-- Live IDs are distinct: a law into the test of every two records.
use Prim.Native.Nat.{ℕ}
use mathlib.Core.Path.{◌≡◌}
use mathlib.Core.Bool.{true}
use native.Mathlib.Omega.{arith}
use Rattle.buffer.specs.Lists.{pairs}
use Rattle.buffer.proofs.Lists.{pairs-each}
use Rattle.machine.specs.GoodArea.{other_id}
use Rattle.machine.specs.State.{is_live, no_process, process_at}
use Rattle.machine.specs.declared.Kernel.{Kernel}
use Rattle.machine.proofs.Goodness.GoodLaws.{is-other-id}

-- live IDs are distinct where no two slots have the same
pub distinct-ids : (k : Kernel)
    → ((i j : ℕ) → is_live (process_at k i) ≡ true → is_live (process_at k j) ≡ true → (process_at k i).id ≡ (process_at k j).id → i ≡ j)
    → pairs other_id k.processes ≡ true
distinct-ids k one =
    pairs-each other_id k.processes no_process
    (λ i j n m. is-other-id (process_at k i) (process_at k j) (λ a b e. let w : i ≡ j = one i j a b e in omega arith))
