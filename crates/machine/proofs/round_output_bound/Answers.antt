-- `machine::round_output_bound` meets its contract: a round prints at most 2,560 bytes.
use Prim.Native.Nat.{ℕ, ◌≤◌}
use mathlib.Core.Path.{subst⁻¹}
use Rattle.machine.specs.Area.{kernel_of}
use Rattle.machine.specs.Demands.{RoundOutputBound}
use Rattle.machine.specs.Limits.{round_room}
use Rattle.machine.proofs.Demands.GoodCalls.{passes-good}
use Rattle.machine.proofs.Demands.Lengths.{round-short}
use Rattle.machine.proofs.Demands.Rounds.{round-passed, round-returns}
use Rattle.machine.proofs.round_output_bound.Goals as goal

-- `machine::round_output_bound` meets its contract: a round prints at most 2,560 bytes.

pub returns : goal.returns
unfolding RoundOutputBound
returns c = λ b clock n done.
    subst⁻¹ (λ (m : ℕ). m ≤ round_room) (round-returns b clock n done)
    (round-short (kernel_of b.area) clock b.disc (passes-good b.disc b.area (round-passed b clock n done).0))
