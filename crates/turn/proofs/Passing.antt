-- What is known of buffers that pass the tests that come first.
use Prim.Native.Nat.{ℕ, ◌≤◌}
use mathlib.Core.Path.{◌≡◌}
use mathlib.Core.List.{List}
use lib.ListN.{length}
use borrow.Author.Tests.{eqb-true}
use Rattle.disc.specs.Directory.{Readable, files}
use Rattle.disc.proofs.Lengths.{readable}
use Rattle.variable.specs.Limits.{max_variables}
use Rattle.variable.proofs.Goodness.{GoodVariables, good-variables-is}
use Rattle.machine.specs.Area.{kernel_of}
use Rattle.machine.specs.Limits.{area_length, id_limit}
use Rattle.machine.specs.Refusals.{Passes}
use Rattle.machine.specs.State.{live_ids}
use Rattle.machine.proofs.Changes.Change.{GoodState}
use Rattle.machine.proofs.Demands.GoodCalls.{area-length, passes-good}
use Rattle.machine.proofs.Goodness.GoodLaws.{GoodKernel, good-kernel-is}

module _ {disc area : List ℕ} (passes : Passes disc area) where
  good : GoodState (kernel_of area) disc
  good = passes-good disc area passes

  good-area : GoodKernel (files disc) (kernel_of area)
  good-area = good-kernel-is (files disc) (kernel_of area) good.area

  pub area-size : length area ≡ area_length
  area-size = eqb-true _ _ (area-length passes)

  pub disc-readable : Readable disc
  disc-readable = readable disc good.long good.sound

  pub variables-good : GoodVariables (live_ids (kernel_of area)) (kernel_of area).variables
  variables-good = good-variables-is (live_ids (kernel_of area)) (kernel_of area).variables good-area.variables

  pub few-variables : (kernel_of area).variables.count ≤ max_variables
  few-variables = variables-good.few

  pub next_low : (kernel_of area).next ≤ id_limit
  next_low = good-area.header.high
