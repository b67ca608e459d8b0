-- Each turn reads the run of one file more.
use Prim.Native.Nat.{ℕ, ◌≤◌}
use mathlib.Core.Path.{ap, ◌∙◌}
use native.Mathlib.Omega.{arith}
use lib.ListN.{replicate}
use Rattle.buffer.specs.Buffer.{overwrite}
use Rattle.buffer.specs.Lists.{tab}
use Rattle.disc.specs.Layout.{max_files}
use Rattle.validation.specs.Columns.{file_runs}
use Rattle.validation.proofs.Columns.{column-filled, column-next, column-none}
use Rattle.validation.proofs.good.records.file_runs.Invariants.{run}
use Rattle.validation.proofs.good.records.file_runs.Goals as goal

pub loop-i-init : goal.loop-i-init
loop-i-init c = column-none _ _ _

pub loop-i-preserved : goal.loop-i-preserved
loop-i-preserved c =
    let p = c.requires in
    let few : c.file_count-count.result ≤ max_files = omega (arith, c.file_count-count.ensures, p.few) in
    column-next _ _ _ c.loop-i.invariant few (omega arith) c.four_at.ensures

pub returns : goal.returns
unfolding file_runs
returns c =
    column-filled _ _ _ c.loop-i.invariant (omega arith)
    ∙ ap (λ (k : ℕ). overwrite (replicate max_files 0) 0 (tab (run c.args.disc.now) k)) c.file_count-count.ensures
