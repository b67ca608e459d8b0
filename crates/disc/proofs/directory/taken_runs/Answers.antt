-- The loop: the array holds the runs of the first i entries, and nothing behind them.
use mathlib.Core.Path.{◌≡◌, sym, ap, ap₂, ◌∙◌}
use mathlib.Core.List.{List}
use lib.ListN.{set}
use native.Mathlib.Omega.{arith}
use Rattle.buffer.specs.Lists.{tab}
use Rattle.buffer.proofs.Lists.{map-tab}
use Rattle.place.specs.Place.{filled}
use Rattle.place.specs.declared.Run.{Run}
use Rattle.place.proofs.Place.{filled_next}
use Rattle.disc.specs.Directory.{entry_at, file_count, run_of}
use Rattle.disc.proofs.directory.taken_runs.Invariants.{run_at}
use Rattle.disc.proofs.directory.taken_runs.Goals as goal

pub loop-i-init : goal.loop-i-init
unfolding tab
loop-i-init c = c.no_runs-runs.ensures

pub loop-i-preserved : goal.loop-i-preserved
loop-i-preserved c =
    let d = c.args.disc.now in
    let e : c.run.result ≡ run_at d c.loop-i.i = c.run.ensures ∙ ap run_of c.entry_at.ensures in
    ap₂ (λ (runs : List Run) (run : Run). set runs c.loop-i.i run) c.loop-i.invariant e
    ∙ filled_next (run_at d) c.loop-i.i (omega arith)

pub returns : goal.returns
returns c =
    let d = c.args.disc.now in
    let q : c.loop-i.i ≡ file_count d = omega arith in
    rw (← q) (c.loop-i.invariant ∙ ap filled (sym (map-tab run_of (entry_at d) c.loop-i.i)))
