-- The loop: the array holds the runs of the first i entries, and nothing behind them.
use Prim.Native.Nat.{ℕ}
use mathlib.Core.Path.{◌≡◌}
use mathlib.Core.List.{List}
use Rattle.buffer.specs.Lists.{tab}
use Rattle.place.specs.Place.{filled}
use Rattle.place.specs.declared.Run.{Run}
use Rattle.disc.specs.Directory.{entry_at, run_of}
use Rattle.disc.proofs.directory.taken_runs.Given as goal

-- the run of the file at k
abbrev pub run_at : List ℕ → ℕ → Run
run_at disc k = run_of (entry_at disc k)

abbrev pub invariant-loop-i : goal.invariant-loop-i
invariant-loop-i l = l.runs ≡ filled (tab (run_at l.disc) l.i)
