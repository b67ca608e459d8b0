-- The loop: the first i places are filled.
use Prim.Native.Nat.{ℕ, ◌+◌, ◌*◌}
use mathlib.Core.List.{List}
use lib.ListN.{replicate}
use Rattle.buffer.specs.Buffer.{four_at}
use Rattle.disc.specs.Layout.{entry_size, max_files, name_size}
use Rattle.validation.proofs.Columns.{Column}
use Rattle.validation.proofs.good.records.file_runs.Given as goal

abbrev pub run : List ℕ → ℕ → ℕ
run disc i = four_at disc (i * entry_size + name_size)

abbrev pub invariant-loop-i : goal.invariant-loop-i
invariant-loop-i l = Column (replicate max_files 0) (run l.disc) l.count l.runs l.i
