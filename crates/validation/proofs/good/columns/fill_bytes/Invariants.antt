-- The loop: the first i places are filled.
use Prim.Native.Nat.{ℕ, ◌+◌, ◌*◌}
use mathlib.Core.List.{List}
use lib.ListN.{get_or}
use Rattle.validation.proofs.Columns.{Column}
use Rattle.variable.specs.Limits.{entries_at, entry_size}
use Rattle.validation.proofs.good.columns.fill_bytes.Given as goal

abbrev pub byte : List ℕ → ℕ → ℕ → ℕ
byte area field i = get_or area (entries_at + i * entry_size + field) 0

abbrev pub invariant-loop-i : goal.invariant-loop-i
invariant-loop-i l = Column l.initial.column (byte l.area l.field) l.count l.column l.i
