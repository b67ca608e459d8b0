-- The loop: the first i places are filled.
use Prim.Native.Nat.{ℕ, ◌+◌}
use mathlib.Core.List.{List}
use Rattle.validation.proofs.Columns.{Column}
use Rattle.variable.specs.Bytes.{variable_in}
use Rattle.validation.proofs.good.columns.fill_ends.Given as goal

abbrev pub end : List ℕ → ℕ → ℕ
end area i = let e = variable_in area i in e.address + e.size

abbrev pub invariant-loop-i : goal.invariant-loop-i
invariant-loop-i l = Column l.initial.column (end l.area) l.count l.column l.i
