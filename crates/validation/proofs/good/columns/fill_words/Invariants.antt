-- The loop: the first i places are filled.
use Prim.Native.Nat.{ℕ, ◌+◌, ◌*◌}
use mathlib.Core.List.{List}
use Rattle.buffer.specs.Buffer.{word_at}
use Rattle.validation.proofs.Columns.{Column}
use Rattle.variable.specs.Limits.{entries_at, entry_size}
use Rattle.validation.proofs.good.columns.fill_words.Given as goal

abbrev pub word : List ℕ → ℕ → ℕ → ℕ
word area field i = word_at area (entries_at + i * entry_size + field)

abbrev pub invariant-loop-i : goal.invariant-loop-i
invariant-loop-i l = Column l.initial.column (word l.area l.field) l.count l.column l.i
