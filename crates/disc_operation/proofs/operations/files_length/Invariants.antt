-- The loop: the lines of the first i files are counted.
use Prim.Native.Nat.{◌-◌}
use Rattle.buffer.proofs.Lines.{Counted}
use Rattle.disc.specs.Directory.{entry_at, file_count}
use Rattle.store.specs.Answer.{file_line}
use Rattle.disc_operation.proofs.operations.files_length.Given as goal

abbrev pub invariant-loop-i : goal.invariant-loop-i
invariant-loop-i l = Counted file_line (entry_at l.disc) (file_count l.disc) l.len l.i
