-- The loop: the lines of the first i files are written.
use Prim.Native.Nat.{◌-◌}
use Rattle.buffer.proofs.Lines.{Written}
use Rattle.disc.specs.Directory.{entry_at, file_count}
use Rattle.store.specs.Answer.{file_line}
use Rattle.disc_operation.proofs.operations.put_files.Given as goal

abbrev pub invariant-loop-i : goal.invariant-loop-i
invariant-loop-i l = Written file_line (entry_at l.disc) (file_count l.disc) l.initial.out l.out l.at l.i
