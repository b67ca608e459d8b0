-- The lines of list.
use Rattle.std.specs.Prelude.{ℕ, cond, List, []}
use Rattle.machine.specs.Operations.{process_line}
use Rattle.machine.specs.State.{is_live}
use Rattle.machine.specs.declared.Process.{Process}

-- nothing for a process that has ended
abbrev pub line_of : Process → List ℕ
line_of p = cond (is_live p) (process_line p) []
