-- What is left of a process that has ended.
use Rattle.std.specs.Prelude.{ℕ, replicate}
use Rattle.place.specs.Place.{no_run}
use Rattle.variable.specs.Table.{freed_all}
use Rattle.machine.specs.Limits.{stack_size}
use Rattle.machine.specs.State.{no_file, process_at, with_process, with_variables}
use Rattle.machine.specs.declared.Kernel.{Kernel}
use Rattle.machine.specs.declared.Process.{Process}

-- Document 01: "Its record keeps name, ID and fault (0 unless a fault) and is otherwise zero."
abbrev pub ended_process : Process → ℕ → Process
ended_process p fault =
    record {
      name = p.name;
      id = p.id;
      state = 0;
      fault = fault;
      code = no_run;
      pc = 0;
      loopstart = 0;
      file = no_file;
      sp = 0;
      share = 0;
      stack = replicate stack_size 0;
    }

-- Document 01: "Ending (STOP, kill, fault) frees the process's variables."
unfoldable pub ended : Kernel → ℕ → ℕ → Kernel
ended k slot fault =
    with_variables (with_process k slot (ended_process (process_at k slot) fault))
    (freed_all k.variables (process_at k slot).id)
