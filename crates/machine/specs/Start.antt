-- Starting a process: what run and FORK share.
use Rattle.std.specs.Prelude.{ℕ, ◌+◌, Bool, true, false, List, eqb, replicate, None, Option, Some}
use Rattle.disc.specs.Directory.{entry_at, lookup}
use Rattle.disc.specs.declared.Entry.{Entry}
use Rattle.machine.specs.Limits.{id_limit, stack_size}
use Rattle.machine.specs.State.{ended_slot, no_file, no_loop, running, with_process}
use Rattle.machine.specs.declared.Kernel.{Kernel}
use Rattle.machine.specs.declared.Process.{Process}

-- Document 01: "state 'r', no loop, name, ID and code filled in, all else of the record zero"
abbrev pub started_process : Entry → ℕ → Process
started_process e id =
    record {
      name = e.name;
      id = id;
      state = running;
      fault = 0;
      code = record { start = e.start; len = e.len };
      pc = 0;
      loopstart = no_loop;
      file = no_file;
      sp = 0;
      share = 0;
      stack = replicate stack_size 0;
    }

abbrev pub started : Kernel → ℕ → Entry → Kernel
started k slot e =
    let w = with_process k slot (started_process e k.next) in
    record { variables = w.variables; next = k.next + 1; zeros = w.zeros; processes = w.processes }

-- where a program is started: the slot and the file, or the refusal
pub data Starting : Type 0 where
  starts : (slot : ℕ) → Entry → Starting
  refuses : ℕ → Starting

abbrev pub start_in : Option ℕ → Option ℕ → Bool → List ℕ → Starting
start_in None file spent disc = refuses 12
start_in (Some slot) None spent disc = refuses 10
start_in (Some slot) (Some i) true disc = refuses 13
start_in (Some slot) (Some i) false disc = starts slot (entry_at disc i)

-- Document 01, Run: "12 no ended slot, 10, 13 next ID is 32768. Takes the lowest ended slot"
unfoldable pub starting : Kernel → List ℕ → List ℕ → Starting
starting k disc name = start_in (ended_slot k) (lookup disc name) (eqb k.next id_limit) disc
