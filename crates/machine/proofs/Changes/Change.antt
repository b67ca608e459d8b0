-- What an operation does to disc and kernel state, by kinds. Everything that holds of every operation is proved once for each kind.
--
--     first   something happens to the disc, or a process is started
--     then    the process that acts goes on, sets a variable or ends
--
-- WRITE is a kind of its own: it alone changes the bytes of a file that may be another's program.
use Prim.Native.Nat.{ℕ, ◌+◌, ◌≤◌, ◌<◌}
use mathlib.Core.Path.{◌≡◌}
use mathlib.Core.Bool.{Bool, true, false}
use mathlib.Core.List.{List}
use lib.ListN.{get_or, length}
use Rattle.disc.specs.Directory.{entry_at, file_count, files, good_disc, is_disc_length}
use Rattle.disc.specs.declared.Entry.{Entry}
use Rattle.store.specs.File.{erased, stored, written_at}
use Rattle.store.proofs.Admissions.{Admitted}
use Rattle.variable.specs.Assign.{assigned, value_bytes}
use Rattle.variable.specs.Good.{good_size}
use Rattle.std.specs.Prelude.{Ok}
use Rattle.variable.specs.declared.Value.{Value}
use Rattle.machine.specs.Beyond.{file_run}
use Rattle.machine.specs.GoodArea.{good_kernel}
use Rattle.machine.specs.Limits.{stack_size}
use Rattle.machine.specs.Operations.{in_use}
use Rattle.machine.specs.Start.{starts, started, starting}
use Rattle.machine.specs.Ended.{ended}
use Rattle.machine.specs.State.{is_live, is_running, process_at, with_process, with_variables}
use Rattle.machine.specs.Turn.{program_of}
use Rattle.machine.specs.declared.Kernel.{Kernel}
use Rattle.machine.specs.declared.Process.{Process}
use Rattle.machine.proofs.Goodness.GoodRecords.{GoodFile, GoodRegisters, Opened}
use Rattle.machine.proofs.Bytes.Sizes.{Sized}

-- a good disc and a good area, as a state
pub record GoodState (k : Kernel) (disc : List ℕ) : Type 0 where
  pub sized : Sized k
  pub long : is_disc_length (length disc) ≡ true
  pub sound : good_disc disc ≡ true
  pub area : good_kernel (files disc) k ≡ true

-- ---- what happens to the disc, or a start from the file of that name
pub data Outside (name : List ℕ) (k : Kernel) (disc : List ℕ) (j : Kernel) (after : List ℕ) : Type 0 where
  nothing : j ≡ k → after ≡ disc → Outside name k disc j after
  -- store, and OPEN's new file
  stores : (title bytes : List ℕ) (s : ℕ) → Admitted disc title (length bytes) s → j ≡ k → after ≡ stored disc title bytes s
      → Outside name k disc j after
  erases : (i : ℕ) → i < file_count disc → in_use k (entry_at disc i) ≡ false → j ≡ k → after ≡ erased disc i → Outside name k disc j after
  begins : (slot : ℕ) (e : Entry) → starting k disc name ≡ starts slot e → j ≡ started k slot e → after ≡ disc → Outside name k disc j after

-- a file goes
abbrev pub erasing : {name : List ℕ} {k : Kernel} {disc : List ℕ} {j : Kernel} {after : List ℕ} → Outside name k disc j after → Bool
erasing (nothing e f) = false
erasing (stores title bytes s a e f) = false
erasing (erases i h unused e f) = true
erasing (begins slot d t e f) = false

-- ---- what the process in slot w does
-- it goes on as q: same name, ID and program, live, and what a good area asks of its record
pub record GoesOn (disc : List ℕ) (p q : Process) : Type 0 where
  pub before : is_live p ≡ true
  pub live : is_live q ≡ true
  pub name : q.name ≡ p.name
  pub id : q.id ≡ p.id
  pub code : q.code ≡ p.code
  pub registers : GoodRegisters q
  pub file : GoodFile (files disc) q.file
  pub stack : length q.stack ≡ stack_size

pub data Own (w : ℕ) (k : Kernel) (disc : List ℕ) (j : Kernel) : Type 0 where
  stays : j ≡ k → Own w k disc j
  moves : (q : Process) → GoesOn disc (process_at k w) q → j ≡ with_process k w q → Own w k disc j
  sets : (q : Process) (name : ℕ) (x : Value) (a : ℕ) → GoesOn disc (process_at k w) q → good_size x.kind x.size ≡ true
      → length (value_bytes x) ≡ x.size
      → (assigned k.variables name (process_at k w).id x).placing ≡ Ok a
      → j ≡ with_variables (with_process k w q) (assigned k.variables name (process_at k w).id x).variables
      → Own w k disc j
  ends : (fault : ℕ) → is_live (process_at k w) ≡ true → j ≡ ended k w fault → Own w k disc j

-- ---- a WRITE without fault
pub record Writes (w : ℕ) (k : Kernel) (disc : List ℕ) (j : Kernel) (after : List ℕ) : Type 0 where
  pub process : Process
  pub bytes : List ℕ
  pub running : is_running (process_at k w) ≡ true
  pub instruction : get_or (program_of disc (process_at k w)) (process_at k w).pc 0 ≡ 55
  pub file : Opened (files disc) (process_at k w).file
  pub inside : (process_at k w).file.offset + length bytes ≤ (process_at k w).file.len
  pub goes : GoesOn disc (process_at k w) process
  pub kernel : j ≡ with_process k w process
  pub disc-after : after ≡ written_at disc (file_run (process_at k w).file) (process_at k w).file.offset bytes

-- ---- an operation of the process in slot w, or of none; a start is from the file of that name
pub data Change (name : List ℕ) (w : ℕ) (k : Kernel) (disc : List ℕ) (j : Kernel) (after : List ℕ) : Type 0 where
  -- no instruction erases a file
  acts : (m : Kernel) (o : Outside name k disc m after) → erasing o ≡ false → Own w m after j → Change name w k disc j after
  writes : Writes w k disc j after → Change name w k disc j after
