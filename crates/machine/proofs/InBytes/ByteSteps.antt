-- What the steps of a process and of the kernel leave of a state of bytes is one.
use Prim.Native.Nat.{ℕ, ◌+◌, ◌-◌, ◌≤◌, ◌<◌}
use mathlib.Core.Bool.{Bool, not}
use mathlib.Core.List.{List, ◌++◌}
use native.Mathlib.Omega.{arith}
use lib.ListN.{drop, length, replicate}
use Rattle.buffer.specs.Lists.{keep}
use Rattle.disc.specs.declared.Entry.{Entry}
use Rattle.variable.specs.Assign.{added, assigned, new_variable, value_bytes}
use Rattle.variable.specs.Table.{cell_of, counted, freed, freed_all, is_of, no_variable, owned, owned_by}
use Rattle.variable.specs.declared.Value.{Value}
use Rattle.variable.specs.declared.Variable.{Variable}
use Rattle.variable.specs.declared.Variables.{Variables}
use Rattle.variable.proofs.Freeing.{freed-count}
use Rattle.variable.proofs.Setting.{assigned-keeps, place-address}
use Rattle.machine.specs.Limits.{stack_size}
use Rattle.machine.specs.Start.{started, started_process}
use Rattle.machine.specs.Ended.{ended, ended_process}
use Rattle.machine.specs.State.{Local, no_file, process_at, with_file, with_local, with_process, with_share, with_state}
use Rattle.machine.specs.State.{with_variables}
use Rattle.machine.specs.declared.Kernel.{Kernel}
use Rattle.machine.specs.declared.OpenFile.{OpenFile}
use Rattle.machine.specs.declared.Process.{Process}
use Rattle.store.proofs.ByteDiscs.{ByteEntry}
use Rattle.buffer.proofs.ByteLists.{Bytes, IsByte, IsWord, filled-bytes, overwrite-bytes, part_bytes, take-bytes, zeros-bytes}
use Rattle.machine.proofs.InBytes.ByteStates.{ByteFile, ByteKernel, ByteProcess, ByteVariable, ByteVariables, process-at}
use Rattle.buffer.proofs.Each.{Each, each_append, each-drop, each_keep, each_map, each-replicate, each_set, each_take}
use Rattle.machine.proofs.InBytes.EffectBytes.{ByteCell}

-- ---- one process
-- what an instruction leaves of it
pub record ByteLocal (l : Local) : Type 0 where
  pub stack : Bytes l.stack
  pub size : length l.stack ≤ stack_size
  pub pc : IsWord l.pc
  pub loopstart : IsWord l.loopstart

module _ (p : Process) (h : ByteProcess p) where
  pub with-local : (l : Local) → ByteLocal l → ByteProcess (with_local p l)
  with-local l b = record {
    name = h.name;
    id = h.id;
    state = h.state;
    fault = h.fault;
    code = h.code;
    pc = b.pc;
    loopstart = b.loopstart;
    file = h.file;
    sp = omega (arith, b.size);
    share = h.share;
    stack = filled-bytes l.stack (stack_size - length l.stack) b.stack;
  }

  pub with-file : (f : OpenFile) → ByteFile f → ByteProcess (with_file p f)
  with-file f b = record {
    name = h.name;
    id = h.id;
    state = h.state;
    fault = h.fault;
    code = h.code;
    pc = h.pc;
    loopstart = h.loopstart;
    file = b;
    sp = h.sp;
    share = h.share;
    stack = h.stack;
  }

  pub with-state : (state : ℕ) → IsByte state → ByteProcess (with_state p state)
  with-state state b = record {
    name = h.name;
    id = h.id;
    state = b;
    fault = h.fault;
    code = h.code;
    pc = h.pc;
    loopstart = h.loopstart;
    file = h.file;
    sp = h.sp;
    share = h.share;
    stack = h.stack;
  }

  pub with-share : (share : ℕ) → IsByte share → ByteProcess (with_share p share)
  with-share share b = record {
    name = h.name;
    id = h.id;
    state = h.state;
    fault = h.fault;
    code = h.code;
    pc = h.pc;
    loopstart = h.loopstart;
    file = h.file;
    sp = h.sp;
    share = b;
    stack = h.stack;
  }

no-file : ByteFile no_file
no-file = record { start = omega arith; len = omega arith; offset = omega arith }

ended-process : (p : Process) → ByteProcess p → (fault : ℕ) → IsByte fault → ByteProcess (ended_process p fault)
ended-process p h fault b = record {
  name = h.name;
  id = h.id;
  state = omega arith;
  fault = b;
  code = record { start = omega arith; len = omega arith };
  pc = omega arith;
  loopstart = omega arith;
  file = no-file;
  sp = omega arith;
  share = omega arith;
  stack = zeros-bytes stack_size;
}

started-process : (e : Entry) → ByteEntry e → (id : ℕ) → IsWord id → ByteProcess (started_process e id)
started-process e h id b = record {
  name = h.name;
  id = b;
  state = omega arith;
  fault = omega arith;
  code = record { start = h.start; len = h.len };
  pc = omega arith;
  loopstart = omega arith;
  file = no-file;
  sp = omega arith;
  share = omega arith;
  stack = zeros-bytes stack_size;
}

-- ---- variables
no-variable : ByteVariable no_variable
no-variable = record { name = omega arith; kind = omega arith; address = omega arith; size = omega arith; owner = omega arith }

module _ (v : Variables) (h : ByteVariables v) where
  counted-bytes : Each ByteVariable (counted v)
  counted-bytes = each_take ByteVariable v.count v.entries h.entries

  pub owned-bytes : (id : ℕ) → Each ByteCell (owned v id)
  unfolding owned
  owned-bytes id =
      each_map ByteVariable ByteCell (cell_of v.memory)
      (λ e b. record { kind = b.kind; bytes = part_bytes v.memory e.address e.size h.memory })
      (keep (owned_by id) (counted v)) (each_keep ByteVariable (owned_by id) (counted v) counted-bytes)

  freed-bytes : (gone : Variable → Bool) → ByteVariables (freed v gone)
  unfolding freed
  freed-bytes gone = record {
    memory = h.memory;
    entries = each_append ByteVariable (kept ++ replicate (v.count - length kept) no_variable) (drop v.count v.entries)
        (each_append ByteVariable kept (replicate (v.count - length kept) no_variable)
        (each_keep ByteVariable (λ e. not (gone e)) (counted v) counted-bytes)
        (each-replicate ByteVariable (v.count - length kept) no_variable no-variable))
        (each-drop ByteVariable v.count v.entries h.entries);
    count = omega (arith, freed-count v gone, h.count);
  }
    where
      kept : List Variable
      kept = keep (λ e. not (gone e)) (counted v)

added-bytes : (v : Variables) → ByteVariables v → (e : Variable) → ByteVariable e → (bytes : List ℕ) → Bytes bytes → v.count < 255
    → ByteVariables (added v e bytes)
unfolding added
added-bytes v h e c bytes b few = record {
  memory = overwrite-bytes v.memory e.address bytes h.memory b;
  entries = each_set ByteVariable v.entries v.count e h.entries c;
  count = omega arith;
}

-- a SET that finds its place finds an entry and an address in memory
pub assigned-bytes : (v : Variables) → ByteVariables v → (name id : ℕ) (x : Value) → IsByte name → IsWord id → IsByte x.kind
    → 1 ≤ x.size → IsByte x.size → Bytes x.bytes → ByteVariables (assigned v name id x).variables
assigned-bytes v h name id x n i k some short b =
    assigned-keeps v name id x ByteVariables h λ a e.
    let q = place-address (freed v (is_of name id)) x.size a e in
    added-bytes (freed v (is_of name id)) (freed-bytes v h (is_of name id)) (new_variable name id x a)
    (record { name = n; kind = k; address = omega (arith, q.1.high); size = short; owner = i }) (value_bytes x)
    (take-bytes x.size x.bytes b) (omega (arith, q.0))

-- ---- the kernel
module _ (k : Kernel) (h : ByteKernel k) where
  pub with-process : (slot : ℕ) (p : Process) → ByteProcess p → ByteKernel (with_process k slot p)
  with-process slot p b = record {
    variables = h.variables;
    next = h.next;
    zeros = h.zeros;
    processes = each_set ByteProcess k.processes slot p h.processes b;
  }

  pub with-variables : (v : Variables) → ByteVariables v → ByteKernel (with_variables k v)
  with-variables v b = record { variables = b; next = h.next; zeros = h.zeros; processes = h.processes }

  pub started-bytes : (slot : ℕ) (e : Entry) → ByteEntry e → IsWord (k.next + 1) → ByteKernel (started k slot e)
  started-bytes slot e b n =
      let w = with-process slot (started_process e k.next) (started-process e b k.next h.next) in
      record { variables = w.variables; next = n; zeros = w.zeros; processes = w.processes }

pub ended-bytes : (k : Kernel) → ByteKernel k → (slot fault : ℕ) → IsByte fault → ByteKernel (ended k slot fault)
unfolding ended
ended-bytes k h slot fault b =
    with-variables (with_process k slot (ended_process (process_at k slot) fault))
    (with-process k h slot (ended_process (process_at k slot) fault) (ended-process (process_at k slot) (process-at k h slot) fault b))
    (freed_all k.variables (process_at k slot).id)
    (freed-bytes k.variables h.variables (owned_by (process_at k slot).id))
