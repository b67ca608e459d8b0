-- Carrying out what an instruction does to its process alone, and its ending: each is a change.
use Prim.Native.Nat.{ℕ, ◌-◌}
use mathlib.Core.Path.{◌≡◌, refl, ap, subst}
use mathlib.Core.Bool.{true}
use mathlib.Core.List.{List, ◌++◌}
use native.Mathlib.Omega.{arith}
use lib.ListN.{length, replicate, take, length-append, length-replicate}
use lib.Seq.{take_at}
use Rattle.disc.specs.Directory.{files}
use Rattle.variable.specs.Assign.{assigned, value_of}
use Rattle.variable.specs.Good.{good_size}
use Rattle.variable.specs.Assign.{Placing}
use Rattle.std.specs.Prelude.{Ok, Err}
use Rattle.variable.specs.Limits.{value_size}
use Rattle.machine.specs.Ended.{ended}
use Rattle.machine.specs.State.{Local, is_live, process_at, with_file, with_local, with_process}
use Rattle.machine.specs.Turn.{program_of, setting}
use Rattle.machine.specs.declared.Kernel.{Kernel}
use Rattle.machine.specs.declared.OpenFile.{OpenFile}
use Rattle.machine.specs.declared.Process.{Process}
use Rattle.machine.proofs.Changes.Change.{GoodState, GoesOn, moves, sets, ends, Change, acts, nothing}
use Rattle.machine.proofs.Goodness.GoodRecords.{GoodFile, GoodRegisters}
use Rattle.machine.proofs.Changes.Directories.{live-record}
use Rattle.machine.proofs.Changes.LiveRecords.{program-length}
use Rattle.machine.proofs.Instructions.Sound.{Within}

module _ {k : Kernel} {disc : List ℕ} (good : GoodState k disc) (slot : ℕ) (live : is_live (process_at k slot) ≡ true) where
  abbrev p : Process
  p = process_at k slot

  -- a state within the program, and a file that stands in the directory as it is then, make a good record
  pub goes_on : (after : List ℕ) (l : Local) (f : OpenFile) → Within (length (program_of disc p)) l → GoodFile (files after) f
      → GoesOn after p (with_file (with_local p l) f)
  goes_on after l f within file =
      record {
        before = live;
        live = live;
        name = refl;
        id = refl;
        code = refl;
        registers = registers;
        file = file;
        stack = simp (length-append, length-replicate) (omega (arith, within.stack));
      }
    where
      in-record : Within p.code.len l
      in-record = subst (λ (n : ℕ). Within n l) (program-length good slot live) within

      registers : GoodRegisters (with_file (with_local p l) f)
      registers = record {
        share = (live-record good slot live).registers.share;
        sp = within.stack;
        pc = in-record.pc;
        loop = in-record.loop;
      }

  -- with the file it has
  pub goes-on-local : (l : Local) → Within (length (program_of disc p)) l → GoesOn disc p (with_local p l)
  goes-on-local l within = goes_on disc l p.file within (live-record good slot live).file

  module _ (name : List ℕ) where
    pub moves-local : (l : Local) → Within (length (program_of disc p)) l
        → Change name slot k disc (with_process k slot (with_local p l)) disc
    moves-local l within = acts k (nothing refl refl) refl (moves (with_local p l) (goes-on-local l within) refl)

    pub ends-here : (fault : ℕ) → Change name slot k disc (ended k slot fault) disc
    ends-here fault = acts k (nothing refl refl) refl (ends fault live refl)

    -- Document 01, fault 10: "no variable entry or run"
    pub assigns-here : (letter kind : ℕ) (bytes : List ℕ) (l : Local) → Within (length (program_of disc p)) l
        → good_size kind (length bytes) ≡ true
        → (q : Placing) → (assigned k.variables letter p.id (value_of kind bytes)).placing ≡ q
        → Change name slot k disc (setting k slot disc q (assigned k.variables letter p.id (value_of kind bytes)).variables l).kernel
        (setting k slot disc q (assigned k.variables letter p.id (value_of kind bytes)).variables l).disc
    assigns-here letter kind bytes l within size (Ok a) e =
        acts k (nothing refl refl) refl
        (sets (with_local p l) letter (value_of kind bytes) a (goes-on-local l within) size (ap length whole) e refl)
      where
        whole : take (length bytes) (bytes ++ replicate (value_size - length bytes) 0) ≡ bytes
        whole = take_at bytes (replicate (value_size - length bytes) 0) (length bytes) refl
    assigns-here letter kind bytes l within size (Err x) e = ends-here _
