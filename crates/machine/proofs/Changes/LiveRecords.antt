-- What a good state says of a live process: its program is as long as its record says, and its own state fits its record.
use Prim.Native.Nat.{ℕ}
use mathlib.Core.Path.{◌≡◌, sym, subst}
use mathlib.Core.Bool.{true}
use mathlib.Core.List.{List}
use native.Mathlib.Omega.{arith}
use lib.Dec.{eqb}
use lib.ListN.{length}
use Rattle.disc.proofs.Locations.{Held, held-inside}
use Rattle.store.proofs.Contents.{contents-length}
use Rattle.variable.proofs.Views.{take_bound}
use Rattle.machine.specs.State.{is_live, is_running, local_of, paused, process_at}
use Rattle.machine.specs.Turn.{program_of}
use Rattle.machine.specs.declared.Kernel.{Kernel}
use Rattle.machine.specs.declared.Process.{Process}
use Rattle.machine.proofs.Changes.Change.{GoodState}
use Rattle.machine.proofs.Changes.Directories.{live-record, program-at}
use Rattle.buffer.proofs.Disjunctions.{or-first}
use Rattle.machine.proofs.Instructions.Sound.{Within}

pub running-live : (p : Process) → is_running p ≡ true → is_live p ≡ true
running-live p h = or-first (eqb p.state paused) h

module _ {k : Kernel} {disc : List ℕ} (good : GoodState k disc) (slot : ℕ) (live : is_live (process_at k slot) ≡ true) where
  -- a program is as long as its record says, since it is a file of a good disc
  pub program-length : length (program_of disc (process_at k slot)) ≡ (process_at k slot).code.len
  program-length =
      let code : Held disc (process_at k slot).code = record { sound = good.sound; file = program-at good slot live } in
      contents-length disc (process_at k slot).code (held-inside code)

  -- so the state it has lies within its program and its stack within its 32 bytes
  pub within-local : Within (length (program_of disc (process_at k slot))) (local_of (process_at k slot))
  within-local = subst (λ (n : ℕ). Within n (local_of (process_at k slot))) (sym program-length) fits
    where
      fits : Within (process_at k slot).code.len (local_of (process_at k slot))
      fits =
          record {
            stack = omega (arith, take_bound (process_at k slot).sp (process_at k slot).stack, (live-record good slot live).registers.sp);
            pc = (live-record good slot live).registers.pc;
            loop = (live-record good slot live).registers.loop;
          }
