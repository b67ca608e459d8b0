-- A program that starts, as run and FORK start it.
use Prim.Native.Nat.{ℕ, ◌+◌}
use mathlib.Core.Path.{◌≡◌, ap, ◌∙◌}
use mathlib.Core.List.{List}
use Rattle.disc.specs.declared.Entry.{Entry}
use Rattle.disc.proofs.Offsets.{entry-name, entry-size, entry-start}
use Rattle.machine.specs.Area.{kernel_of}
use Rattle.machine.specs.Changed.{Starts}
use Rattle.machine.specs.Fields.{next_id}
use Rattle.machine.specs.Refusals.{Passes}
use Rattle.machine.specs.Start.{started_process, starting, starts}
use Rattle.machine.specs.State.{process_at}
use Rattle.machine.specs.declared.Kernel.{Kernel}
use Rattle.machine.proofs.Fields.Files.{lookup-named}
use Rattle.machine.proofs.Fields.Slots.{ended-slot-lowest}
use Rattle.machine.proofs.Kept.Begins.{starting-begins}

module _ {disc area : List ℕ} (passes : Passes disc area) (name : List ℕ) (slot : ℕ) (e : Entry) where
  pub starting-starts : (after : Kernel) → starting (kernel_of area) disc name ≡ starts slot e
      → after.next ≡ (kernel_of area).next + 1 → process_at after slot ≡ started_process e (kernel_of area).next
      → Starts disc area name slot after
  unfolding kernel_of
  starting-starts after begun next new =
      let b = starting-begins name (kernel_of area) disc slot e begun in
      record {
        lowest = ended-slot-lowest passes slot b.lowest;
        file = b.file;
        named = lookup-named disc name b.file b.found;
        left = b.unspent;
        next = next;
        new = new ∙ ap (λ (d : Entry). started_process d (next_id area)) b.entry
            ∙ rw (entry-name disc b.file, entry-start disc b.file, entry-size disc b.file);
      }
