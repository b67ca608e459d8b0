-- What the area says, read off the bytes of its parts.
use Prim.Native.Nat.{ℕ, ◌<◌}
use mathlib.Core.Path.{◌≡◌}
use mathlib.Core.List.{List}
use Rattle.buffer.proofs.Lists.{tab-at}
use Rattle.machine.specs.Area.{kernel_of}
use Rattle.machine.specs.Limits.{slot_count}
use Rattle.machine.specs.State.{no_process, process_at}
use Rattle.area.specs.Parts.{process_in}

pub process-read : (area : List ℕ) (slot : ℕ) → slot < slot_count → process_at (kernel_of area) slot ≡ process_in area slot
unfolding kernel_of
process-read area slot h = tab-at (process_in area) slot_count slot no_process h
