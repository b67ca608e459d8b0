-- Starting a program, from what the code finds: an ended slot, a file, an ID left.
use Rattle.std.specs.Prelude.{Option, Some}
use Prim.Native.Nat.{ℕ, ◌<◌}
use mathlib.Core.Path.{◌≡◌, ap, ◌∙◌}
use mathlib.Core.Bool.{Bool, false, not}
use mathlib.Core.List.{List}
use lib.Dec.{eqb}
use borrow.Author.Tests.{not-true}
use Rattle.area.specs.Parts.{process_in}
use Rattle.area.proofs.Reading.{process-read}
use Rattle.buffer.proofs.Tables.{index-tab-at}
use Rattle.machine.specs.Area.{kernel_of}
use Rattle.machine.specs.Limits.{id_limit, slot_count}
use Rattle.machine.specs.Start.{start_in, starting}
use Rattle.machine.specs.State.{ended_slot, is_live, process_at}
use Rattle.disc.specs.Directory.{lookup}

pub ended-slot-is : (area : List ℕ) {slot : ℕ} → ended_slot (kernel_of area) ≡ Some slot
    → (slot < slot_count) × (is_live (process_at (kernel_of area) slot) ≡ false)
unfolding ended_slot kernel_of
ended-slot-is area {slot} e =
    let f = index-tab-at (process_in area) slot_count (λ p. not (is_live p)) slot e in
    (f.0, ap is_live (process-read area slot f.0) ∙ not-true (is_live (process_in area slot)) f.1)

pub starting-by : (area disc name : List ℕ) {slot file : Option ℕ} {spent : Bool} → ended_slot (kernel_of area) ≡ slot
    → lookup disc name ≡ file
    → eqb (kernel_of area).next id_limit ≡ spent → starting (kernel_of area) disc name ≡ start_in slot file spent disc
unfolding starting
starting-by area disc name e f g = λ i. start_in (e i) (f i) (g i) disc
