-- What the operations on a process by its ID have in common: its slot; suspend and resume as one.
use Rattle.std.specs.Prelude.{ℕ, List, None, Option, Some, Ok, Err, Result}
use Rattle.std.specs.Option.{ok_or}
use Rattle.store.specs.declared.Refusal.{Refusal}
use Rattle.store.specs.declared.Refusal.TheVariants.{NoProcess}
use Rattle.validation.specs.Tests.{tested}
use Rattle.machine.specs.Area.{kernel_of}
use Rattle.machine.specs.Operations.{Commanded, changed, refused}
use Rattle.machine.specs.State.{slot_of}
use Rattle.machine.specs.declared.Kernel.{Kernel}

-- the slot of the live process of an ID, behind the tests; Document 01: "14 no live process of that ID"
abbrev pub slot_if : Result (Unit {0}) Refusal → Option ℕ → Result ℕ Refusal
slot_if (Err r) slot = Err r
slot_if (Ok u) slot = ok_or slot NoProcess

abbrev pub live_slot : (disc area : List ℕ) → (id : ℕ) → Result ℕ Refusal
live_slot disc area id = slot_if (tested disc area) (slot_of (kernel_of area) id)

-- the state that a live process is to have
abbrev pub turned_at : Option ℕ → ℕ → Kernel → Commanded
turned_at None state k = refused 14
turned_at (Some slot) state k = changed k slot state

abbrev pub turned_to : (state id : ℕ) → Kernel → Commanded
turned_to state id k = turned_at (slot_of k id) state k
