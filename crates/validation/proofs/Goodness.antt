-- A good area in the parts that the code tests one after the other: header, records, IDs by slot, variables.
use Prim.Native.Nat.{ℕ, ◌≤◌}
use mathlib.Core.Path.{◌≡◌, sym, ap, ◌∙◌}
use mathlib.Core.Bool.{Bool, true, false, and-false, and-true}
use mathlib.Core.List.{List, map}
use native.Mathlib.Omega.{arith}
use Rattle.buffer.specs.Lists.{all, keep, pairs}
use Rattle.buffer.proofs.Lists.{map-tab}
use Rattle.disc.specs.Directory.{files}
use Rattle.variable.specs.Good.{good_variables}
use Rattle.variable.specs.Bytes.{variables_of}
use Rattle.machine.specs.Answer.{good_area}
use Rattle.machine.specs.Area.{kernel_of}
use Rattle.machine.specs.GoodArea.{good_header, good_kernel, good_process, other_id}
use Rattle.machine.specs.Limits.{slot_count}
use Rattle.machine.specs.State.{is_live, live_ids}
use Rattle.machine.specs.declared.Kernel.{Kernel}
use Rattle.machine.specs.declared.Process.{Process}
use Rattle.machine.proofs.Goodness.GoodRecords.{good-live-of}
use Rattle.area.specs.Parts.{process_in}
use Rattle.validation.specs.Columns.{differs, is_id, slot_id, slot_ids}
use Rattle.validation.proofs.Slots.{ids-distinct, ids-kept}

module _ (disc area : List ℕ) where
  abbrev kernel : Kernel
  kernel = kernel_of area

  abbrev good : Process → Bool
  good = good_process (files disc) (kernel_of area).next

  pub bad-header : good_header (kernel_of area) ≡ false → good_area disc area ≡ false
  unfolding good_area good_kernel
  bad-header h = rw h (and-false (good_variables (live_ids (kernel_of area)) (kernel_of area).variables))

  pub bad-records : all (good_process (files disc) (kernel_of area).next) (kernel_of area).processes ≡ false → good_area disc area ≡ false
  unfolding good_area good_kernel
  bad-records h =
      rw (h, and-false (good_header (kernel_of area))) (and-false (good_variables (live_ids (kernel_of area)) (kernel_of area).variables))

  module _ (records : all (good_process (files disc) (kernel_of area).next) (kernel_of area).processes ≡ true) where
    -- no live process of a good record has ID 0
    named : (p : Process) → good_process (files disc) (kernel_of area).next p ≡ true → is_live p ≡ true → p.id ≡ 0 → ⊥
    named p g l z = let low : 1 ≤ p.id = (good-live-of (files disc) (kernel_of area).next p g l).low in omega arith

    by-slot : map slot_id (kernel_of area).processes ≡ slot_ids area
    unfolding kernel_of
    by-slot = map-tab slot_id (process_in area) slot_count

    distinct : pairs differs (slot_ids area) ≡ pairs other_id (kernel_of area).processes
    distinct = ap (pairs differs) (sym by-slot)
        ∙ ids-distinct (good_process (files disc) (kernel_of area).next) named (kernel_of area).processes records

    live : keep is_id (slot_ids area) ≡ live_ids (kernel_of area)
    live = ap (keep is_id) (sym by-slot)
        ∙ ids-kept (good_process (files disc) (kernel_of area).next) named (kernel_of area).processes records

    pub bad-ids : pairs differs (slot_ids area) ≡ false → good_area disc area ≡ false
    unfolding good_area good_kernel
    bad-ids h =
        rw (
          sym distinct ∙ h,
          and-false (all (good_process (files disc) (kernel_of area).next) (kernel_of area).processes),
          and-false (good_header (kernel_of area)),
        )
        (and-false (good_variables (live_ids (kernel_of area)) (kernel_of area).variables))

    pub variables-left : good_header (kernel_of area) ≡ true → pairs differs (slot_ids area) ≡ true
        → good_variables (keep is_id (slot_ids area)) (variables_of area) ≡ good_area disc area
    unfolding good_area good_kernel kernel_of
    variables-left h d =
        rw (h, records, sym distinct ∙ d, live) (sym (and-true (good_variables (live_ids (kernel_of area)) (variables_of area))))
