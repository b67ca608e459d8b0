-- A start: the record put back and then next ID are the bytes of the state with the program started.
use Prim.Native.Nat.{ℕ, ◌+◌}
use mathlib.Core.Path.{◌≡◌, sym, ap, ◌∙◌}
use mathlib.Core.List.{List}
use lib.ListN.{length}
use Rattle.buffer.specs.Buffer.{overwrite, word_bytes}
use Rattle.disc.specs.Layout.{name_size}
use Rattle.disc.specs.declared.Entry.{Entry}
use Rattle.machine.specs.Area.{kernel_bytes, kernel_of}
use Rattle.machine.specs.Limits.{area_length, next_at}
use Rattle.machine.specs.Start.{started, started_process}
use Rattle.machine.specs.State.{with_process}
use Rattle.machine.specs.declared.Process.{Process}
use Rattle.machine.proofs.Bytes.Area.{kernel-decode-encode}
use Rattle.machine.proofs.Bytes.Sizes.{decoded-sized, started-process-sized, started-sized, with-process-sized}
use Rattle.area.proofs.Writing.{next-bytes-put}

module _ (area : List ℕ) (size : length area ≡ area_length) (slot : ℕ) (e : Entry) (named : length e.name ≡ name_size) where
  pub started-bytes : {next : ℕ} {p : Process} {one after : List ℕ} → next ≡ (kernel_of area).next → p ≡ started_process e next
      → one ≡ kernel_bytes (with_process (kernel_of area) slot p) → after ≡ overwrite one next_at (word_bytes (next + 1))
      → after ≡ kernel_bytes (started (kernel_of area) slot e)
  started-bytes n q x y =
      let k = kernel_of area in
      let begun = started_process e k.next in
      let sized = with-process-sized k (decoded-sized area size) slot begun (λ h. started-process-sized e k.next named) in
      let r = q ∙ ap (started_process e) n in
      y
      ∙ (λ t. overwrite ((x ∙ ap (λ (o : Process). kernel_bytes (with_process k slot o)) r) t) next_at (word_bytes (n t + 1)))
      ∙ sym (next-bytes-put (with_process k slot begun) sized (k.next + 1))

  -- what the area says then
  pub started-said : {after : List ℕ} → after ≡ kernel_bytes (started (kernel_of area) slot e)
      → kernel_of after ≡ started (kernel_of area) slot e
  started-said x =
      ap kernel_of x
      ∙ kernel-decode-encode (started (kernel_of area) slot e) (started-sized (kernel_of area) (decoded-sized area size) slot e named)
