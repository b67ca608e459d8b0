-- The child is started, then its ID pushed on the stack of the process that forks.
use Prim.Native.Nat.{ℕ, ◌/◌, ◌%◌}
use mathlib.Core.Path.{◌≡◌, ap, ◌∙◌}
use mathlib.Core.List.{List}
use native.Mathlib.Omega.{arith}
use borrow.Author.Rules.{rules}
use lib.ListN.{length}
use Rattle.disc.specs.Layout.{name_size}
use Rattle.disc.specs.declared.Entry.{Entry}
use Rattle.machine.specs.Area.{kernel_bytes, kernel_of}
use Rattle.machine.specs.Limits.{area_length}
use Rattle.machine.specs.Start.{started}
use Rattle.request.proofs.Answering.{forks-on, may-fork-on}
use Rattle.request.proofs.Started.{started-said}
use Rattle.request.proofs.fork.push_child.Goals as goal

-- the area after the child's start, from an entry as it was read
begun-is : (area : List ℕ) → length area ≡ area_length → (child : ℕ) {e entry : Entry} {begun : List ℕ} → length e.name ≡ name_size
    → e ≡ entry → begun ≡ kernel_bytes (started (kernel_of area) child e) → kernel_of begun ≡ started (kernel_of area) child entry
begun-is area size child {e} named r x =
    started-said area size child e named x ∙ ap (λ (y : Entry). started (kernel_of area) child y) r

pub go_on-requires : goal.go_on-requires
go_on-requires c =
    let a = c.args in
    let s = c.requires.0 in
    let begun = begun-is a.area.now s.size a.child.slot (search rules) c.entry_at.ensures c.start.ensures in
    may-fork-on s a.disc.now a.child.slot _ c.requires.4.ended c.start.new.area (omega (arith, s.size)) begun c.requires.2

pub returns : goal.returns
returns c =
    let a = c.args in
    let s = c.requires.0 in
    let begun = begun-is a.area.now s.size a.child.slot (search rules) c.entry_at.ensures c.start.ensures in
    let high = c.high.ensures ∙ ap (λ (w : ℕ). w / 256) c.next_id-next.ensures in
    let low = c.low.ensures ∙ ap (λ (w : ℕ). w % 256) c.next_id-next.ensures in
    forks-on s a.disc.now a.child.slot _ c.requires.4.ended c.start.new.area begun high low c.requires.1 c.go_on.ensures
