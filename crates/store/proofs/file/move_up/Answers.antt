-- The loop: the first i bytes are moved.
use Prim.Native.Nat.{ℕ, ◌+◌}
use mathlib.Core.Path.{◌≡◌, refl, ap, ◌∙◌}
use mathlib.Core.List.{List}
use lib.ListN.{length, get_or, set, length-set}
use lib.Seq.{paste-zero}
use Rattle.buffer.specs.Buffer.{part}
use Rattle.buffer.proofs.Buffer.{moved-next, overwrite-next, overwrite-end}
use Rattle.buffer.proofs.Parts.{part_length}
use Rattle.disc.specs.Layout.{entry_size}
use native.Mathlib.Omega.{arith}
use Rattle.store.proofs.file.move_up.Goals as goal

pub loop-i-init : goal.loop-i-init
loop-i-init c = (
  omega arith,
  refl,
  paste-zero c.args.disc.now c.args.at (part c.args.disc.now (c.args.at + entry_size) c.args.n),
)

pub loop-i-preserved : goal.loop-i-preserved
loop-i-preserved c =
    let a = c.args in
    let d = a.disc.now in
    let s = part d (a.at + entry_size) a.n in
    let z : length s ≡ a.n = part_length d (a.at + entry_size) a.n (omega arith) in
    let r : get_or c.loop-i.disc (a.at + entry_size + c.loop-i.i) 0 ≡ get_or s c.loop-i.i 0 =
    ap (λ (x : List ℕ). get_or x (a.at + entry_size + c.loop-i.i) 0) c.loop-i.invariant.2
    ∙ moved-next d a.at entry_size a.n c.loop-i.i (omega arith) (omega arith) in (
      omega arith,
      simp length-set c.loop-i.invariant.1,
      ap (λ (x : ℕ). set c.loop-i.disc (a.at + c.loop-i.i) x) r
          ∙ overwrite-next d s c.loop-i.disc a.at c.loop-i.i (omega arith) (omega arith) c.loop-i.invariant.2,
    )

pub returns : goal.returns
returns c =
    let a = c.args in
    let d = a.disc.now in
    let z : length (part d (a.at + entry_size) a.n) ≡ a.n = part_length d (a.at + entry_size) a.n (omega arith) in
    overwrite-end d (part d (a.at + entry_size) a.n) c.loop-i.disc a.at c.loop-i.i (omega arith) c.loop-i.invariant.2
