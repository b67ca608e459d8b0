use mathlib.Core.Path.{◌≡◌, refl, sym, ◌∙◌}
use native.Mathlib.Omega.{arith}
use lib.ListN.{length, length-set}
use lib.Seq.{take_all}
use Rattle.buffer.proofs.Buffer.{copy-next}
use Rattle.buffer.proofs.bytes.copy_part.Goals as goal

pub loop-i-init : goal.loop-i-init
loop-i-init c = (omega arith, refl, refl)

pub loop-i-preserved : goal.loop-i-preserved
loop-i-preserved c = (
  simp length-set (omega arith),
  simp length-set c.loop-i.invariant.1,
  copy-next c.loop-i.dst c.args.src.now c.args.at c.loop-i.i (omega arith) (omega arith)
      c.loop-i.invariant.2,
)

pub returns : goal.returns
returns c =
    let n : c.loop-i.i ≡ length c.loop-i.dst = omega arith in
    let m : length c.loop-i.dst ≡ length c.args.dst.now = c.loop-i.invariant.1 in
    rw (← m, ← n) (sym (take_all c.loop-i.i c.loop-i.dst (omega arith)) ∙ c.loop-i.invariant.2)
