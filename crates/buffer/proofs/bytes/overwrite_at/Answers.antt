use mathlib.Core.Path.{refl}
use native.Mathlib.Omega.{arith}
use lib.ListN.{length-set}
use lib.Seq.{paste-zero}
use Rattle.buffer.proofs.Buffer.{overwrite-next, overwrite-end}
use Rattle.buffer.proofs.bytes.overwrite_at.Goals as goal

pub loop-i-init : goal.loop-i-init
loop-i-init c = (omega arith, refl, paste-zero c.args.dst.now c.args.at c.args.src.now)

pub loop-i-preserved : goal.loop-i-preserved
loop-i-preserved c =
    let a = c.args in (
      omega arith,
      simp length-set c.loop-i.invariant.1,
      overwrite-next a.dst.now a.src.now c.loop-i.dst a.at c.loop-i.i (omega arith) (omega arith) c.loop-i.invariant.2,
    )

pub returns : goal.returns
returns c =
    let a = c.args in
    overwrite-end a.dst.now a.src.now c.loop-i.dst a.at c.loop-i.i (omega arith) c.loop-i.invariant.2
