-- The loop: so far the field passes the test of `Fields`.
use native.Mathlib.Omega.{arith}
use Rattle.disc.proofs.Fields.{pass-begins, pass-ends, pass-more}
use Rattle.disc.proofs.good.is_good_field.Goals as goal

pub loop-i-init : goal.loop-i-init
loop-i-init c = (omega arith, pass-begins c.args.disc.now c.args.at)

pub loop-i-preserved : goal.loop-i-preserved
loop-i-preserved c =
    let a = c.args in (
      omega arith,
      pass-more a.disc.now a.at c.loop-i.i c.loop-i.good c.is_field_byte-good.result c.loop-i.invariant.1
          c.is_field_byte-good.ensures,
    )

pub returns : goal.returns
returns c =
    pass-ends c.args.disc.now c.args.at c.requires c.loop-i.i c.loop-i.good (omega arith) c.loop-i.invariant.1
