-- The product so far is the power of as many factors as there were turns, wrapped.
use Rattle.std.proofs.Common.{sym, arith, pos}
use Rattle.std.proofs.Math.IntN.{pow}
use Rattle.std.specs.Int.{w16}
use mir.Facts.{sfits_lit}
use mir.Val.{to_z, of_z}
use Rattle.integer.proofs.Modular.{reads-wrapped, wrapped_same}
use Rattle.scaling.proofs.Powers.{wrapped-next}
use Rattle.scaling.proofs.power.power16.Goals as goal

pub loop-init : goal.loop-init
unfolding pow lib.IntN.one
loop-init c = (omega arith, sym (wrapped_same w16 (pos 1) (sfits_lit tt)))

pub loop-preserved : goal.loop-preserved
loop-preserved c = (
  omega arith,
  reads-wrapped w16 _ (wrapped-next w16 (to_z w16 (of_z w16 c.args.x)) c.loop.counter c.loop.invariant.1 c.multiply-product.ensures),
)
