-- A turn writes one more digit in front of those written, which there is room for.
use Prim.Native.Nat.{◌<◌}
use mathlib.Core.Path.{refl, ◌∙◌}
use native.Mathlib.Omega.{arith}
use lib.ListN.{length-set}
use Rattle.decimal.specs.Decimal.{last_digits}
use Rattle.decimal.proofs.Laws.{digit-next, room, shorter, zeros-shorter}
use Rattle.decimal.proofs.digits_of.Goals as goal

pub loop-rest-init : goal.loop-rest-init
unfolding last_digits
loop-rest-init c = (omega arith, refl, omega arith, refl, rw c.digit.ensures)

pub loop-rest-preserved : goal.loop-rest-preserved
loop-rest-preserved c =
    let l = c.loop-rest in
    let d = c.digit-in-loop-rest in
    let more : 0 < l.start = room l.start l.rest (omega arith) l.invariant.2 in (
      omega arith,
      simp length-set l.invariant.1,
      shorter l.start l.rest more l.invariant.2,
      zeros-shorter l.bytes l.start d.result more l.invariant.3,
      l.invariant.4 ∙ digit-next l.start l.rest d.result l.bytes (omega arith) more (omega arith) d.ensures,
    )
