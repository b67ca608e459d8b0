-- Three equal numbers of four bytes are twelve equal bytes.
use native.Mathlib.Omega.{arith}
use Rattle.buffer.proofs.Fours.{three-fours}
use Rattle.disc.proofs.good.same_name.Goals as goal

pub returns : goal.returns
returns c =
    let a = c.args in
    cc (three-fours a.a.now a.b.now (λ n. omega (arith, c.type_inv.a n))
    (λ n. omega (arith, c.type_inv.b n)) a.i a.j (omega arith) (omega arith))
