-- The nearest is by the last digit of the quotient with one binary digit more. Assumes nothing.
use Rattle.std.proofs.Common.{ℕ, ◌+◌, ◌/◌, ◌%◌, ap, ◌∙◌}
use Rattle.float.proofs.Fractions.{nearest-digit}
use Rattle.float.proofs.quotient.nearest.Goals as goal

pub returns : goal.returns
returns c =
    ap (λ (n : ℕ). n / 2 + n % 2) c.divide-twice.ensures ∙ nearest-digit c.args.a c.args.s c.if-s-eq0.false
