-- Hundredths have a whole part that fits.
use Rattle.std.proofs.Common.{sym, ◌∙◌, arith}
use Rattle.float.proofs.Hundredths.{hundredths-bound}
use Rattle.number.proofs.text.float_text.Goals as goal

pub hundredths_text-requires : goal.hundredths_text-requires
hundredths_text-requires c =
    omega (arith, hundredths-bound c.args.x (sym c.in-Hundredths.is ∙ c.to_printed.ensures))
