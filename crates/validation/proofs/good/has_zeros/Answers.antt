-- Both numbers are 0 where the seven bytes are.
use Rattle.validation.proofs.Zeros.{seven-zeros}
use Rattle.validation.proofs.good.has_zeros.Goals as goal

pub returns : goal.returns
returns c = cc (seven-zeros c.args.area.now c.requires)
