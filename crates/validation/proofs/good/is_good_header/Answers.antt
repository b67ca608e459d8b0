-- Its tests are those of `good_header`.
use Rattle.machine.specs.Area.{kernel_of}
use Rattle.machine.specs.GoodArea.{good_header}
use Rattle.validation.proofs.good.is_good_header.Goals as goal

pub returns : goal.returns
unfolding good_header kernel_of
returns c = cc
