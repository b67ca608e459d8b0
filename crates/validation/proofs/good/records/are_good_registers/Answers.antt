-- Its tests are those of `good_registers`, on the fields in place.
use Rattle.machine.specs.GoodArea.{good_registers}
use Rattle.validation.proofs.good.records.are_good_registers.Goals as goal

pub returns : goal.returns
unfolding good_registers
returns c = cc
