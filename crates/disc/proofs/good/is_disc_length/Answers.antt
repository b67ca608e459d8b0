-- The test of the length is read here as it is said.
use mathlib.Core.Path.{refl}
use Rattle.disc.specs.Directory.{is_disc_length}
use Rattle.disc.proofs.good.is_disc_length.Goals as goal

pub returns : goal.returns
unfolding is_disc_length
returns c = refl
