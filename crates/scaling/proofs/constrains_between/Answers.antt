-- `scaling::constrains_between` meets its contract, which is a law of Meaning.
use Rattle.scaling.specs.Meaning.{ConstrainsBetween}
use Rattle.scaling.proofs.Meaning.{between}
use Rattle.scaling.proofs.constrains_between.Goals as goal

pub returns : goal.returns
unfolding ConstrainsBetween
returns c = between
