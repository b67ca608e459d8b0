-- By the law of NearestRoot. Assumes nothing.
use Rattle.float.proofs.NearestRoot.{correctly-rounded}
use Rattle.float.proofs.sqrt.correctly_rounded.Goals as goal

pub returns : goal.returns
returns c = correctly-rounded
