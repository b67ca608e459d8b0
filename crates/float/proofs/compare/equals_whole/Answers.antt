-- Both are exact in binary64, where they are compared. Assumes nothing.
use Rattle.float.proofs.Exactly.{equals-met}
use Rattle.float.proofs.compare.equals_whole.Goals as goal

pub returns : goal.returns
returns c = equals-met c.args.z c.ranges.z c.f32_to_f64_with_nan.ensures
