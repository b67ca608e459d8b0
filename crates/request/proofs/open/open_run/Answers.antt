-- The process goes on with nothing pushed.
use mathlib.Core.Path.{refl}
use Rattle.process.proofs.Advancing.{may-keep, own-keeping}
use Rattle.request.proofs.Answering.{goes_on}
use Rattle.request.proofs.open.open_run.Goals as goal

pub go_on-requires : goal.go_on-requires
go_on-requires c = may-keep c.requires

pub returns : goal.returns
returns c disc after =
    goes_on c.requires disc refl (own-keeping c.requires) refl c.go_on.ensures
