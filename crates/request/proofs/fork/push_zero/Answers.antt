-- The process goes on with an INT 0 pushed.
use mathlib.Core.Path.{refl}
use Rattle.machine.specs.Beyond.{push_id}
use Rattle.process.specs.Stepping.{own_at, stack_of}
use Rattle.process.proofs.Advancing.{may-go-on}
use Rattle.stack.specs.Steps.{keeping}
use Rattle.request.proofs.Answering.{goes_on}
use Rattle.request.proofs.fork.push_zero.Goals as goal

pub go_on-requires : goal.go_on-requires
go_on-requires c = may-go-on c.requires.0 3 c.requires.2

pub returns : goal.returns
returns c disc n =
    goes_on c.requires.0 disc {m = push_id (keeping (stack_of (own_at c.args.area.now c.args.slot)) c.args.d) 0}
    refl refl c.requires.1
    c.go_on.ensures
