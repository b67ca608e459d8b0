-- The process stays as it is, or goes on, by whether a live process has the ID.
use mathlib.Core.Path.{sym, ◌∙◌}
use native.Mathlib.Omega.{arith}
use Rattle.machine.specs.State.{local_of}
use Rattle.process.specs.Stepping.{stack_of}
use Rattle.stack.specs.Steps.{keeping}
use Rattle.process.proofs.Advancing.{may-keep, own-keeping, own_room}
use Rattle.request.proofs.Answering.{awaited-by, own-staying, steps_on}
use Rattle.request.proofs.wait.wait.Goals as goal

pub go_on-requires : goal.go_on-requires
go_on-requires c =
    (c.requires.size, c.requires.low, own_room c.requires c.args.p.sp 0 (omega arith) (omega (arith, c.requires.sp)))

pub go_on-requires-2 : goal.go_on-requires-2
go_on-requires-2 c = may-keep c.requires

pub returns-then-is_awaited : goal.returns-then-is_awaited
returns-then-is_awaited c disc =
    let a = c.args in
    let p = a.p in
    let on = keeping (stack_of p) a.d in
    steps_on c.requires disc (local_of p)
    (awaited-by a.area.now a.slot disc a.id (local_of p) on (sym c.is_awaited.ensures ∙ c.if-is_awaited.true))
    (own-staying c.requires) c.go_on.ensures

pub returns : goal.returns
returns c disc =
    let a = c.args in
    let p = a.p in
    let on = keeping (stack_of p) a.d in
    steps_on c.requires disc on
    (awaited-by a.area.now a.slot disc a.id (local_of p) on (sym c.is_awaited.ensures ∙ c.if-is_awaited.false))
    (own-keeping c.requires) c.go_on-2.ensures
