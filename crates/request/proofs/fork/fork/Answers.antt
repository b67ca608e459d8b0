-- FORK: the child's ID is pushed, or 0 where no program starts.
use Prim.Native.Nat.{ℕ}
use mathlib.Core.Path.{◌≡◌, sym, ap, ◌∙◌}
use mathlib.Core.List.{List}
use Rattle.machine.specs.Area.{kernel_of}
use Rattle.machine.specs.Beyond.{answered, forked}
use Rattle.machine.specs.Effect.{forks}
use Rattle.machine.specs.Start.{starting}
use Rattle.machine.specs.Start.{Starting as StartOf}
use Rattle.machine.specs.declared.Process.{Process}
use Rattle.process.specs.Stepping.{Left, Stepping, own_at, stack_of}
use Rattle.process.proofs.Advancing.{own-file, own-stepping}
use Rattle.stack.specs.Steps.{about, keeping}
use Rattle.stack.specs.declared.Step.{Step}
use Rattle.store.specs.Answer.{refusal_number}
use Rattle.request.specs.Answers.{after}
use Rattle.request.proofs.Answering.{answers}
use Rattle.request.proofs.fork.fork.Goals as goal

-- what FORK answers, from what it answers to the process as it stands in the area
forks-by : {area : List ℕ} {slot : ℕ} {p : Process} {d : Step} (s : Stepping area slot p d) (disc : List ℕ) {x : Left} {start : StartOf}
    → x ≡ after disc area slot (forked (kernel_of area) slot disc start (keeping (stack_of (own_at area slot)) d))
    → start ≡ starting (kernel_of area) disc (about d)
    → x ≡ after disc area slot (answered (kernel_of area) slot disc (forks (about d) (keeping (stack_of p) d)))
unfolding answered
forks-by {area} {slot} {p} {d} s disc {x} {start} e t =
    answers s disc e
    (ap (λ (q : Process). forked (kernel_of area) slot disc start (keeping (stack_of q) d)) (sym s.own)
    ∙ ap (λ (y : StartOf). forked (kernel_of area) slot disc y (keeping (stack_of p) d)) t)

pub push_child-requires : goal.push_child-requires
push_child-requires c =
    (own-stepping c.requires.0, own-file c.requires.0, c.requires.2, c.requires.1, c.in-Ok.ensures.1, c.requires.3)

pub returns-in-Ok : goal.returns-in-Ok
returns-in-Ok c = forks-by c.requires.0 c.args.disc.now c.push_child.ensures c.in-Ok.ensures.0

pub push_zero-requires : goal.push_zero-requires
push_zero-requires c = (own-stepping c.requires.0, own-file c.requires.0, c.requires.2)

pub returns-in-Err : goal.returns-in-Err
returns-in-Err c =
    forks-by c.requires.0 c.args.disc.now (c.push_zero.ensures c.args.disc.now (refusal_number c.in-Err.field-0)) c.in-Err.ensures.0
