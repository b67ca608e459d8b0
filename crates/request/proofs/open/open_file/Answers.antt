-- OPEN: the file of that name is open, or a new one.
use Rattle.std.specs.Prelude.{Option, ℕ}
use mathlib.Core.Path.{sym, ap, ◌∙◌}
use native.Mathlib.Omega.{arith}
use Rattle.machine.specs.Area.{kernel_of}
use Rattle.machine.specs.Beyond.{Answered, answered, continues, opened, opened_at}
use Rattle.process.specs.Stepping.{stack_of}
use Rattle.stack.specs.Steps.{about, keeping}
use Rattle.disc.specs.declared.Entry.{Entry}
use Rattle.disc.proofs.Lookups.{lookup-at}
use Rattle.request.specs.Answers.{run_from}
use Rattle.request.proofs.Answering.{answers}
use Rattle.request.proofs.open.open_file.Goals as goal

pub entry_at-entry-requires : goal.entry_at-entry-requires
entry_at-entry-requires c =
    let found = lookup-at c.args.disc.now (about c.args.d) c.in-Some.i (sym c.in-Some.ensures) in
    (c.requires.1.low, omega (arith, found.inside, c.requires.1.few))

pub returns-in-Some : goal.returns-in-Some
unfolding answered
returns-in-Some c =
    let a = c.args in
    let disc = a.disc.now in
    let on = keeping (stack_of a.p) a.d in
    let answer : Option ℕ → Answered = λ f. opened_at (kernel_of a.area.now) a.slot disc f (about a.d) a.size on in
    answers c.requires.0 disc (c.open_run.ensures disc disc)
    (ap (λ (e : Entry). continues (kernel_of a.area.now) a.slot disc on (opened (run_from e.start e.len)) disc) c.entry_at-entry.ensures
    ∙ ap answer c.in-Some.ensures)

pub returns-in-None : goal.returns-in-None
unfolding answered
returns-in-None c =
    let a = c.args in
    let answer : Option ℕ → Answered =
    λ f. opened_at (kernel_of a.area.now) a.slot a.disc.now f (about a.d) a.size (keeping (stack_of a.p) a.d) in
    answers c.requires.0 a.disc.now c.open_new.ensures (ap answer c.in-None.ensures)
