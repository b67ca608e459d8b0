-- A text longer than the stack is fault 4; else its bytes, length and type go onto the stack.
use mathlib.Core.List.{[], ◌∷◌}
use native.Mathlib.Omega.{arith}
use borrow.Author.Rules.{rules}
use Rattle.machine.specs.Beyond.{file_run}
use Rattle.machine.specs.Stack.{string_kind}
use Rattle.process.specs.Stepping.{stack_of}
use Rattle.process.proofs.Advancing.{own-file, own-stepping}
use Rattle.stack.specs.Steps.{keeping}
use Rattle.store.specs.File.{read_at}
use Rattle.request.proofs.Accesses.{no_room, own-received}
use Rattle.request.proofs.Answering.{answers, breaks-off}
use Rattle.request.proofs.file.push_text.Goals as goal

pub returns-then-n-gt-STACK_SIZE : goal.returns-then-n-gt-STACK_SIZE
returns-then-n-gt-STACK_SIZE c =
    let a = c.args in
    breaks-off c.requires.0 a.disc.now
    (no_room c.requires.0 c.requires.1 (a.n ∷ string_kind ∷ []) (keeping (stack_of a.p) a.d) (omega arith)) c.fail.ensures

pub push_read-requires : goal.push_read-requires
push_read-requires c =
    (own-stepping c.requires.0, own-file c.requires.0, c.requires.1, search rules)

pub returns : goal.returns
returns c =
    let a = c.args in
    let f = a.p.file in
    let disc = a.disc.now in
    answers c.requires.0 disc c.push_read.ensures
    (own-received c.requires.0 disc (read_at disc (file_run f) f.offset a.n) (a.n ∷ string_kind ∷ []) a.n)
