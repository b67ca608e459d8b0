-- A READ: the number's bytes and its type go onto the stack where the file grants them; else a fault ends the process.
use mathlib.Core.Path.{sym, ◌∙◌}
use mathlib.Core.List.{[], ◌∷◌}
use borrow.Author.Rules.{rules}
use Rattle.machine.specs.Beyond.{file_run}
use Rattle.process.proofs.Advancing.{own-file, own-stepping}
use Rattle.store.specs.File.{read_at}
use Rattle.request.proofs.Accesses.{ahead, own-received, read-granted}
use Rattle.request.proofs.Answering.{answers, breaks-off}
use Rattle.request.proofs.file.read_number.Goals as goal

pub push_read-requires : goal.push_read-requires
push_read-requires c =
    let a = c.args in
    let h = ahead a.p.file a.kind c.requires.1 (sym c.in-Ok.ensures) in
    (own-stepping c.requires.0, own-file c.requires.0, h, search rules)

pub returns-in-Ok : goal.returns-in-Ok
returns-in-Ok c =
    let a = c.args in
    let disc = a.disc.now in
    let f = a.p.file in
    answers c.requires.0 disc c.push_read.ensures
    (own-received c.requires.0 disc (read_at disc (file_run f) f.offset a.kind) (a.kind ∷ []) a.kind
    ∙ sym (read-granted c.requires.0 disc a.kind (sym c.in-Ok.ensures)))

pub returns-in-Err : goal.returns-in-Err
returns-in-Err c =
    breaks-off c.requires.0 _ (read-granted c.requires.0 _ c.args.kind (sym c.in-Err.ensures)) c.fail.ensures
