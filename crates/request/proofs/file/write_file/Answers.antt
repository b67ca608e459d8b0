-- WRITE: the bytes go into the file where it grants them, and the process goes on; else a fault ends it.
use Prim.Native.Nat.{ℕ}
use mathlib.Core.Path.{◌≡◌, sym, ap, ◌∙◌}
use mathlib.Core.List.{List}
use native.Mathlib.Omega.{arith}
use borrow.Author.Rules.{rules}
use lib.ListN.{length}
use Rattle.machine.specs.Limits.{stack_size}
use Rattle.place.specs.declared.Run.{Run}
use Rattle.process.specs.Stepping.{left}
use Rattle.stack.specs.Steps.{about}
use Rattle.store.specs.File.{written_at}
use Rattle.process.proofs.Advancing.{may-keep, own-keeping}
use Rattle.request.proofs.Accesses.{ahead, write_granted}
use Rattle.request.proofs.Answering.{about-length, breaks-off, goes_on}
use Rattle.request.proofs.file.write_file.Goals as goal

pub write_at-requires : goal.write_at-requires
write_at-requires c =
    let a = c.args in
    let size : length a.d.bytes ≡ stack_size = search rules in
    let n = about-length c.requires.0 size in
    let h = ahead a.p.file a.d.len c.requires.1 (sym c.in-Ok.ensures) in
    rw c.file_run.ensures (omega (arith, h.within), h.inside)

pub advanced-requires : goal.advanced-requires
advanced-requires c = (ahead c.args.p.file c.args.d.len c.requires.1 (sym c.in-Ok.ensures)).within

pub go_on-requires : goal.go_on-requires
go_on-requires c = may-keep c.requires.0

pub returns-in-Ok : goal.returns-in-Ok
returns-in-Ok c =
    let a = c.args in
    let disc = a.disc.now in
    let size : length a.d.bytes ≡ stack_size = search rules in
    let e = c.write_at.ensures ∙ ap (λ (r : Run). written_at disc r a.p.file.offset (about a.d)) c.file_run.ensures in
    ap (λ (l : List ℕ). left l c.go_on.new.area) e
    ∙ goes_on c.requires.0 disc (write_granted c.requires.0 disc size (sym c.in-Ok.ensures))
    (own-keeping c.requires.0) c.advanced.ensures c.go_on.ensures

pub returns-in-Err : goal.returns-in-Err
returns-in-Err c =
    let size : length c.args.d.bytes ≡ stack_size = search rules in
    breaks-off c.requires.0 _ (write_granted c.requires.0 _ size (sym c.in-Err.ensures)) c.fail.ensures
