-- The record is put back, and next ID counted on.
use mathlib.Core.Path.{◌≡◌}
use borrow.Author.Rules.{rules}
use lib.ListN.{length}
use Rattle.disc.specs.Layout.{name_size}
use Rattle.request.proofs.Started.{started-bytes}
use Rattle.request.proofs.start.start.Goals as goal

pub returns : goal.returns
returns c =
    let named : length c.args.e.name ≡ name_size = search rules in
    let a = c.args in
    started-bytes a.area.now c.requires.0 a.slot a.e named c.next_id-next.ensures c.started_process.ensures
    c.put_back.ensures c.put_next_id.ensures
