-- Running or paused, and the number equals its ID.
use borrow.Author.Rules.{rules}
use mir.Facts.{to_z_pos}
use mir.Syntax.{w32}
use Rattle.request.proofs.wait.is_awaited_in.Goals as goal

pub returns : goal.returns
returns c =
    let id = c.args.p.id in
    rw (c.equals_whole.ensures, to_z_pos w32 {n = id} (search rules))
