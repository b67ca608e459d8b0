-- The variables are freed in place, then the record is ended and put back.
use borrow.Author.Rules.{rules}
use Rattle.variable.specs.Table.{owned_by}
use Rattle.process.proofs.Finishing.{finished-bytes, freed-state}
use Rattle.process.proofs.ending.finish.Goals as goal

pub returns : goal.returns
returns c =
    let area = c.args.area.now in
    let after = c.free_in.new.area in
    finished-bytes area after c.args.slot c.args.fault c.process_at-p.ensures
    (freed-state area after (owned_by c.process_at-p.result.id) c.requires.0 c.requires.2
    (c.free_in.ensures (owned_by c.process_at-p.result.id) (λ e b k. search rules)))
    c.ended_process.ensures c.put_back.ensures
