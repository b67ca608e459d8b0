-- The two words are those of the entry.
use Rattle.disc.proofs.InPlace.{run-in-place}
use Rattle.disc.proofs.good.run_at.Goals as goal

pub returns : goal.returns
returns c =
    run-in-place c.args.disc.now c.args.i c.requires.0 c.requires.1 c.word_at-start.result c.word_at-len.result
    c.word_at-start.ensures c.word_at-len.ensures
