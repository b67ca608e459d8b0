-- The record's first twelve bytes are the name.
use mathlib.Core.Path.{sym}
use native.Mathlib.Omega.{arith}
use lib.Seq.{length-take-le}
use Rattle.disc.specs.Layout.{name_size}
use Rattle.machine.specs.GoodArea.{is_program}
use Rattle.area.proofs.processes.is_program.Goals as goal

pub slice_bounds-same_bytes-end : goal.slice_bounds-same_bytes-end
slice_bounds-same_bytes-end c = sym (length-take-le name_size c.args.bytes.now (omega arith))

pub returns : goal.returns
unfolding is_program
returns c =
    rw (c.same_bytes-named.ensures, c.word_at-start.ensures, c.word_at-len.ensures)
