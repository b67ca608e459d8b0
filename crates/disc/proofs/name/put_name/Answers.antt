-- The bytes before the first zero are laid.
use mathlib.Core.Path.{sym, ap, ◌∙◌}
use native.Mathlib.Omega.{arith}
use lib.ListN.{length}
use Rattle.disc.proofs.Names.{text-measured}
use Rattle.disc.proofs.name.put_name.Goals as goal

pub slice_bounds-put_bytes-end : goal.slice_bounds-put_bytes-end
slice_bounds-put_bytes-end c =
    text-measured c.args.field.now c.text_length-n.result c.text_length-n.ensures ∙ sym (ap length c.text_length-n.ensures.1)

pub put_bytes-requires : goal.put_bytes-requires
put_bytes-requires c = omega (arith, ap length c.text_length-n.ensures.1)

pub returns : goal.returns
returns c = rw c.text_length-n.ensures.1 at c.put_bytes.ensures
