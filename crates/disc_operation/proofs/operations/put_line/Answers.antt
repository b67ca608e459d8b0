-- Name, space, number and newline are laid one behind another.
use mathlib.Core.List.{[], ◌∷◌}
use native.Mathlib.Omega.{arith}
use Rattle.buffer.proofs.Lines.{line-laid}
use Rattle.decimal.specs.Decimal.{decimal}
use Rattle.disc.specs.Name.{trimmed}
use Rattle.store.specs.Answer.{file_line}
use Rattle.disc_operation.proofs.Lines.{file-line-long}
use Rattle.disc_operation.proofs.operations.put_line.Goals as goal

pub put_name-named-requires : goal.put_name-named-requires
put_name-named-requires c = omega (arith, file-line-long c.args.entry)

pub put_bytes-spaced-requires : goal.put_bytes-spaced-requires
put_bytes-spaced-requires c =
    omega (arith, file-line-long c.args.entry, c.put_name-named.ensures.place)

pub put_decimal-counted-requires : goal.put_decimal-counted-requires
put_decimal-counted-requires c =
    omega (arith, file-line-long c.args.entry, c.put_name-named.ensures.place, c.put_bytes-spaced.ensures.place)

pub put_bytes-requires : goal.put_bytes-requires
put_bytes-requires c =
    let long = file-line-long c.args.entry in
    omega (arith, c.put_name-named.ensures.place, c.put_bytes-spaced.ensures.place, c.put_decimal-counted.ensures.place)

pub returns : goal.returns
unfolding file_line
returns c =
    let e = c.args.entry in
    line-laid (trimmed e.name) (32 ∷ []) (decimal e.len) (10 ∷ []) c.requires
    c.put_name-named.ensures c.put_bytes-spaced.ensures c.put_decimal-counted.ensures c.put_bytes.ensures
