-- A name's bytes, a number's digits, and two more.
use Prim.Native.Nat.{◌+◌, ◌≤◌}
use mathlib.Core.Path.{◌≡◌}
use native.Mathlib.Omega.{arith}
use borrow.Author.Rules.{rules}
use lib.ListN.{length}
use Rattle.decimal.specs.Decimal.{max_digits}
use Rattle.decimal.proofs.Laws.{digits-few}
use Rattle.disc.specs.Layout.{name_size}
use Rattle.disc.proofs.Names.{text-measured}
use Rattle.disc_operation.proofs.Lines.{file-line-long}
use Rattle.disc_operation.proofs.operations.line_length.Goals as goal

-- both are short, so that their sum fits
short : (c : goal.After-decimal_length) → c.text_length.result + c.decimal_length.result ≤ name_size + max_digits
short c =
    let sizes : length c.args.entry.name ≡ name_size =
    search rules in
    omega (arith, sizes, c.text_length.ensures.0, digits-few max_digits c.args.entry.len)

pub overflow_add-result : goal.overflow_add-result
overflow_add-result c = omega (arith, short c)

pub overflow_add-result-2 : goal.overflow_add-result-2
overflow_add-result-2 c = omega (arith, short c)

pub returns : goal.returns
returns c =
    let e = c.args.entry in
    omega (arith, file-line-long e, text-measured e.name c.text_length.result c.text_length.ensures)
