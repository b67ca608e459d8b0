-- The number is that of the value's bytes, of which there are at most four.
use Rattle.std.proofs.Common.{ℕ, ◌≤◌, ◌≡◌, true, List, sym, ◌∙◌, arith}
use Rattle.buffer.proofs.Parts.{part-to}
use Rattle.machine.proofs.Instructions.Popping.{number-no-string}
use Rattle.operator.specs.declared.instruction.Types.{Types}
use Rattle.stack.specs.Tops.{is_numeric}
use Rattle.stack.proofs.Popping.{OnTop, number_small, numeric-number, value-on-top}
use Rattle.stack.proofs.tops.top_number.Goals as goal

few : (types : Types) (stack : List ℕ) (kind at len : ℕ) → is_numeric types ≡ true → OnTop types stack kind at len → len ≤ 4
few types stack kind at len numeric top =
    let n = numeric-number types kind numeric top.off.taken in
    let size = sym top.size ∙ top.off.number (number-no-string kind n) in
    omega (arith, number_small kind n)

pub number_of-requires : goal.number_of-requires
number_of-requires c =
    let a = c.args in
    let v = c.in_ok-top.top in
    let top = value-on-top a.types a.stack.now v c.in_ok-top.ensures in
    rw (part-to a.stack.now v.at v.len) (omega (arith, top.size, few a.types a.stack.now v.kind v.at v.len c.requires top))
