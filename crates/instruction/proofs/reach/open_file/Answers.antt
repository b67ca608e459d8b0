-- The size comes off the stack, then the name, which is the string less its zero.
use Rattle.std.proofs.Common.{ℕ, ◌+◌, ◌-◌, ◌≤◌, ◌≡◌, List, length, take, sym, ◌∙◌, arith}
use lib.Seq.{length-take-le, take-take}
use Rattle.buffer.specs.Buffer.{part}
use Rattle.buffer.proofs.Parts.{part-of-take}
use Rattle.operator.specs.declared.instruction.Types.TheVariants.{AnyString}
use Rattle.disc.specs.Name.{trimmed}
use Rattle.stack.proofs.Chains.{number-goes}
use Rattle.stack.proofs.Popping.{OnTop, string-text, value-on-top}
use Rattle.instruction.proofs.reach.open_file.Goals as goal

-- a string on top of the first n bytes of the stack
record Name (stack : List ℕ) (n place len : ℕ) : Type 0 where
  low : 1 ≤ len
  inside : place + len ≤ n
  text : part stack place (len - 1) ≡ trimmed (part (take n stack) place len)
  below : take place (take n stack) ≡ take place stack

name_below : (stack : List ℕ) (n kind place len : ℕ) → n ≤ length stack → OnTop AnyString (take n stack) kind place len
    → Name stack n place len
name_below stack n kind place len fits top =
    let text = string-text (take n stack) kind place len top in
    let lent = length-take-le n stack fits in
    let inside : place + len ≤ n = omega (arith, top.inside) in
    let low : place + (len - 1) ≤ n = omega arith in
    record {
      low = text.0;
      inside = inside;
      text = sym (part-of-take stack n place (len - 1) low) ∙ text.1;
      below = take-take place n stack (omega arith);
    }

pub overflow_sub-name : goal.overflow_sub-name
overflow_sub-name c =
    let st = take c.in_ok-size.size.below c.args.frame.now.process.stack.now in
    (string-text st _ _ _ (value-on-top AnyString st c.in_ok-name.name c.in_ok-name.ensures)).0

pub returns : goal.returns
returns c =
    let st = c.args.frame.now.process.stack.now in
    let below = c.in_ok-size.size.below in
    let string = value-on-top AnyString (take below st) c.in_ok-name.name c.in_ok-name.ensures in
    let name = name_below st below _ _ _ c.in_ok-size.ensures.1 string in
    rw (number-goes _ _ c.in_ok-size.ensures.0 _, string.pops, ← name.text, name.below) c.act_on.ensures
