-- By the type and the sign.
use Rattle.std.proofs.Common.{ap, ◌∙◌}
use borrow.Author.Rules.{rules}
use mir.Syntax.{w8, w16}
use Rattle.number.specs.declared.Number.TheVariants.{Char, Int, Float}
use Rattle.operator.proofs.OneOperand.{absolute-same, magnitude-is}
use Rattle.operator.proofs.unary.absolute_value.Goals as goal

pub returns-else-x-lt0 : goal.returns-else-x-lt0
returns-else-x-lt0 c = rw c.in-Char.is (absolute-same w8 Char c.in-Char.x (search rules) c.if-x-lt0.false)

pub returns-else-x-lt0-2 : goal.returns-else-x-lt0-2
returns-else-x-lt0-2 c = rw c.in-Int.is (absolute-same w16 Int c.in-Int.x (search rules) c.if-x-lt0-2.false)

pub returns-in-Float : goal.returns-in-Float
returns-in-Float c = rw c.in-Float.is (ap Float (c.abs.ensures.value ∙ magnitude-is c.in-Float.x))
