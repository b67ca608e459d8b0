-- Each turn empties one entry more.
use mathlib.Core.Path.{◌≡◌, sym, ◌∙◌}
use native.Mathlib.Omega.{arith}
use borrow.Author.Rules.{rules}
use Rattle.variable.specs.Bytes.{variables_of}
use Rattle.variable.proofs.Bytes.{decoded-shaped, variables-whole}
use Rattle.variable.proofs.Closing.{blanked-next, blanked-none}
use Rattle.variable.proofs.free.blank.Goals as goal

pub loop-i-init : goal.loop-i-init
loop-i-init c =
    let bytes = c.args.variables.now in (
      c.requires.0,
      omega arith,
      omega arith,
      sym (blanked-none (variables_of bytes) c.args.from
          ∙ variables-whole bytes (λ i. search rules) c.requires.0),
    )

pub put_entry-requires : goal.put_entry-requires
put_entry-requires c = (omega arith, omega arith)

pub loop-i-preserved : goal.loop-i-preserved
loop-i-preserved c =
    let bytes = c.args.variables.now in (
      omega arith,
      omega arith,
      omega arith,
      blanked-next (variables_of bytes) (decoded-shaped bytes (omega arith)) c.args.from c.loop-i.i (omega arith) (omega arith)
          c.loop-i.invariant.3 c.no_variable.ensures c.put_entry.ensures,
    )

pub returns : goal.returns
returns c =
    let q : c.loop-i.i ≡ c.args.end = omega arith in
    rw (← q) c.loop-i.invariant.3
