-- Each turn moves one entry up, leaves it where it is or drops it, whichever test the closure makes.
use Prim.Native.Nat.{◌<◌}
use mathlib.Core.Path.{◌≡◌, sym, ap, ◌∙◌}
use mathlib.Core.Bool.{not}
use native.Mathlib.Omega.{arith}
use borrow.Author.Rules.{rules}
use Rattle.variable.specs.Bytes.{variables_of}
use Rattle.variable.specs.Limits.{max_variables}
use Rattle.variable.proofs.Bytes.{decoded-shaped, variables-whole}
use Rattle.variable.proofs.Closing.{closed-gone, closed-kept, closed-moved, closed_none}
use Rattle.variable.proofs.free.close_up.Goals.{then-not-gone, then-kept-i, else-kept-i, else-not-gone}
use Rattle.variable.proofs.free.close_up.Goals as goal

pub loop-i-init : goal.loop-i-init
loop-i-init g c =
    let bytes = c.args.variables.now in (
      search rules,
      omega arith,
      omega arith,
      λ test says. closed_none (variables_of bytes) (decoded-shaped bytes (omega arith)) test
          (variables-whole bytes (λ i. search rules) c.requires.0),
    )

pub put_entry-requires : goal.put_entry-requires
put_entry-requires g c = (omega arith, omega arith)

pub loop-i-preserved : goal.loop-i-preserved
loop-i-preserved g c =
    let bytes = c.args.variables.now in
    let s = decoded-shaped bytes (search rules) in
    let low : c.loop-i.i < max_variables = omega arith in
    elim c.if-not-gone.branch [
      -- it stays: it moves up, or has its place already
      | then-not-gone w ↦ rw w.kept-is (elim w.if-kept-i.branch [
        | then-kept-i w' ↦ (
          omega arith,
          omega arith,
          omega arith,
          λ test says. rw (w.variables-is, w'.variables-is)
              (closed-moved (variables_of bytes) s test (c.loop-i.invariant.3 test says) low c.entry_at-e.ensures
              (ap not (sym (says c.entry_at-e.result c.gone.result c.gone.ensures) ∙ w.if-not-gone.true)) w'.put_entry.ensures),
        )
        | else-kept-i w' ↦ (
          omega arith,
          omega arith,
          omega arith,
          λ test says. rw (w.variables-is, w'.variables-is)
              (closed-kept (variables_of bytes) s test (c.loop-i.invariant.3 test says) low c.entry_at-e.ensures
              (ap not (sym (says c.entry_at-e.result c.gone.result c.gone.ensures) ∙ w.if-not-gone.true)) (omega arith)),
        )
      ])
      -- it goes
      | else-not-gone w ↦ (
        omega arith,
        omega arith,
        omega arith,
        λ test says. rw (w.variables-is, w.kept-is)
            (closed-gone (variables_of bytes) s test (c.loop-i.invariant.3 test says) low c.entry_at-e.ensures
            (ap not (sym (says c.entry_at-e.result c.gone.result c.gone.ensures) ∙ w.if-not-gone.false))),
      )
    ]

pub returns-clause-closed : goal.returns-clause-closed
returns-clause-closed g c =
    let q : c.loop-i.i ≡ c.args.count = omega arith in
    rw q at c.loop-i.invariant.3
