-- Each turn lists one run more, or none for the variable left out.
use mathlib.Core.Path.{◌≡◌, sym, ap, ◌∙◌}
use mathlib.Core.Bool.{not}
use native.Mathlib.Omega.{arith}
use borrow.Author.Rules.{rules}
use Rattle.variable.specs.Bytes.{variables_of}
use Rattle.variable.specs.Table.{is_of}
use Rattle.variable.proofs.Bytes.{decoded-shaped}
use Rattle.variable.proofs.Listing.{listed-all, listed-gone, listed_more, listed-none}
use Rattle.variable.proofs.assign.runs_beside.Goals.{then-not-is_of, else-not-is_of}
use Rattle.variable.proofs.assign.runs_beside.Goals as goal

pub loop-i-init : goal.loop-i-init
loop-i-init c =
    let a = c.args in
    (omega arith, omega arith, listed-none (variables_of a.variables.now) (is_of a.name a.owner) c.no_runs-runs.ensures)

pub loop-i-preserved : goal.loop-i-preserved
loop-i-preserved c =
    let a = c.args in
    let bytes = a.variables.now in
    let v = variables_of bytes in
    let s = decoded-shaped bytes (search rules) in
    elim c.if-not-is_of.branch [
      | then-not-is_of w ↦ (
        omega arith,
        omega arith,
        rw (w.runs-is, w.listed-is) (listed_more v s (is_of a.name a.owner)
            c.loop-i.invariant.2 (omega arith) c.entry_at-e.ensures (ap not (sym c.is_of.ensures ∙ w.if-not-is_of.true)) w.run_of.ensures),
      )
      | else-not-is_of w ↦ (
        omega arith,
        omega arith,
        rw (w.runs-is, w.listed-is) (listed-gone v s (is_of a.name a.owner)
            c.loop-i.invariant.2 (omega arith) c.entry_at-e.ensures (ap not (sym c.is_of.ensures ∙ w.if-not-is_of.false))),
      )
    ]

pub returns : goal.returns
returns c =
    let a = c.args in
    let v = variables_of a.variables.now in
    let q : c.loop-i.i ≡ v.count = omega arith in
    listed-all v (is_of a.name a.owner) c.loop-i.invariant.2 q
