-- A step that prints lays its bytes at the front of the output; every other leaves the output as it is.
use Prim.Native.Nat.{ℕ}
use mathlib.Core.Path.{◌≡◌, refl, sym, ap, ◌∙◌}
use mathlib.Core.List.{List, []}
use native.Mathlib.Omega.{arith}
use borrow.Author.Rules.{rules}
use lib.ListN.{length}
use lib.Seq.{length-take-le}
use Rattle.stack.specs.declared.Action.{Action}
use Rattle.stack.specs.declared.Action.TheVariants.{Push, Print, Assign, Stop, Open, Close, Write, Read, ReadString, Fork, Await}
use Rattle.machine.specs.Limits.{stack_size}
use Rattle.buffer.specs.Buffer.{overwrite}
use Rattle.stack.specs.Steps.{about}
use Rattle.turn.specs.Turns.{printed, printed_by}
use Rattle.turn.proofs.take.print.Goals as goal

pub returns-in-Print : goal.returns-in-Print
returns-in-Print c =
    let d = c.args.d in
    let size : length d.bytes ≡ stack_size = search rules in
    let text : printed_by d ≡ about d = ap (λ a. printed a (about d)) c.in-Print.is in (
      sym (ap length text ∙ length-take-le d.len d.bytes (omega (arith, c.requires.0))),
      c.overwrite_at.ensures ∙ ap (overwrite c.args.out.now 0) (sym text),
    )

prints-nothing : (a : Action) (bytes : List ℕ) → (a ≡ Print → ⊥) → printed a bytes ≡ []
prints-nothing Push bytes h = refl
prints-nothing Print bytes h = absurd (h refl)
prints-nothing (Assign name kind) bytes h = refl
prints-nothing Stop bytes h = refl
prints-nothing (Open size) bytes h = refl
prints-nothing Close bytes h = refl
prints-nothing Write bytes h = refl
prints-nothing (Read kind) bytes h = refl
prints-nothing ReadString bytes h = refl
prints-nothing Fork bytes h = refl
prints-nothing (Await id) bytes h = refl

pub returns : goal.returns
returns c =
    let d = c.args.d in
    let text : printed_by d ≡ [] = prints-nothing d.action (about d) c.in_default.not-Print in
    (sym (ap length text), ap (overwrite c.args.out.now 0) (sym text))
