-- Each action is the effect that its step stands for: what is done of it leaves disc and area as that effect does.
use Prim.Native.Nat.{ℕ, ◌+◌}
use mathlib.Core.Path.{◌≡◌, sym, ap, subst, ◌∙◌}
use mathlib.Core.List.{List, [], ◌++◌, append-nil}
use native.Mathlib.Omega.{arith}
use borrow.Author.Rules.{rules}
use lib.ListN.{length, take}
use Rattle.machine.specs.Area.{kernel_bytes, kernel_of}
use Rattle.machine.specs.Effect.{Effect, asks, awaits}
use Rattle.machine.specs.Limits.{stack_size}
use Rattle.machine.specs.Beyond.{answered}
use Rattle.machine.specs.State.{Local, local_of, process_at, with_file, with_local, with_process}
use Rattle.number.specs.declared.Number.{Number}
use Rattle.machine.specs.Turn.{carried_out}
use Rattle.machine.specs.declared.Process.{Process}
use Rattle.process.specs.Stepping.{Left, left, left_by, pushing, stack_of}
use Rattle.process.proofs.Advancing.{may-go-on, may-keep, own-keeping, own-pushing}
use Rattle.stack.specs.Steps.{about, effect_by, effect_of, keeping, placed}
use Rattle.stack.specs.declared.Step.{Step}
use Rattle.stack.specs.declared.Action.{Action}
use Rattle.stack.specs.declared.Action.TheVariants.{Await}
use Rattle.request.proofs.Answering.{about-length}
use Rattle.turn.specs.Turns.{Bounds, Carries}
use Rattle.turn.proofs.take.carry_out.Goals as goal

-- ---- what an action's effect leaves
module _ {disc area : List ℕ} {slot : ℕ} {p : Process} {d : Step} (s : Carries disc area slot p d) where
  abbrev own : Process
  own = process_at (kernel_of area) slot

  abbrev does : Effect → Left
  does e = left_by (carried_out (kernel_of area) slot disc e)

  abbrev effect : Action → Effect
  effect a = effect_by a (stack_of p) (about d) (keeping (stack_of p) d)

  -- the step's effect is that of the action it is told to be
  done-as : {a : Action} {after : Left} → d.action ≡ a → after ≡ does (effect a) → after ≡ does (effect_of (stack_of p) d)
  done-as told h = h ∙ ap (λ (a : Action). does (effect a)) (sym told)

  bounds : {a : Action} → d.action ≡ a → Bounds a p d
  bounds told = subst (λ (a : Action). Bounds a p d) told s.bounds

  -- the process of its slot, gone on with the file that it has
  went-on : {after : List ℕ} {l m : Local}
      → after ≡ kernel_bytes (with_process (kernel_of area) slot (with_file (with_local own l) p.file)) → l ≡ m
      → left disc after ≡ left disc (kernel_bytes (with_process (kernel_of area) slot (with_local own m)))
  went-on h e =
      let same = s.stepping.own in
      ap (left disc) (h ∙ λ t. kernel_bytes (with_process (kernel_of area) slot (with_file (with_local own (e t)) (same t).file)))

  -- the bytes pushed above what the step keeps
  pushes : pushing own d.kept d.pc d.loopstart (about d) [] ≡ placed (take d.kept (stack_of p) ++ about d) d.pc d.loopstart
  pushes =
      own-pushing s.stepping d.kept d.pc d.loopstart (about d) []
      ∙ ap (λ (l : List ℕ). placed l d.pc d.loopstart) (append-nil (take d.kept (stack_of p) ++ about d))

  -- a wait stays in the state that its process has
  stays : {after : Left} (id : Number) → Bounds (Await id) p d → after ≡ does (asks (awaits id (local_of p) (keeping (stack_of p) d)))
      → after ≡ does (effect (Await id))
  stays id b h = h ∙ ap (λ (l : Local). does (asks (awaits id l (keeping (stack_of p) d)))) (sym b)

-- ---- Push and Print
pub go_on-requires : goal.go_on-requires
go_on-requires c =
    let size : length c.args.d.bytes ≡ stack_size = search rules in
    may-go-on c.requires.stepping (length (about c.args.d) + 0)
    (omega (arith, about-length c.requires.stepping size, bounds c.requires c.in-Push.is))

pub returns-in-Push : goal.returns-in-Push
unfolding carried_out
returns-in-Push c = done-as c.requires c.in-Push.is (went-on c.requires c.go_on.ensures (pushes c.requires))

pub go_on-requires-in-Print : goal.go_on-requires-in-Print
go_on-requires-in-Print c = may-keep c.requires.stepping

pub returns-in-Print : goal.returns-in-Print
unfolding carried_out
returns-in-Print c = done-as c.requires c.in-Print.is (went-on c.requires c.go_on-in-Print.ensures (own-keeping c.requires.stepping))

-- ---- SET
pub set_variable-requires : goal.set_variable-requires
set_variable-requires c = (c.requires.stepping, bounds c.requires c.in-Assign.is)

pub returns-in-Assign : goal.returns-in-Assign
unfolding carried_out
returns-in-Assign c = done-as c.requires c.in-Assign.is (c.set_variable.ensures c.args.disc.now)

-- ---- the end
pub returns-in-Stop : goal.returns-in-Stop
unfolding carried_out
returns-in-Stop c = done-as c.requires c.in-Stop.is (ap (left c.args.disc.now) c.finish.ensures)

-- ---- what reaches beyond the process
pub returns-in-Open : goal.returns-in-Open
unfolding carried_out
returns-in-Open c = done-as c.requires c.in-Open.is c.open_file.ensures

pub go_on-requires-in-Close : goal.go_on-requires-in-Close
go_on-requires-in-Close c = may-keep c.requires.stepping

pub returns-in-Close : goal.returns-in-Close
unfolding carried_out answered
returns-in-Close c = done-as c.requires c.in-Close.is (went-on c.requires c.go_on-in-Close.ensures (own-keeping c.requires.stepping))

pub returns-in-Write : goal.returns-in-Write
unfolding carried_out
returns-in-Write c = done-as c.requires c.in-Write.is c.write_file.ensures

pub returns-in-Read : goal.returns-in-Read
unfolding carried_out
returns-in-Read c = done-as c.requires c.in-Read.is c.read_number.ensures

pub returns-in-ReadString : goal.returns-in-ReadString
unfolding carried_out
returns-in-ReadString c = done-as c.requires c.in-ReadString.is c.read_string.ensures

pub fork-requires : goal.fork-requires
fork-requires c = (c.requires.stepping, c.requires.readable, bounds c.requires c.in-Fork.is, c.requires.next)

pub returns-in-Fork : goal.returns-in-Fork
unfolding carried_out
returns-in-Fork c = done-as c.requires c.in-Fork.is c.fork.ensures

pub returns-in-Await : goal.returns-in-Await
unfolding carried_out
returns-in-Await c =
    let own = c.in-Await.is in
    done-as c.requires own (stays c.requires c.in-Await.id (bounds c.requires own) (c.wait.ensures c.args.disc.now))
