-- Every answer of disc and process table to an instruction that reaches beyond its process is a change.
use Prim.Native.Nat.{ℕ, ◌+◌, ◌≤◌}
use mathlib.Core.Path.{◌≡◌, refl, sym, subst, subst⁻¹, ◌∙◌}
use mathlib.Core.Bool.{Bool, true, false, cond}
use mathlib.Core.List.{List}
use native.Mathlib.Omega.{arith}
use lib.ListN.{length, length-append}
use lib.Seq.{get_or-set_other}
use Rattle.buffer.specs.Lists.{any}
use Rattle.buffer.proofs.Bools.{true-not-false}
use Rattle.disc.specs.declared.Entry.{Entry}
use Rattle.machine.specs.Beyond.{Answered, carries_on, answered, forked, is_awaited, push_id}
use Rattle.machine.specs.Effect.{Request, opens, closes, writes, reads, reads_string, forks, awaits}
use Rattle.machine.specs.Limits.{stack_size}
use Rattle.machine.specs.Start.{Starting, starts, refuses, started, started_process, starting}
use Rattle.machine.specs.State.{Local, is_live, is_running, local_of, no_process, process_at, with_local, with_process}
use Rattle.machine.specs.Turn.{program_of}
use Rattle.machine.specs.declared.Kernel.{Kernel}
use Rattle.machine.specs.declared.Process.{Process}
use Rattle.machine.proofs.Kept.Begins.{starting-begins}
use Rattle.machine.proofs.Operations.Carrying.{goes-on-local, moves-local}
use Rattle.machine.proofs.Changes.Change.{GoodState, GoesOn, begins, moves, acts}
use Rattle.machine.proofs.Operations.FileAnswers.{AnswerChanges, number_read, text_ahead, text_read, open-change, read-change}
use Rattle.machine.proofs.Operations.FileAnswers.{write-change}
use Rattle.machine.proofs.Changes.LiveRecords.{running-live, within-local}
use Rattle.machine.proofs.Instructions.Sound.{Asked, Within}
use Rattle.machine.specs.Stack.{top_string}

module _ {k : Kernel} {disc : List ℕ} (good : GoodState k disc) (slot : ℕ) (running : is_running (process_at k slot) ≡ true)
    (name : List ℕ) where
  abbrev p : Process
  p = process_at k slot

  abbrev Fits : Local → Type 0
  Fits = Within (length (program_of disc p))

  abbrev Changes : Answered → Type 0
  Changes = AnswerChanges name k slot disc

  live : is_live p ≡ true
  live = running-live p running

  moved : (l : Local) → Fits l → Changes (carries_on (with_process k slot (with_local p l)) disc)
  moved l fits = moves-local good slot live name l fits

  -- ---- FORK
  push-fits : (l : Local) (id : ℕ) → length l.stack + 3 ≤ stack_size → Fits l → Fits (push_id l id)
  push-fits l id h fits = record { stack = simp length-append (omega arith); pc = fits.pc; loop = fits.loop }

  -- the child takes an ended slot, so not the own one
  other-slot : (child : ℕ) (e : Entry) → starting k disc name ≡ starts child e → slot ≡ child → ⊥
  other-slot child e h same =
      true-not-false live (subst⁻¹ (λ (i : ℕ). is_live (process_at k i) ≡ false) same (starting-begins name k disc child e h).free)

  fork-change : (l : Local) → length l.stack + 3 ≤ stack_size → Fits l → Changes (forked k slot disc (starting k disc name) l)
  fork-change l h fits = go (starting k disc name) refl
    where
      go : (s : Starting) → starting k disc name ≡ s → Changes (forked k slot disc s l)
      go (refuses r) e = moved (push_id l 0) (push-fits l 0 h fits)
      go (starts child entry) e =
          acts (started k child entry) (begins child entry e refl refl) refl
          (moves (with_local p (push_id l k.next))
          (subst⁻¹ (λ (q : Process). GoesOn disc q (with_local p (push_id l k.next)))
          (get_or-set_other k.processes child slot (started_process entry k.next) no_process (other-slot child entry e))
          (goes-on-local good slot live (push_id l k.next) (push-fits l k.next h fits)))
          refl)

  -- ---- WAITUNTILDONE: "stays while a live process has that ID"
  await-change : (waits : Bool) (stay go : Local) → stay ≡ local_of p → Fits go
      → Changes (carries_on (with_process k slot (with_local p (cond waits stay go))) disc)
  await-change true stay go e fits = moved stay (subst⁻¹ (λ (l : Local). Fits l) e (within-local good slot live))
  await-change false stay go e fits = moved go fits

  pub answer-change : name ≡ top_string (local_of p).stack → (r : Request) → Asked (program_of disc p) (local_of p) r
      → Changes (answered k slot disc r)
  unfolding answered Asked
  answer-change top (opens title size l) a = open-change good slot running name title size l a.1
  answer-change top (closes l) a = moved l a.1
  answer-change top (writes bytes l) a = write-change good slot running name bytes l a.0 a.1
  answer-change top (reads kind l) a = read-change good slot running name (number_read k slot disc kind l) kind l a.1
  answer-change top (reads_string l) a =
      read-change good slot running name (text_read k slot disc l) (length (text_ahead k slot disc) + 1) l a.1
  answer-change top (forks title l) a = subst (λ (t : List ℕ). Changes (forked k slot disc (starting k disc t) l)) (top
      ∙ sym a.1) (fork-change l a.2 a.3)
  answer-change top (awaits id stay go) a = await-change (any (is_awaited k slot disc id) k.processes) stay go a.1 a.2
