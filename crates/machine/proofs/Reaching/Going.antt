-- From what the instruction at PC does to what the turn leaves: its process goes on, or it ends by a fault and nothing else changes.
use Prim.Native.Nat.{ℕ, zero, suc, ◌+◌, ◌≤◌, ◌<◌}
use mathlib.Core.Path.{◌≡◌, refl, ap, ◌∙◌}
use mathlib.Core.Bool.{Bool, true, false, cond}
use mathlib.Core.List.{List, []}
use mathlib.Core.Logic.{inl, inr}
use native.Mathlib.Omega.{arith}
use lib.Dec.{eqb, leb}
use lib.IntN.{pos}
use lib.ListN.{length}
use borrow.Author.Tests.{eqb-false, eqb-true, leb-false, leb-true}
use Rattle.buffer.specs.Buffer.{overwrite}
use Rattle.machine.specs.Answer.{Answer, Buffers, answer, turn, turned_answer}
use Rattle.machine.specs.Area.{kernel_of}
use Rattle.machine.specs.AtPc.{Onward, process_in, turn_answer}
use Rattle.machine.specs.Beyond.{Answered, answered, breaks, carries_on, continues, inside, unless_breaks, with_open_file}
use Rattle.machine.specs.Effect.{Request, asks}
use Rattle.machine.specs.Ending.{broken}
use Rattle.machine.specs.AtPc.{file_in}
use Rattle.machine.specs.Reaching.{Faults, InFile}
use Rattle.machine.specs.Refusals.{state_of, MayTurn}
use Rattle.machine.specs.State.{is_live, process_at, running, with_file, with_local, with_process, with_state}
use Rattle.machine.specs.Turn.{Turned, answering, carried_out, turned}
use Rattle.machine.specs.declared.Kernel.{Kernel}
use Rattle.machine.specs.declared.OpenFile.{OpenFile}
use Rattle.machine.specs.declared.Process.{Process}
use Rattle.machine.proofs.Changes.LiveRecords.{running-live}
use Rattle.machine.proofs.Changes.Replaced.{put-at}
use Rattle.machine.proofs.Demands.TurnCalls.{ended-only, state-after, turn-done}
use Rattle.machine.proofs.Reaching.Finding.{Does, at}

not-zero : (n : ℕ) → (n ≡ 0 → ⊥) → 0 < n
not-zero zero h = absurd (h refl)
not-zero (suc n) h = omega arith

pub live : (b : Buffers) (slot : ℕ) → MayTurn b slot → is_live (process_in b slot) ≡ true
live b slot may = running-live (process_in b slot) may.running

module _ (b : Buffers) (slot clock : ℕ) (may : MayTurn b slot) where
  abbrev k : Kernel
  k = state_of b

  abbrev p : Process
  p = process_in b slot

  -- ---- going on
  module _ (t : Turned) (leaves : turned k slot clock b.disc ≡ t) where
    pub disc-left : (turn_answer b slot clock).disc ≡ t.disc
    disc-left = ap (λ (a : Answer). a.disc) (turn-done b slot clock may) ∙ ap (λ (u : Turned). u.disc) leaves

    pub state-left : kernel_of (turn_answer b slot clock).area ≡ t.kernel
    state-left = state-after b slot clock may ∙ ap (λ (u : Turned). u.kernel) leaves

    pub onward : (pc : ℕ) (stack : List ℕ) (f : OpenFile) → t.out ≡ []
        → process_at t.kernel slot ≡ with_file (with_local (process_in b slot) (at b slot pc stack)) f
        → Onward b slot clock pc stack f
    onward pc stack f quiet own =
        let whole : answer (turn slot clock) b ≡ turned_answer t b =
        turn-done b slot clock may ∙ ap (λ (u : Turned). turned_answer u b) leaves in
        let state : p.state ≡ running = eqb-true p.state running may.running in
        record {
          number = ap (λ (a : Answer). a.number) whole ∙ ap (λ (l : List ℕ). pos (length l)) quiet;
          out = ap (λ (a : Answer). a.out) whole ∙ ap (λ (l : List ℕ). overwrite b.out 0 l) quiet;
          own =
              ap (λ (j : Kernel). process_at j slot) state-left ∙ own
              ∙ ap (λ (s : ℕ). with_state (with_file (with_local p (at b slot pc stack)) f) s) state;
        }

  -- ---- what disc and table answer
  module _ (r : Request) (does : Does b slot clock (asks r)) where
    pub answers : (a : Answered) → answered k slot b.disc r ≡ a → turned k slot clock b.disc ≡ answering k slot b.disc a
    unfolding turned carried_out
    answers a e = ap (carried_out k slot b.disc) does ∙ ap (answering k slot b.disc) e

    pub broken-by : (n : ℕ) → answered k slot b.disc r ≡ breaks n → Faults b slot clock n
    broken-by n e = ended-only b slot clock may n (broken r does e)

    -- the own record is what is put there
    pub carried_on : (j : Kernel) (after : List ℕ) (pc : ℕ) (stack : List ℕ) (f : OpenFile)
        → answered k slot b.disc r ≡ carries_on j after
        → process_at j slot ≡ with_file (with_local (process_in b slot) (at b slot pc stack)) f
        → Onward b slot clock pc stack f × ((turn_answer b slot clock).disc ≡ after)
    carried_on j after pc stack f e own =
        let t : Turned = record { kernel = j; disc = after; out = [] } in
        let leaves = answers (carries_on j after) e in
        (onward t leaves pc stack f refl own, disc-left t leaves)

    pub continued : (pc : ℕ) (stack : List ℕ) (f : OpenFile) (after : List ℕ)
        → answered k slot b.disc r ≡ continues k slot b.disc (at b slot pc stack) f after
        → Onward b slot clock pc stack f × ((turn_answer b slot clock).disc ≡ after)
    continued pc stack f after e =
        let q : Process = with_file (with_local p (at b slot pc stack)) f in
        carried_on (with_process k slot q) after pc stack f e (put-at k slot q (live b slot may))

    -- n bytes of the open file
    pub in-file : (n : ℕ) (rest : Answered) (done : Type 0)
        → answered k slot b.disc r ≡ with_open_file k slot b.disc (inside k slot b.disc n rest)
        → ((file_in b slot).offset + n ≤ (file_in b slot).len → answered k slot b.disc r ≡ rest → done)
        → InFile b slot clock n done
    in-file n rest done e then = go (eqb p.file.len 0) refl (leb (p.file.offset + n) p.file.len) refl e
      where
        some : eqb p.file.len 0 ≡ false → 0 < p.file.len
        some h = let other = eqb-false p.file.len 0 h in not-zero p.file.len other

        go : (closed : Bool) → eqb p.file.len 0 ≡ closed → (fits : Bool) → leb (p.file.offset + n) p.file.len ≡ fits
            → answered k slot b.disc r ≡ cond closed (breaks 11) (unless_breaks fits 12 rest) → InFile b slot clock n done
        go true h fits g e = inl (eqb-true _ _ h, broken-by 11 e)
        go false h false g e = inr (some h, inl (leb-false _ _ g, broken-by 12 e))
        go false h true g e = inr (some h, inr (leb-true _ _ g, then (leb-true _ _ g) e))
