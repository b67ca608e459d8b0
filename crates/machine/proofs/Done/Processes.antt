-- Run, list, the commands and share that are done: what they answer and leave.
use Rattle.std.specs.Prelude.{None, Option, Some}
use Prim.Native.Nat.{ℕ}
use mathlib.Core.Path.{◌≡◌, refl, ap, ◌∙◌, subst, subst⁻¹}
use mathlib.Core.Bool.{Bool, true, false, cond, ◌&&◌}
use mathlib.Core.List.{List}
use lib.Dec.{eqb, leb}
use lib.IntN.{pos}
use lib.ListN.{length}
use Rattle.buffer.specs.Buffer.{overwrite}
use Rattle.disc.specs.Directory.{entry_at, lookup}
use Rattle.store.specs.File.{unless}
use Rattle.machine.specs.Answer.{Answer, Buffers, answer, command_answer, list, other, other_answer, run_at}
use Rattle.machine.specs.Area.{kernel_of}
use Rattle.machine.specs.Changed.{Starts}
use Rattle.machine.specs.Done.{CommandDone, Commanded, ListDone, RunDone, ShareDone}
use Rattle.machine.specs.Fields.{HasId, next_id}
use Rattle.machine.specs.Limits.{id_limit, max_share}
use Rattle.machine.specs.Operations.{Command, becomes, refused, suspend, resume, kill, changed, command_at, commanded, list_text}
use Rattle.machine.specs.Operations.{share_at, shared}
use Rattle.machine.specs.Operations.{Commanded as Outcome}
use Rattle.machine.specs.Refusals.{Passes, state_of}
use Rattle.machine.specs.Start.{started, start_in, starting, starts}
use Rattle.machine.specs.Ended.{ended}
use Rattle.machine.specs.State.{ended_slot, paused, process_at, running, slot_of, with_process, with_share, with_state}
use Rattle.machine.specs.declared.Kernel.{Kernel}
use Rattle.machine.proofs.Changes.Change.{begins}
use Rattle.machine.proofs.Changes.Replaced.{put-at}
use Rattle.machine.proofs.Changes.Slots.{slot_at}
use Rattle.machine.proofs.Demands.Faulting.{ended-touches}
use Rattle.machine.proofs.Demands.GoodCalls.{good-back, passes-good}
use Rattle.machine.proofs.Done.Starting.{starting-starts}
use Rattle.machine.proofs.Fields.Listings.{list-text}
use Rattle.machine.proofs.Fields.Slots.{next-is, slot-has-id}
use Rattle.machine.proofs.Kept.Begins.{started-new, starting-begins}
use Rattle.machine.proofs.Kept.OutsideKept.{outside-good}
use Rattle.machine.proofs.Operations.Commanding.{command-good, share-good}
use Rattle.machine.proofs.Operations.Tests.{below-not-done, done-test, done-tests}

pub run-done : RunDone
unfolding answer starting
run-done b name n =
    done-tests Ran b n _ λ passes. go passes (ended_slot k) refl (lookup b.disc name) refl (eqb k.next id_limit) refl
  where
    k : Kernel
    k = state_of b

    Ran : Answer → Type 0
    Ran a = (n ≡ next_id b.area) × ((slot : ℕ) × Starts b.disc b.area name slot (kernel_of a.area))

    go : Passes b.disc b.area → (f : Option ℕ) → ended_slot k ≡ f → (h : Option ℕ) → lookup b.disc name ≡ h → (t : Bool)
        → eqb k.next id_limit ≡ t → (run_at (start_in f h t b.disc) k b).number ≡ pos n → Ran (run_at (start_in f h t b.disc) k b)
    go passes None p h q t r = below-not-done
    go passes (Some slot) p None q t r = below-not-done
    go passes (Some slot) p (Some i) q true r = below-not-done
    go passes (Some slot) p (Some i) q false r = λ done.
        let begun : starting k b.disc name ≡ starts slot (entry_at b.disc i) = rw (p, q, r) in
        let good = outside-good name k b.disc _ _ (passes-good b.disc b.area passes) (begins slot _ begun refl refl) in
        let new = started-new (starting-begins name k b.disc slot _ begun) in
        let begins-it = starting-starts passes name slot _ (started k slot _) begun refl new in
        let id : n ≡ k.next = cc in
        (id ∙ next-is b.area, (slot, subst⁻¹ (Starts b.disc b.area name slot) (good-back _ _ good) begins-it))

pub list_done : ListDone
unfolding answer other_answer
list_done b n = subst (λ (text : List ℕ). Listed text (answer (other list) b)) (list-text b.area)
    (done-tests (Written text) b n _ λ passes. done-test (Written text) b n (leb (length text) (length b.out)) 3 _ λ fit h. (cc, refl))
  where
    text : List ℕ
    text = list_text (state_of b)

    Written : List ℕ → Answer → Type 0
    Written text a = (n ≡ length text) × (a.out ≡ overwrite b.out 0 text)

    Listed : List ℕ → Answer → Type 0
    Listed text a = a.number ≡ pos n → Written text a

-- ---- the commands
module _ (b : Buffers) (id n : ℕ) where
  k : Kernel
  k = state_of b

  Did : Command → Answer → Type 0
  Did c a = (n ≡ 0) × ((i : ℕ) × HasId b.area id i × Commanded c i k (kernel_of a.area))

  module _ (passes : Passes b.disc b.area) (i : ℕ) (e : slot_of k id ≡ Some i) where
    becoming : (c : Command) (j : Kernel) → command_at (Some i) c k ≡ becomes j → Commanded c i k j → pos 0 ≡ pos n
        → Did c (command_answer (becomes j) b)
    unfolding k Did commanded
    becoming c j q h done =
        let good = passes-good b.disc b.area passes in
        let back = good-back j b.disc (command-good good c id j (ap (λ (f : Option ℕ). command_at f c k) e ∙ q)) in
        let zero : n ≡ 0 = cc in
        (zero, (i, slot-has-id passes id i e, subst⁻¹ (Commanded c i k) back h))

    -- "15 already in that state"
    change : (c : Command) (state : ℕ) → command_at (Some i) c k ≡ changed k i state
        → Commanded c i k (with_process k i (with_state (process_at k i) state))
        → (command_answer (changed k i state) b).number ≡ pos n → Did c (command_answer (changed k i state) b)
    change c state q h = go (eqb (process_at k i).state state) q
      where
        outcome : Bool → Outcome
        outcome t = cond t (refused 15) (becomes (with_process k i (with_state (process_at k i) state)))

        go : (t : Bool) → command_at (Some i) c k ≡ outcome t → (command_answer (outcome t) b).number ≡ pos n
            → Did c (command_answer (outcome t) b)
        go true r = below-not-done
        go false r = becoming c _ r h

    given : (c : Command) → (command_answer (command_at (Some i) c k) b).number ≡ pos n → Did c (command_answer (command_at (Some i) c k) b)
    given suspend = change suspend paused refl (put-at k i _ (slot_at k id i e).1)
    given resume = change resume running refl (put-at k i _ (slot_at k id i e).1)
    given kill = becoming kill (ended k i 0) refl (ended-touches k i 0 (slot_at k id i e).0)

  at : Passes b.disc b.area → (f : Option ℕ) → slot_of k id ≡ f → (c : Command) → (command_answer (command_at f c k) b).number ≡ pos n
      → Did c (command_answer (command_at f c k) b)
  at passes None e c = below-not-done
  at passes (Some i) e c = given passes i e c

pub command-done : CommandDone
unfolding answer commanded k Did
command-done b c id n = done-tests (Did b id n c) b n _ λ passes. at b id n passes (slot_of (state_of b) id) refl c

pub share-done : ShareDone
unfolding answer shared
share-done b id turns n = done-tests Did b n _ λ passes. go passes (slot_of k id) refl
  where
    k : Kernel
    k = state_of b

    Did : Answer → Type 0
    Did a = (n ≡ 0) × ((i : ℕ) × HasId b.area id i × (kernel_of a.area ≡ with_process k i (with_share (process_at k i) turns)))

    set : Passes b.disc b.area → (i : ℕ) → slot_of k id ≡ Some i → (fit : Bool) → leb 1 turns && leb turns max_share ≡ fit
        → let r = unless fit (refused 22) (becomes (with_process k i (with_share (process_at k i) turns))) in
        (command_answer r b).number ≡ pos n → Did (command_answer r b)
    set passes i e false q = below-not-done
    set passes i e true q = λ done.
        let j = with_process k i (with_share (process_at k i) turns) in
        let back = good-back j b.disc (share-good (passes-good b.disc b.area passes) id turns j (rw (e, q))) in
        let zero : n ≡ 0 = cc in
        (zero, (i, slot-has-id passes id i e, back))

    go : Passes b.disc b.area → (f : Option ℕ) → slot_of k id ≡ f → (command_answer (share_at f turns k) b).number ≡ pos n
        → Did (command_answer (share_at f turns k) b)
    go passes None e = below-not-done
    go passes (Some i) e = set passes i e (leb 1 turns && leb turns max_share) refl
