-- A turn, a start, a command or a share, on two good pairs of buffers that show the same.
use Rattle.std.specs.Prelude.{None, Option, Some}
use Rattle.std.proofs.Common.{ℕ, ◌≡◌, Bool, true, false, cond, ◌&&◌, ◌||◌, not, List, refl, sym, ap, ◌∙◌, subst, length, take, arith}
use mathlib.Core.Logic.{◌⊎◌, inl, inr, ⊎_elim}
use lib.Dec.{eqb, leb, ltb}
use Rattle.buffer.specs.Buffer.{overwrite}
use Rattle.buffer.proofs.Bools.{and_right}
use Rattle.disc.specs.declared.Entry.{Entry}
use Rattle.store.specs.File.{unless}
use Rattle.machine.specs.Answer.{Answer, Buffers, Call, turn, command, share, run, answer, command_answer, run_at, turned_answer}
use Rattle.machine.specs.Area.{kernel_bytes, kernel_of}
use Rattle.machine.specs.Beyond.{answered, file_run}
use Rattle.machine.specs.Effect.{Effect, Request, asks, assigns, awaits, closes, faults, forks, goes, opens, reads, reads_string, stops}
use Rattle.machine.specs.Effect.{writes}
use Rattle.machine.specs.Limits.{max_share, slot_count, turn_room}
use Rattle.machine.specs.Operations.{Command, Commanded, becomes, commanded, command_at, changed, kill, resume, share_at, shared, suspend}
use Rattle.machine.specs.Operations.{refused as declined}
use Rattle.machine.specs.Start.{Starting, started, starting, starts}
use Rattle.machine.specs.State.{has_id, is_live, is_running, no_process, paused, process_at, running, slot_of, with_state}
use Rattle.machine.specs.Trace.{Storage, lending}
use Rattle.machine.specs.Turn.{carried_out, effect_at, turned}
use Rattle.machine.specs.declared.Kernel.{Kernel}
use Rattle.machine.specs.declared.Process.{Process}
use Rattle.machine.proofs.Changes.Change.{GoodState, begins}
use Rattle.machine.proofs.Kept.OutsideKept.{outside-good}
use Rattle.machine.proofs.Changes.LiveRecords.{running-live}
use Rattle.machine.proofs.Changes.Slots.{slot_at}
use Rattle.machine.proofs.Operations.Commanding.{command-good, share-good}
use Rattle.machine.proofs.Demands.GoodCalls.{good-back, passes-good, turn-good}
use Rattle.views.specs.Same.{aside, effect_lacks, view_at, whose}
use Rattle.views.proofs.Alike.{Alike, Lacks}
use Rattle.views.proofs.Doing.{SameDone, Stepped, on-both-good, refused-same, tested-same}
use Rattle.views.proofs.First.{index-alike, same-record, same-slots, same_effect, same_id, same_live}
use Rattle.views.proofs.Opening.{opens-same, writes-same}
use Rattle.views.proofs.Putting.{share-same}
use Rattle.views.proofs.Running.{event_text}
use Rattle.views.proofs.Starting.{SameStarting, both-refuse, both-start, forked-same, started-view, starting-same}
use Rattle.views.proofs.Turning.{SameTurned, answering-same, assigns-same, awaited-same, both-go, ended-view, faults-same, goes-same}
use Rattle.views.proofs.Turning.{moves-on}
use Rattle.views.proofs.Turning.{number-same, put-view, stops-same, text-same}

-- ---- one instruction
module _ (k₁ k₂ : Kernel) (d₁ d₂ : List ℕ) (g₁ : GoodState k₁ d₁) (g₂ : GoodState k₂ d₂) (same : view_at k₁ d₁ ≡ view_at k₂ d₂)
    (slot : ℕ) (live : is_live (process_at k₁ slot) ≡ true) where
  abbrev Carries : Effect → Type 0
  Carries e = (effect_lacks e d₁ || effect_lacks e d₂ ≡ true) ⊎ SameTurned (carried_out k₁ slot d₁ e) (carried_out k₂ slot d₂ e)

  request-carried : (r : Request) → Carries (asks r)
  unfolding carried_out answered
  request-carried (opens name size l) =
      ⊎_elim inl (λ a. inr (answering-same k₁ k₂ d₁ d₂ g₁ g₂ same slot live _ _ a))
      (opens-same k₁ k₂ d₁ d₂ g₁ g₂ same slot live name size l)
  request-carried (closes l) =
      inr (answering-same k₁ k₂ d₁ d₂ g₁ g₂ same slot live _ _ (both-go (moves-on k₁ k₂ d₁ d₂ g₁ g₂ same slot live l)))
  request-carried (writes bytes l) =
      inr (answering-same k₁ k₂ d₁ d₂ g₁ g₂ same slot live _ _ (writes-same k₁ k₂ d₁ d₂ g₁ g₂ same slot live bytes l))
  request-carried (reads kind l) =
      inr (answering-same k₁ k₂ d₁ d₂ g₁ g₂ same slot live _ _ (number-same k₁ k₂ d₁ d₂ g₁ g₂ same slot live kind l))
  request-carried (reads_string l) =
      inr (answering-same k₁ k₂ d₁ d₂ g₁ g₂ same slot live _ _ (text-same k₁ k₂ d₁ d₂ g₁ g₂ same slot live l))
  request-carried (forks name l) =
      inr (answering-same k₁ k₂ d₁ d₂ g₁ g₂ same slot live _ _ (forked-same k₁ k₂ d₁ d₂ g₁ g₂ same slot live name l))
  request-carried (awaits id stay go) =
      inr (answering-same k₁ k₂ d₁ d₂ g₁ g₂ same slot live _ _ (awaited-same k₁ k₂ d₁ d₂ g₁ g₂ same slot live id stay go))

  carried : (e : Effect) → Carries e
  carried (goes l out) = inr (goes-same k₁ k₂ d₁ d₂ g₁ g₂ same slot live l out)
  carried (assigns name kind bytes l) = inr (assigns-same k₁ k₂ d₁ d₂ g₁ g₂ same slot live name kind bytes l)
  carried stops = inr (stops-same k₁ k₂ d₁ d₂ g₁ g₂ same slot live)
  carried (faults n) = inr (faults-same k₁ k₂ d₁ d₂ g₁ g₂ same slot live n)
  carried (asks r) = request-carried r

  pub turned-alike : (clock : ℕ) → (effect_lacks (effect_at k₁ slot clock d₁) d₁ || effect_lacks (effect_at k₂ slot clock d₂) d₂ ≡ true)
      ⊎ SameTurned (turned k₁ slot clock d₁) (turned k₂ slot clock d₂)
  unfolding turned
  turned-alike clock =
      let e = effect_at k₁ slot clock d₁ in
      subst
      (λ (f : Effect). (effect_lacks e d₁ || effect_lacks f d₂ ≡ true) ⊎ SameTurned (carried_out k₁ slot d₁ e) (carried_out k₂ slot d₂ f))
      (same_effect k₁ k₂ d₁ d₂ g₁ g₂ same slot clock live) (carried e)

-- a live process that is paused or goes on shows as before, but for its state
state-shows : (disc : List ℕ) (p : Process) (state : ℕ) → is_live p ≡ true → is_live (with_state p state) ≡ true
    → aside disc (with_state p state) ≡ with_state (aside disc p) state
unfolding aside
state-shows disc p state live after =
    λ z. record {
      name = p.name;
      id = p.id;
      state = state;
      fault = p.fault;
      code = record { start = code z; len = p.code.len };
      pc = p.pc;
      loopstart = p.loopstart;
      file = record { start = file z; len = p.file.len; offset = p.file.offset };
      sp = p.sp;
      share = p.share;
      stack = p.stack;
    }
  where
    code : cond (is_live (with_state p state)) (whose disc p.code) 0 ≡ cond (is_live p) (whose disc p.code) 0
    code = ap (λ (b : Bool). cond b (whose disc p.code) 0) (after ∙ sym live)

    file : cond (is_live (with_state p state) && not (eqb p.file.len 0)) (whose disc (file_run p.file)) 0
        ≡ cond (is_live p && not (eqb p.file.len 0)) (whose disc (file_run p.file)) 0
    file = ap (λ (b : Bool). cond (b && not (eqb p.file.len 0)) (whose disc (file_run p.file)) 0) (after ∙ sym live)

-- ---- calls
module _ (s₁ s₂ : Storage) (h : Alike s₁ s₂) (out : List ℕ) where
  abbrev b₁ : Buffers
  b₁ = lending s₁ out

  abbrev b₂ : Buffers
  b₂ = lending s₂ out

  abbrev k₁ : Kernel
  k₁ = kernel_of s₁.area

  abbrev k₂ : Kernel
  k₂ = kernel_of s₂.area

  g₁ : GoodState k₁ s₁.disc
  g₁ = passes-good s₁.disc s₁.area h.passes₁

  g₂ : GoodState k₂ s₂.disc
  g₂ = passes-good s₂.disc s₂.area h.passes₂

  record-alike : (slot : ℕ) → aside s₁.disc (process_at k₁ slot) ≡ aside s₂.disc (process_at k₂ slot)
  record-alike slot = same-record k₁ k₂ s₁.disc s₂.disc g₁ g₂ h.same slot

  runs-alike : (slot : ℕ) → is_running (process_at k₁ slot) ≡ is_running (process_at k₂ slot)
  unfolding aside
  runs-alike slot = ap is_running (record-alike slot)

  -- two good states behind a call that show the same
  back : (k l : Kernel) (d e : List ℕ) → GoodState k d → GoodState l e → view_at k d ≡ view_at l e
      → view_at (kernel_of (kernel_bytes k)) d ≡ view_at (kernel_of (kernel_bytes l)) e
  back k l d e g f v = ap (λ x. view_at x d) (good-back k d g) ∙ v ∙ ap (λ x. view_at x e) (sym (good-back l e f))

  pub turn-stepped : (slot clock : ℕ) → Stepped (turn slot clock) s₁ s₂ out
  unfolding answer
  turn-stepped slot clock =
      on-both-good (turn slot clock) s₁ s₂ h out _ _
      (tested-same (turn slot clock) s₁ s₂ h out (leb turn_room (length out)) (leb turn_room (length out)) refl 4 _ _
      (λ room. tested-same (turn slot clock) s₁ s₂ h out (ltb slot slot_count && is_running (process_at k₁ slot))
      (ltb slot slot_count && is_running (process_at k₂ slot)) (λ z. ltb slot slot_count && runs-alike slot z) 16 _ _
      (λ t. runs (and_right (ltb slot slot_count) (is_running (process_at k₁ slot)) t))))
    where
      runs : is_running (process_at k₁ slot) ≡ true → Lacks (turn slot clock) s₁ s₂
          ⊎ SameDone (turn slot clock) (turned_answer (turned k₁ slot clock s₁.disc) b₁) (turned_answer (turned k₂ slot clock s₂.disc) b₂)
      runs r =
          ⊎_elim inl
          (λ t. inr (record {
            done = refl;
            text = λ z. take (length (t.0 z)) (overwrite out 0 (t.0 z));
            view = back _ _ _ _ (turn-good k₁ slot clock s₁.disc g₁ r)
                (turn-good k₂ slot clock s₂.disc g₂ (sym (runs-alike slot) ∙ r)) t.1;
          }))
          (turned-alike k₁ k₂ s₁.disc s₂.disc g₁ g₂ h.same slot (running-live (process_at k₁ slot) r) clock)

  -- ---- commands and shares: refused alike, or states that show the same
  data SameCommanded : Commanded → Commanded → Type 0 where
    both-declined : (n : ℕ) → SameCommanded (declined n) (declined n)
    both-become : (k l : Kernel) → view_at k s₁.disc ≡ view_at l s₂.disc → SameCommanded (becomes k) (becomes l)

  slot-alike : (id : ℕ) → slot_of k₁ id ≡ slot_of k₂ id
  unfolding slot_of
  slot-alike id =
      index-alike (has_id id) (has_id id) no_process k₁.processes k₂.processes (same-slots k₁ k₂ s₁.disc s₂.disc g₁ g₂ h.same)
      (λ i m z. same_live k₁ k₂ s₁.disc s₂.disc g₁ g₂ h.same i z && eqb (same_id k₁ k₂ s₁.disc s₂.disc g₁ g₂ h.same i z) id)

  state-alike : (slot : ℕ) → (process_at k₁ slot).state ≡ (process_at k₂ slot).state
  unfolding aside
  state-alike slot = ap (λ (p : Process). p.state) (record-alike slot)

  choice : (x y : Bool) → x ≡ y → (n : ℕ) (a b : Commanded) → (x ≡ false → SameCommanded a b)
      → SameCommanded (cond x (declined n) a) (cond y (declined n) b)
  choice true true e n a b k = both-declined n
  choice false false e n a b k = k refl
  choice true false e n a b k = absurd (let z : ◌≡◌ {A = ℕ} 0 1 = cc in omega arith)
  choice false true e n a b k = absurd (let z : ◌≡◌ {A = ℕ} 0 1 = cc in omega arith)

  changed-alike : (slot state : ℕ) → is_live (process_at k₁ slot) ≡ true → ((p : Process) → is_live (with_state p state) ≡ true)
      → SameCommanded (changed k₁ slot state) (changed k₂ slot state)
  changed-alike slot state live after =
      choice (eqb (process_at k₁ slot).state state) (eqb (process_at k₂ slot).state state) (λ z. eqb (state-alike slot z) state) 15 _ _
      (λ e. both-become _ _ (put-view k₁ k₂ s₁.disc s₂.disc g₁ g₂ h.same slot live _ _
      (state-shows s₁.disc (process_at k₁ slot) state live (after (process_at k₁ slot)) ∙ (λ z. with_state (record-alike slot z) state)
      ∙ sym (state-shows s₂.disc (process_at k₂ slot) state (sym (same_live k₁ k₂ s₁.disc s₂.disc g₁ g₂ h.same slot) ∙ live) (after
      (process_at k₂ slot))))))

  command-at : (f : Option ℕ) (id : ℕ) → slot_of k₁ id ≡ f → (c : Command) → SameCommanded (command_at f c k₁) (command_at f c k₂)
  command-at None id e c = both-declined 14
  command-at (Some slot) id e suspend = changed-alike slot paused (slot_at k₁ id slot e).1 (λ p. refl)
  command-at (Some slot) id e resume = changed-alike slot running (slot_at k₁ id slot e).1 (λ p. refl)
  command-at (Some slot) id e kill =
      both-become _ _ (ended-view k₁ k₂ s₁.disc s₂.disc g₁ g₂ h.same slot (slot_at k₁ id slot e).1 0)

  commanded-alike : (c : Command) (id : ℕ) → SameCommanded (commanded c id k₁) (commanded c id k₂)
  unfolding commanded
  commanded-alike c id =
      subst (λ (f : Option ℕ). SameCommanded (command_at (slot_of k₁ id) c k₁) (command_at f c k₂)) (slot-alike id)
      (command-at (slot_of k₁ id) id refl c)

  unless-choice : (x : Bool) (n : ℕ) (a b : Commanded) → SameCommanded a b
      → SameCommanded (unless x (declined n) a) (unless x (declined n) b)
  unless-choice true n a b k = k
  unless-choice false n a b k = both-declined n

  share-at : (f : Option ℕ) (id : ℕ) → slot_of k₁ id ≡ f → (n : ℕ) → SameCommanded (share_at f n k₁) (share_at f n k₂)
  share-at None id e n = both-declined 14
  share-at (Some slot) id e n =
      unless-choice (leb 1 n && leb n max_share) 22 _ _
      (both-become _ _ (put-view k₁ k₂ s₁.disc s₂.disc g₁ g₂ h.same slot (slot_at k₁ id slot e).1 _ _
      (share-same s₁.disc s₂.disc _ _ (record-alike slot) n)))

  shared-alike : (id n : ℕ) → SameCommanded (shared id n k₁) (shared id n k₂)
  unfolding shared
  shared-alike id n =
      subst (λ (f : Option ℕ). SameCommanded (share_at (slot_of k₁ id) n k₁) (share_at f n k₂)) (slot-alike id)
      (share-at (slot_of k₁ id) id refl n)

  by-commanded : (c : Call) → ((x y : Answer) → event_text c x ≡ event_text c y) → (a b : Commanded) → SameCommanded a b
      → ((j : Kernel) → a ≡ becomes j → GoodState j s₁.disc) → ((j : Kernel) → b ≡ becomes j → GoodState j s₂.disc)
      → SameDone c (command_answer a b₁) (command_answer b b₂)
  by-commanded c quiet _ _ (both-declined n) l₁ l₂ = refused-same c s₁ s₂ h out n
  by-commanded c quiet _ _ (both-become k l v) l₁ l₂ =
      record { done = refl; text = quiet _ _; view = back k l s₁.disc s₂.disc (l₁ k refl) (l₂ l refl) v }

  pub command-stepped : (c : Command) (id : ℕ) → Stepped (command c id) s₁ s₂ out
  unfolding answer
  command-stepped c id =
      on-both-good (command c id) s₁ s₂ h out _ _
      (inr (by-commanded (command c id) (λ x y. refl) _ _ (commanded-alike c id) (command-good g₁ c id) (command-good g₂ c id)))

  pub share-stepped : (id n : ℕ) → Stepped (share id n) s₁ s₂ out
  unfolding answer
  share-stepped id n =
      on-both-good (share id n) s₁ s₂ h out _ _
      (inr (by-commanded (share id n) (λ x y. refl) _ _ (shared-alike id n) (share-good g₁ id n) (share-good g₂ id n)))

  -- ---- run
  started-good : (k : Kernel) (disc name : List ℕ) → GoodState k disc → (slot : ℕ) (e : Entry) → starting k disc name ≡ starts slot e
      → GoodState (started k slot e) disc
  started-good k disc name g slot e q = outside-good name k disc (started k slot e) disc g (begins slot e q refl refl)

  pub run-stepped : (name : List ℕ) → Stepped (run name) s₁ s₂ out
  unfolding answer
  run-stepped name =
      on-both-good (run name) s₁ s₂ h out _ _
      (inr (go (starting k₁ s₁.disc name) refl (starting k₂ s₂.disc name) refl (starting-same k₁ k₂ s₁.disc s₂.disc g₁ g₂ h.same name)))
    where
      go : (a : Starting) → starting k₁ s₁.disc name ≡ a → (b : Starting) → starting k₂ s₂.disc name ≡ b
          → SameStarting k₁ k₂ s₁.disc s₂.disc g₁ g₂ h.same a b → SameDone (run name) (run_at a k₁ b₁) (run_at b k₂ b₂)
      go _ e _ f (both-refuse n) = refused-same (run name) s₁ s₂ h out n
      go _ e _ f (both-start child i m) =
          record {
            done = refl;
            text = refl;
            view = back _ _ _ _ (started-good k₁ s₁.disc name g₁ child _ e) (started-good k₂ s₂.disc name g₂ child _ f)
                (started-view k₁ k₂ s₁.disc s₂.disc g₁ g₂ h.same i m child);
          }
