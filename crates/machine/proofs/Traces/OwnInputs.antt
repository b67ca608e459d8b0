-- A turn or a command of a process that follows the single process: what is observed is what the single process answers, and it follows on.
use Rattle.std.specs.Prelude.{Option, Some}
use Prim.Native.Nat.{ℕ}
use mathlib.Core.Path.{◌≡◌, refl, sym, subst, subst⁻¹, ◌∙◌}
use mathlib.Core.Bool.{Bool, true, false, cond, ◌&&◌}
use mathlib.Core.List.{List, []}
use mathlib.Core.Logic.{⊎_elim}
use lib.Dec.{eqb, leb, ltb}
use lib.IntN.{pos}
use lib.ListN.{get_or, length}
use lib.Seq.{take_at}
use borrow.Author.Tests.{eq-eqb, eqb-true, lt-ltb}
use Rattle.variable.specs.Table.{owned}
use Rattle.variable.specs.Assign.{value_of}
use Rattle.machine.specs.Answer.{Answer, Buffers, Call, command, turn, answer, command_answer, refused, turned_answer}
use Rattle.machine.specs.Area.{kernel_bytes, kernel_of}
use Rattle.machine.specs.Effect.{Effect, goes, assigns, stops, faults, asks}
use Rattle.machine.specs.Exec.{exec}
use Rattle.machine.specs.Limits.{slot_count, turn_room}
use Rattle.machine.specs.Suppositions.{executed_by, is_barred, is_lacking, lacks_space, set_lacks}
use Rattle.machine.specs.Observation.{seen, next, observed_by, observed_of, place_in, seen_in, slot_in}
use Rattle.machine.specs.Operations.{Command, suspend, resume, kill, Commanded, becomes, refused as denied, changed, command_at}
use Rattle.machine.specs.Operations.{commanded}
use Rattle.machine.specs.Refusals.{Passes}
use Rattle.machine.specs.Single.{tick, given, Response, did, refused_by, Single, in_state, over, single, single_command, single_effect}
use Rattle.machine.specs.Ended.{ended}
use Rattle.machine.specs.State.{slot_of, is_live, is_running, paused, process_at, running, with_process, with_state}
use Rattle.machine.specs.Trace.{Storage, event, lending, output_text}
use Rattle.machine.specs.Turn.{Turned, carried_out, turned}
use Rattle.machine.specs.declared.Kernel.{Kernel}
use Rattle.machine.specs.declared.Process.{Process}
use Rattle.machine.proofs.Changes.Change.{GoodState}
use Rattle.machine.proofs.Operations.Commanding.{command-own}
use Rattle.buffer.proofs.Bools.{and-false-right}
use Rattle.buffer.proofs.Disjunctions.{or_cases}
use Rattle.machine.proofs.Instructions.Executing.{exec-quiet, exec-sets-byte}
use Rattle.machine.proofs.Traces.Following.{Agrees, Follows, Tracks, on, off, own-effect, own-ends, own-exec, own-goes, own-sets}
use Rattle.machine.proofs.Traces.Following.{own-state}
use Rattle.machine.proofs.Kept.Gone.{Gone}
use Rattle.machine.proofs.Demands.GoodCalls.{good-back, on-good, passes-good, turn-good}
use Rattle.machine.proofs.Kept.OwnKept.{own-good}
use Rattle.machine.proofs.Traces.Room.{room-found}
use Rattle.machine.proofs.Demands.Rounds.{turn-not-running, turn-running}
use Rattle.machine.proofs.Changes.Slots.{live-below-ten, place-is-slot, slot_is}

module _ (i : ℕ) (prog : List ℕ) (s : Storage) (out : List ℕ) (q : Single) (passes : Passes s.disc s.area) where
  abbrev k : Kernel
  k = kernel_of s.area

  abbrev b : Buffers
  b = lending s out

  -- what is observed of i after a call, and that it is followed on
  pub record Answers (c : Call) (a : Answer) (text : List ℕ) (r : Response) : Type 0 where
    pub observed : observed_by a.number (event c s a text) i ≡ observed_of r
    pub tracked : Tracks i prog (kernel_of a.area) a.disc (next r q)

  good : GoodState k s.disc
  good = passes-good s.disc s.area passes

  module _ (x : Follows i prog k s.disc q) where
    abbrev p : Process
    p = process_at k x.slot

    slot-here : slot_of k i ≡ Some x.slot
    slot-here = slot_is good x.slot i x.live x.named

    here : place_in s i ≡ Some x.slot
    here = place-is-slot s i ∙ slot-here

    -- a state that is written is read back and shows the same
    answers : (c : Call) (t : Turned) (r : Response) (lent text : List ℕ) → text ≡ t.out → GoodState t.kernel t.disc
        → Agrees i prog x.slot q t r
        → Answers c (record { number = pos (length t.out); disc = t.disc; area = kernel_bytes t.kernel; out = lent }) text r
    answers c t r lent text e g agrees =
        record {
          observed = (λ z. seen (seen_in (process_at (back z) (slot_in (here z))) (owned (back z).variables i) (e z) (pos (length t.out))))
              ∙ agrees.observed;
          tracked = subst⁻¹ (λ (j : Kernel). Tracks i prog j t.disc (next r q)) back agrees.tracked;
        }
      where
        back : kernel_of (kernel_bytes t.kernel) ≡ t.kernel
        back = good-back t.kernel t.disc g

    -- ---- a turn
    module _ (clock : ℕ) where
      abbrev e : Effect
      e = exec prog clock q.loc q.cells

      -- what is supposed of the turn, where it is done
      pub record Sheltered : Type 0 where
        pub quiet : is_barred (executed_by s x.slot) ≡ false
        pub space : set_lacks i x.slot clock s ≡ false

      turn-agrees : Sheltered → Agrees i prog x.slot q (turned k x.slot clock s.disc) (single_effect q e)
      unfolding carried_out
      turn-agrees h = subst⁻¹ (λ (t : Turned). Agrees i prog x.slot q t (single_effect q e))
          (own-effect i prog k s.disc q good x clock) (go e refl)
        where
          lacks : eqb (get_or prog q.loc.pc 0) 5 && is_lacking e k.variables i ≡ false
          lacks = sym (λ z. eqb (get_or (x.runs z) (x.holds.pc z) 0) 5
              && is_lacking (own-exec i prog k s.disc q good x clock z) k.variables i) ∙ h.space

          quiet : is_barred (get_or prog q.loc.pc 0) ≡ false
          quiet = sym (λ z. is_barred (get_or (x.runs z) (x.holds.pc z) 0)) ∙ h.quiet

          go : (f : Effect) → e ≡ f → Agrees i prog x.slot q (carried_out k x.slot s.disc f) (single_effect q f)
          go (goes l text) d = own-goes i prog k s.disc q good x l text
          go (assigns name kind bytes l) d =
              let set = eq-eqb _ _ (exec-sets-byte prog clock q.loc q.cells name kind bytes l d) in
              let space : is_lacking e k.variables i ≡ false = and-false-right (eqb (get_or prog q.loc.pc 0) 5) _ set lacks in
              let free : lacks_space k.variables name p.id (length bytes) ≡ false =
              subst⁻¹ (λ (id : ℕ). lacks_space k.variables name id (length bytes) ≡ false) x.named
              (subst (λ (f : Effect). is_lacking f k.variables i ≡ false) d space) in
              let r = room-found k.variables name p.id (value_of kind bytes) free in
              own-sets i prog k s.disc q good x name kind bytes l r.0 r.1
          go stops d = own-ends i prog k s.disc q good x 0
          go (faults n) d = own-ends i prog k s.disc q good x n
          go (asks r) d = absurd (exec-quiet prog clock q.loc q.cells quiet r d)

      -- Document 01, single process: "a turn unless running (16)"
      pub turn-answers : leb turn_room (length out) ≡ true → (is_running p ≡ true → Sheltered)
          → Answers (turn x.slot clock) (answer (turn x.slot clock) b) (output_text (answer (turn x.slot clock) b))
          (single prog q (tick clock))
      unfolding single
      turn-answers room supposed = go (is_running p) refl
        where
          t : Turned
          t = turned k x.slot clock s.disc

          low : ltb x.slot slot_count ≡ true
          low = lt-ltb x.slot slot_count (live-below-ten good x.slot x.live)

          c : Call
          c = turn x.slot clock

          runs : (f : Bool) → is_running p ≡ f → eqb q.state running ≡ f
          runs f h = subst (λ (n : ℕ). eqb n running ≡ f) x.holds.state h

          go : (f : Bool) → is_running p ≡ f
              → Answers c (answer c b) (output_text (answer c b)) (cond (eqb q.state running) (single_effect q e) (refused_by 16))
          go true h =
              subst⁻¹ (λ (a : Answer). Answers c a (output_text a) (cond (eqb q.state running) (single_effect q e) (refused_by 16)))
              (turn-running b x.slot clock passes room low h)
              (subst⁻¹ (λ (f : Bool).
              Answers c (turned_answer t b) (output_text (turned_answer t b)) (cond f (single_effect q e) (refused_by 16))) (runs true h)
              (answers c t (single_effect q e) _ _ (take_at t.out _ (length t.out) refl) (turn-good k x.slot clock s.disc good h)
              (turn-agrees (supposed h))))
          go false h =
              subst⁻¹ (λ (a : Answer). Answers c a (output_text a) (cond (eqb q.state running) (single_effect q e) (refused_by 16)))
              (turn-not-running b x.slot clock passes room low h)
              (subst⁻¹ (λ (f : Bool). Answers c (refused 16 b) (output_text (refused 16 b)) (cond f (single_effect q e) (refused_by 16)))
              (runs false h)
              (record { observed = refl; tracked = on x }))

    -- ---- a command
    live_state : eqb q.state 0 ≡ false
    live_state =
        subst (λ (n : ℕ). eqb n 0 ≡ false) x.holds.state
        (⊎_elim (λ h. is running refl (eqb-true p.state running h)) (λ h. is paused refl (eqb-true p.state paused h))
        (or_cases (is_running p) _ x.live))
      where
        is : (state : ℕ) → eqb state 0 ≡ false → p.state ≡ state → eqb p.state 0 ≡ false
        is state h e = subst⁻¹ (λ (n : ℕ). eqb n 0 ≡ false) e h

    abbrev Commands : Command → Commanded → Response → Type 0
    Commands c d r = Answers (command c i) (command_answer d b) [] r

    becomes-answers : (c : Command) (j : Kernel) (r : Response) → command_at (Some x.slot) c k ≡ becomes j
        → Agrees i prog x.slot q (record { kernel = j; disc = s.disc; out = [] }) r
        → Commands c (becomes j) r
    unfolding commanded
    becomes-answers c j r e agrees =
        let o = command-own good c i j (subst⁻¹ (λ (f : Option ℕ). command_at f c k ≡ becomes j) slot-here e) in
        answers (command c i) (record { kernel = j; disc = s.disc; out = [] }) r _ [] refl
        (own-good o.0 k s.disc j good o.2) agrees

    -- "suspend while paused and resume while running (15)"
    changes : (c : Command) (state : ℕ) → is_live (with_state p state) ≡ true → command_at (Some x.slot) c k ≡ changed k x.slot state
        → Commands c (changed k x.slot state) (cond (eqb q.state state) (refused_by 15) (in_state q state))
    changes c state live same =
        subst (λ (n : ℕ). Commands c (changed k x.slot state) (cond (eqb n state) (refused_by 15) (in_state q state))) x.holds.state
        (go (eqb p.state state) same)
      where
        go : (f : Bool) → command_at (Some x.slot) c k ≡ cond f (denied 15) (becomes (with_process k x.slot (with_state p state)))
            → Commands c (cond f (denied 15) (becomes (with_process k x.slot (with_state p state))))
            (cond f (refused_by 15) (in_state q state))
        go true h = record { observed = refl; tracked = on x }
        go false h = becomes-answers c (with_process k x.slot (with_state p state)) (in_state q state) h
            (own-state i prog k s.disc q good x state live)

    pub command-answers : (c : Command) → Answers (command c i) (answer (command c i) b) [] (single prog q (given c))
    unfolding answer commanded single
    command-answers c =
        subst⁻¹ (λ (a : Answer). Answers (command c i) a [] (single prog q (given c))) (on-good b _ passes)
        (subst⁻¹ (λ (f : Option ℕ). Commands c (command_at f c k) (single prog q (given c))) slot-here
        (subst⁻¹ (λ (f : Bool). Commands c (command_at (Some x.slot) c k) (single_command f q c)) live_state (go c)))
      where
        go : (c : Command) → Commands c (command_at (Some x.slot) c k) (single_command false q c)
        go suspend = changes suspend paused refl refl
        go resume = changes resume running refl refl
        go kill = becomes-answers kill (ended k x.slot 0) (did [] (over 0)) refl (own-ends i prog k s.disc q good x 0)

  -- "a command once ended (14)"
  pub ended-answers : (c : Command) → Gone i k → q.state ≡ 0 → Answers (command c i) (answer (command c i) b) [] (single prog q (given c))
  unfolding answer commanded single
  ended-answers c gone over =
      subst⁻¹ (λ (a : Answer). Answers (command c i) a [] (single prog q (given c))) (on-good b _ passes)
      (subst⁻¹ (λ (f : Option ℕ). Answers (command c i) (command_answer (command_at f c k) b) [] (single prog q (given c))) gone.none
      (subst⁻¹ (λ (n : ℕ). Answers (command c i) (refused 14 b) [] (single_command (eqb n 0) q c)) over
      (record { observed = refl; tracked = off gone over })))
