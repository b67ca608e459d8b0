-- One event of a run on good buffers, seen from a process that follows the single process: its own turns and commands are answered as the
-- single process answers them; every other event leaves it as it is.
use Rattle.std.specs.Prelude.{None, Option, Some}
use Prim.Native.Nat.{ℕ}
use mathlib.Core.Path.{◌≡◌, refl, sym, ap, subst, subst⁻¹, ◌∙◌}
use mathlib.Core.Bool.{Bool, true, false, ◌&&◌, ◌||◌, not}
use mathlib.Core.List.{List, []}
use lib.Dec.{eqb, leb}
use lib.ListN.{length}
use borrow.Author.Tests.{eq-eqb, eqb-false, eqb-true, lt-ltb, ne_eqb}
use Rattle.buffer.proofs.Bools.{and-false-right, and_both, true-not-false}
use Rattle.variable.specs.Table.{Cell, owned}
use Rattle.machine.specs.Answer.{Answer, Buffers, Call, turn, round, command, share, run, other}
use Rattle.machine.specs.Answer.{answer, command_answer}
use Rattle.machine.specs.Area.{kernel_of}
use Rattle.machine.specs.Suppositions.{disturbed_by, executed_by, is_barred, is_done_by, set_lacks, turn_disturbs, turn_disturbs_at}
use Rattle.machine.specs.Suppositions.{process_in, write_lands}
use Rattle.machine.specs.Observation.{input_if, input_of, is_at, next, observed_by, observed_of, place_in}
use Rattle.machine.specs.Operations.{Command, Commanded, becomes, refused as declined, shared}
use Rattle.machine.specs.Limits.{slot_count, turn_room}
use Rattle.machine.specs.Refusals.{Passes}
use Rattle.machine.specs.Single.{Input, tick, given, Single, single}
use Rattle.machine.specs.State.{is_live, is_running, process_at, with_process, with_share}
use Rattle.machine.specs.Trace.{Event, Storage, event, lending, output_text}
use Rattle.machine.specs.Turn.{program_of}
use Rattle.machine.specs.declared.Kernel.{Kernel}
use Rattle.machine.specs.declared.Process.{Process}
use Rattle.machine.proofs.Traces.CallEffects.{Effects, Elsewhere, OfCommand, OfTurn, Unwritten, is_round, call-effects, effects-gone}
use Rattle.machine.proofs.Traces.CallEffects.{effects-contents, effects-untouched}
use Rattle.machine.proofs.Changes.Change.{GoodState}
use Rattle.machine.proofs.Changes.Directories.{program-at}
use Rattle.machine.proofs.Kept.ChangeKept.{NoWriteInto, Untouched}
use Rattle.buffer.proofs.Disjunctions.{or-false-left, or-false-right}
use Rattle.machine.proofs.Traces.Following.{Follows, Holds, Tracks, on, off, share-follows}
use Rattle.machine.proofs.Kept.Gone.{Gone}
use Rattle.machine.proofs.Operations.Commanding.{share-good, share-is}
use Rattle.machine.proofs.Demands.GoodCalls.{good-back, on-good, passes-good}
use Rattle.machine.proofs.Changes.LiveRecords.{running-live}
use Rattle.machine.proofs.Traces.OwnInputs.{Answers, Sheltered, command-answers, ended-answers, turn-answers}
use Rattle.machine.proofs.Demands.Rounds.{turn-running}
use Rattle.machine.proofs.Changes.Slots.{live-below-ten, place-is-slot, slot_at, slot_is}

-- what an event reports of the call it is: a turn is lent enough, and its text is what stands in the lent output; a command has none; a
-- round is no event
pub record Reports (c : Call) (out : List ℕ) (a : Answer) (text : List ℕ) : Type 0 where
  pub turns : OfTurn c (λ slot clock. (leb turn_room (length out) ≡ true) × (text ≡ output_text a))
  pub commands : OfCommand c (λ id. text ≡ [])
  pub single : is_round c ≡ false

-- what is asked of an event: after an input, the single process's answer; after any other, nothing has changed
abbrev pub Keeps : ℕ → List ℕ → Single → Event → Option Input → Type 0
Keeps i prog q e None = Tracks i prog (kernel_of e.after.area) e.after.disc q
Keeps i prog q e (Some x) =
    (observed_by e.number e i ≡ observed_of (single prog q x))
    × Tracks i prog (kernel_of e.after.area) e.after.disc (next (single prog q x) q)

-- ---- another's event
holds_as : {p r : Process} {v w : List Cell} {q : Single} → r ≡ p → w ≡ v → Holds p v q → Holds r w q
holds_as {p} {r} {v} {w} {q} e f h = subst⁻¹ (λ (x : Process). Holds x w q) e (subst⁻¹ (λ (c : List Cell). Holds p c q) f h)

pub untouched-follows : {i : ℕ} {prog : List ℕ} {k j : Kernel} {disc after : List ℕ} {q : Single} (x : Follows i prog k disc q)
    → Untouched x.slot k j
    → program_of after (process_at k x.slot) ≡ program_of disc (process_at k x.slot) → Follows i prog j after q
untouched-follows {i} {prog} {k} {j} {disc} {after} {q} x u program =
    record {
      slot = x.slot;
      live = ap is_live u.process ∙ x.live;
      named = ap (λ (p : Process). p.id) u.process ∙ x.named;
      runs = ap (program_of after) u.process ∙ program ∙ x.runs;
      holds = holds_as u.process (subst (λ (id : ℕ). owned j.variables id ≡ owned k.variables id) x.named u.variables)
          x.holds;
    }

-- the two halves of "undisturbed": the own turn, and another's
own-half : (same barred lacks lands : Bool) → same ≡ true → (same && (barred || lacks)) || (not same && lands) ≡ false → (barred ≡ false)
    × (lacks ≡ false)
own-half true barred lacks lands e h = let d = or-false-left (barred || lacks) false h in
    (or-false-left barred lacks d, or-false-right barred lacks d)
own-half false barred lacks lands e h = absurd (true-not-false e refl)

other_half : (same barred lacks lands : Bool) → same ≡ false → (same && (barred || lacks)) || (not same && lands) ≡ false → lands ≡ false
other_half true barred lacks lands e h = absurd (true-not-false refl e)
other_half false barred lacks lands e h = h

own-undisturbed : (i own slot clock : ℕ) (e : Event) → own ≡ slot → turn_disturbs i own slot clock e ≡ false
    → (is_barred (executed_by e.before slot) ≡ false) × (set_lacks i slot clock e.before ≡ false)
unfolding turn_disturbs
own-undisturbed i own slot clock e same h =
    own-half (eqb own slot) (is_barred (executed_by e.before slot)) (set_lacks i slot clock e.before)
    (write_lands (process_in e.before own).code slot e)
    (eq-eqb _ _ same) h

other-undisturbed : (i own slot clock : ℕ) (e : Event) → (own ≡ slot → ⊥) → turn_disturbs i own slot clock e ≡ false
    → write_lands (process_in e.before own).code slot e ≡ false
unfolding turn_disturbs
other-undisturbed i own slot clock e away h =
    other_half (eqb own slot) (is_barred (executed_by e.before slot)) (set_lacks i slot clock e.before)
    (write_lands (process_in e.before own).code slot e)
    (ne_eqb _ _ away) h

module _ (i : ℕ) (prog : List ℕ) (s : Storage) (out : List ℕ) (q : Single) (passes : Passes s.disc s.area) where
  abbrev k : Kernel
  k = kernel_of s.area

  abbrev b : Buffers
  b = lending s out

  good : GoodState k s.disc
  good = passes-good s.disc s.area passes

  place_of : (x : Follows i prog k s.disc q) → place_in s i ≡ Some x.slot
  place_of x = place-is-slot s i ∙ slot_is good x.slot i x.live x.named

  abbrev after : Call → Kernel
  after c = kernel_of (answer c b).area

  effects : (c : Call) → is_round c ≡ false → Effects s k (after c) (answer c b).disc c
  effects c h = call-effects s out passes c h

  -- an event that is no input
  others : (x : Follows i prog k s.disc q) (c : Call) → is_round c ≡ false → Elsewhere c x.slot k
      → Unwritten c (process_at k x.slot).code s k (after c)
      → Follows i prog (after c) (answer c b).disc q
  others x c h away safe =
      untouched-follows x (effects-untouched good x.slot x.live c away (effects c h))
      (effects-contents good (program-at good x.slot x.live) c safe (effects c h))

  gone : (c : Call) → is_round c ≡ false → Gone i k → q.state ≡ 0 → Tracks i prog (after c) (answer c b).disc q
  gone c h g over = off (effects-gone good i c g (effects c h)) over

  -- a call that is of no process
  kept : (c : Call) → is_round c ≡ false
      → ((x : Follows i prog k s.disc q) → Elsewhere c x.slot k × Unwritten c (process_at k x.slot).code s k (after c))
      → Tracks i prog k s.disc q
      → Tracks i prog (after c) (answer c b).disc q
  kept c h away (on x) = on (others x c h (away x).0 (away x).1)
  kept c h away (off g over) = gone c h g over

  -- ---- commands
  command-step : (c : Command) (id : ℕ) → Tracks i prog k s.disc q
      → Keeps i prog q (event (command c id) s (answer (command c id) b) []) (input_if (eqb id i) (given c))
  command-step c id t = go (eqb id i) refl
    where
      own : Tracks i prog k s.disc q → Keeps i prog q (event (command c i) s (answer (command c i) b) []) (Some (given c))
      own (on x) = let r = command-answers i prog s out q passes x c in (r.observed, r.tracked)
      own (off gone over) = let r = ended-answers i prog s out q passes c gone over in (r.observed, r.tracked)

      go : (f : Bool) → eqb id i ≡ f → Keeps i prog q (event (command c id) s (answer (command c id) b) []) (input_if f (given c))
      go true e =
          subst⁻¹ (λ (n : ℕ). Keeps i prog q (event (command c n) s (answer (command c n) b) []) (Some (given c))) (eqb-true id i e) (own t)
      go false e = kept (command c id) refl
          (λ x. (record { turns = tt; commands = λ at. eqb-false id i e (sym (slot_at k id x.slot at).2 ∙ x.named) }, tt)) t

  -- ---- shares: of any process, also of this one
  share-step : (id turns : ℕ) → Tracks i prog k s.disc q → Tracks i prog (after (share id turns)) (answer (share id turns) b).disc q
  unfolding answer
  share-step id turns t = go (eqb id i) refl
    where
      of-itself : (x : Follows i prog k s.disc q) → eqb id i ≡ true
          → Follows i prog (after (share id turns)) (answer (share id turns) b).disc q
      of-itself x e = subst⁻¹ Followed (on-good b _ passes) (given (shared id turns k) refl)
        where
          Followed : Answer → Type 0
          Followed a = Follows i prog (kernel_of a.area) a.disc q

          with-share : ℕ → Kernel
          with-share slot = with_process k slot (with_share (process_at k slot) turns)

          given : (r : Commanded) → shared id turns k ≡ r → Followed (command_answer r b)
          given (declined n) h = x
          given (becomes j) h =
              let y = share-is k id turns j h in
              let found : Some y.slot ≡ Some x.slot =
              sym y.found ∙ slot_is good x.slot id x.live (x.named ∙ sym (eqb-true id i e)) in
              let here : y.slot ≡ x.slot = cc in
              subst⁻¹ (λ (l : Kernel). Follows i prog l s.disc q)
              (good-back j s.disc (share-good good id turns j h) ∙ y.after ∙ ap with-share here)
              (share-follows i prog k s.disc q good x turns)

      own : eqb id i ≡ true → Tracks i prog k s.disc q → Tracks i prog (after (share id turns)) (answer (share id turns) b).disc q
      own e (on x) = on (of-itself x e)
      own e (off g over) = gone (share id turns) refl g over

      go : (f : Bool) → eqb id i ≡ f → Tracks i prog (after (share id turns)) (answer (share id turns) b).disc q
      go true e = own e t
      go false e = kept (share id turns) refl
          (λ x. (record { turns = tt; commands = λ at. eqb-false id i e (sym (slot_at k id x.slot at).2 ∙ x.named) }, tt)) t

  -- ---- turns
  module _ (slot clock : ℕ) (room : leb turn_room (length out) ≡ true) where
    abbrev a : Answer
    a = answer (turn slot clock) b

    abbrev e : Event
    e = event (turn slot clock) s a (output_text a)

    -- a turn of a running slot is done
    done : is_running (process_at k slot) ≡ true → is_done_by a.number ≡ true
    done h = ap (λ (r : Answer). is_done_by r.number)
        (turn-running b slot clock passes room (lt-ltb slot slot_count (live-below-ten good slot (running-live (process_at k slot) h))) h)

    -- what is supposed, of a turn that is done
    supposed : (x : Follows i prog k s.disc q) → is_done_by a.number && turn_disturbs_at i (place_in s i) slot clock e ≡ false
        → is_running (process_at k slot) ≡ true
        → turn_disturbs i x.slot slot clock e ≡ false
    supposed x h r =
        subst (λ (f : Option ℕ). turn_disturbs_at i f slot clock e ≡ false) (place_of x) (and-false-right (is_done_by a.number) _ (done r)
        h)

    own-step : (x : Follows i prog k s.disc q) → x.slot ≡ slot → is_done_by a.number
        && turn_disturbs_at i (place_in s i) slot clock e ≡ false → Keeps i prog q e (Some (tick clock))
    own-step x here h = subst
        (λ (n : ℕ). Keeps i prog q (event (turn n clock) s (answer (turn n clock) b) (output_text (answer (turn n clock) b)))
        (Some (tick clock))) here (r.observed, r.tracked)
      where
        shelter : is_running (process_at k x.slot) ≡ true → Sheltered i prog s out q passes x clock
        shelter w =
            let d = own-undisturbed i x.slot slot clock e here
            (supposed x h (subst (λ (n : ℕ). is_running (process_at k n) ≡ true) here w)) in
            record {
              quiet = subst⁻¹ (λ (n : ℕ). is_barred (executed_by s n) ≡ false) here d.0;
              space = subst⁻¹ (λ (n : ℕ). set_lacks i n clock s ≡ false) here d.1;
            }

        r : Answers i prog s out q passes (turn x.slot clock) (answer (turn x.slot clock) b)
            (output_text (answer (turn x.slot clock) b)) (single prog q (tick clock))
        r = turn-answers i prog s out q passes x clock room shelter

    -- no write of another lands
    no_write : (x : Follows i prog k s.disc q) → (x.slot ≡ slot → ⊥) → is_done_by a.number
        && turn_disturbs_at i (place_in s i) slot clock e ≡ false
        → is_running (process_at k slot) ≡ true → NoWriteInto (process_at k x.slot).code slot k s.disc
        (after (turn slot clock))
    unfolding write_lands
    no_write x away h r byte live start len =
        true-not-false (and_both (eq-eqb _ _ byte) (and_both live (and_both (eq-eqb _ _ start) (eq-eqb _ _ len))))
        (other-undisturbed i x.slot slot clock e away (supposed x h r))

    turn_step : Tracks i prog k s.disc q → is_done_by a.number && turn_disturbs_at i (place_in s i) slot clock e ≡ false
        → Keeps i prog q e (input_if (is_at (place_in s i) slot) (tick clock))
    turn_step (off g over) h =
        subst⁻¹ (λ (f : Option ℕ). Keeps i prog q e (input_if (is_at f slot) (tick clock))) (place-is-slot s i
        ∙ g.none) (gone (turn slot clock) refl g over)
    turn_step (on x) h =
        subst⁻¹ (λ (f : Option ℕ). Keeps i prog q e (input_if (is_at f slot) (tick clock))) (place_of x) (go (eqb x.slot slot) refl)
      where
        go : (f : Bool) → eqb x.slot slot ≡ f → Keeps i prog q e (input_if f (tick clock))
        go true m = own-step x (eqb-true _ _ m) h
        go false m = on (others x (turn slot clock) refl (record { turns = eqb-false _ _ m; commands = tt })
            (no_write x (eqb-false _ _ m) h))

  -- ---- every event
  pub step : (c : Call) (text : List ℕ) → Reports c out (answer c b) text → Tracks i prog k s.disc q
      → disturbed_by i c (event c s (answer c b) text) ≡ false
      → Keeps i prog q (event c s (answer c b) text) (input_of i c (place_in s i))
  step (command c id) text r t h =
      subst⁻¹ (λ (l : List ℕ). Keeps i prog q (event (command c id) s (answer (command c id) b) l) (input_if (eqb id i) (given c)))
      r.commands (command-step c id t)
  step (turn slot clock) text r t h =
      subst⁻¹ (λ (l : List ℕ).
      Keeps i prog q (event (turn slot clock) s (answer (turn slot clock) b) l) (input_if (is_at (place_in s i) slot) (tick clock)))
      r.turns.1
      (turn_step slot clock r.turns.0 t
      (subst (λ (l : List ℕ). disturbed_by i (turn slot clock) (event (turn slot clock) s (answer (turn slot clock) b) l) ≡ false)
      r.turns.1 h))
  step (round clock) text r t h = absurd (true-not-false refl r.single)
  step (share id turns) text r t h = share-step id turns t
  step (run name) text r t h = kept (run name) refl (λ x. (record { turns = tt; commands = tt }, tt)) t
  step (other o) text r t h = kept (other o) refl (λ x. (record { turns = tt; commands = tt }, tt)) t
