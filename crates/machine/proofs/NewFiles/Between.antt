-- Whatever comes between leaves the process as OPEN left it, but for its state and its share, and the bytes of its open file; or the
-- process ends.
use Rattle.std.specs.Prelude.{Option, Some}
use Prim.Native.Nat.{ℕ, ◌≤◌, ◌<◌}
use mathlib.Core.Path.{◌≡◌, refl, sym, ap, subst, subst⁻¹, ◌∙◌}
use mathlib.Core.Bool.{Bool, true, false, ◌||◌, cond, not}
use mathlib.Core.List.{List, [], ◌∷◌, ◌++◌}
use native.Mathlib.Omega.{arith}
use lib.Dec.{eqb, leb}
use lib.ListN.{length}
use borrow.Author.Tests.{eq-eqb, eqb-false, eqb-true, lt-ltb, ne_eqb, not-true}
use Rattle.buffer.specs.Lists.{all}
use Rattle.buffer.proofs.Bools.{and_both, and-false-right, and_left, and_right, true-not-false}
use Rattle.buffer.proofs.Disjunctions.{or-false-left, or-false-right}
use Rattle.disc.specs.Directory.{contents, files}
use Rattle.disc.proofs.Locations.{FileAt}
use Rattle.machine.specs.Answer.{Answer, Buffers, Call, turn, round, command, share, run, other, answer, command_answer}
use Rattle.machine.specs.Area.{kernel_bytes, kernel_of}
use Rattle.machine.specs.Beyond.{file_run}
use Rattle.machine.specs.Ended.{ended}
use Rattle.machine.specs.Limits.{slot_count, turn_room}
use Rattle.machine.specs.NewFile.{NoneInterferes, interferes, turn_interferes}
use Rattle.machine.specs.Observation.{place_in}
use Rattle.machine.specs.Operations.{Command, Commanded, becomes, refused as denied, suspend, resume, kill, changed, command_at}
use Rattle.machine.specs.Operations.{commanded, shared}
use Rattle.machine.specs.Refusals.{Passes}
use Rattle.machine.specs.State.{is_live, is_running, paused, process_at, running, slot_of, with_process, with_share, with_state}
use Rattle.machine.specs.Suppositions.{is_done_by, write_lands}
use Rattle.machine.specs.Trace.{Event, Storage, event, lending}
use Rattle.machine.specs.declared.Kernel.{Kernel}
use Rattle.machine.specs.declared.OpenFile.{OpenFile}
use Rattle.machine.specs.declared.Process.{Process}
use Rattle.machine.proofs.Changes.Change.{GoodState}
use Rattle.machine.proofs.Changes.Directories.{live-record, open_at}
use Rattle.machine.proofs.Changes.LiveRecords.{running-live}
use Rattle.machine.proofs.Changes.Replaced.{put-at}
use Rattle.machine.proofs.Changes.Slots.{live-below-ten, place-is-slot, slot_at, slot_is}
use Rattle.machine.proofs.Demands.GoodCalls.{good-back, on-good, passes-good}
use Rattle.machine.proofs.Demands.Rounds.{turn-not-running, turn-running}
use Rattle.machine.proofs.Kept.ChangeKept.{NoWriteInto}
use Rattle.machine.proofs.Kept.Gone.{Gone}
use Rattle.machine.proofs.Kept.OwnEnd.{ended-gone}
use Rattle.machine.proofs.Operations.Commanding.{command-good, share-good, share-is}
use Rattle.machine.proofs.Operations.FileAnswers.{opened_of}
use Rattle.machine.proofs.Traces.CallEffects.{Elsewhere, Unwritten, call-effects, effects-contents, effects-gone}
use Rattle.machine.proofs.Traces.CallEffects.{effects-untouched, is_round}
use Rattle.machine.proofs.Traces.Chains.{Chain, Genuine}
use Rattle.machine.proofs.Traces.Stepping.{Reports}

-- the process i, in that slot, is p but for its state and share, and its open file holds these bytes; or it has ended
pub data Waits (i slot : ℕ) (p : Process) (bytes : List ℕ) (k : Kernel) (disc : List ℕ) : Type 0 where
  on : (state share : ℕ) → process_at k slot ≡ with_share (with_state p state) share → is_live (process_at k slot) ≡ true
      → contents disc (file_run p.file) ≡ bytes → Waits i slot p bytes k disc
  off : Gone i k → Waits i slot p bytes k disc

module _ (i slot : ℕ) (p : Process) (bytes : List ℕ) (named : p.id ≡ i) (some : 1 ≤ p.file.len) where
  abbrev Kept : Kernel → List ℕ → Type 0
  Kept = Waits i slot p bytes

  -- ---- one call on good buffers
  module _ (s : Storage) (out : List ℕ) (passes : Passes s.disc s.area) where
    abbrev k : Kernel
    k = kernel_of s.area

    abbrev b : Buffers
    b = lending s out

    good : GoodState k s.disc
    good = passes-good s.disc s.area passes

    abbrev Left : Answer → Type 0
    Left a = Kept (kernel_of a.area) a.disc

    module _ (state turns : ℕ) (here : process_at k slot ≡ with_share (with_state p state) turns)
        (live : is_live (process_at k slot) ≡ true)
        (held : contents s.disc (file_run p.file) ≡ bytes) where
      as_it_was : Kept k s.disc
      as_it_was = on state turns here live held

      id-here : (process_at k slot).id ≡ i
      id-here = ap (λ (q : Process). q.id) here ∙ named

      slot-here : slot_of k i ≡ Some slot
      slot-here = slot_is good slot i live id-here

      same-file : (process_at k slot).file ≡ p.file
      same-file = ap (λ (q : Process). q.file) here

      file : FileAt s.disc (file_run p.file)
      file =
          subst (λ (f : OpenFile). FileAt s.disc (file_run f)) same-file
          (open_at (opened_of (files s.disc) (process_at k slot).file (live-record good slot live).file
          (ne_eqb (process_at k slot).file.len 0
          (λ (z : (process_at k slot).file.len ≡ 0). omega (arith, some, ap (λ (f : OpenFile). f.len) same-file)))))

      -- a call that is none of the process's, and writes nothing into its file
      others : (c : Call) → is_round c ≡ false → Elsewhere c slot k → Unwritten c (file_run p.file) s k (kernel_of (answer c b).area)
          → Left (answer c b)
      others c h away safe =
          let e = call-effects s out passes c h in
          let same = (effects-untouched good slot live c away e).process in
          on state turns (same ∙ here) (ap is_live same ∙ live) (effects-contents good file c safe e ∙ held)

      -- ---- its own commands
      written : (j : Kernel) → GoodState j s.disc → Kept j s.disc → Kept (kernel_of (kernel_bytes j)) s.disc
      written j g w = subst⁻¹ (λ (x : Kernel). Kept x s.disc) (good-back j s.disc g) w

      becoming : (c : Command) (j : Kernel) → command_at (Some slot) c k ≡ becomes j → Kept j s.disc → Left (command_answer (becomes j) b)
      unfolding commanded
      becoming c j e w =
          written j (command-good good c i j (subst⁻¹ (λ (f : Option ℕ). command_at f c k ≡ becomes j) slot-here e)) w

      changes : (c : Command) (new : ℕ) → is_live (with_state (process_at k slot) new) ≡ true
          → command_at (Some slot) c k ≡ changed k slot new
          → Left (command_answer (changed k slot new) b)
      changes c new h same = go (eqb (process_at k slot).state new) same
        where
          q : Process
          q = with_state (process_at k slot) new

          put : process_at (with_process k slot q) slot ≡ q
          put = put-at k slot q live

          go : (f : Bool) → command_at (Some slot) c k ≡ cond f (denied 15) (becomes (with_process k slot q))
              → Left (command_answer (cond f (denied 15) (becomes (with_process k slot q))) b)
          go true e = as_it_was
          go false e =
              becoming c (with_process k slot q) e
              (on new turns (put ∙ ap (λ (r : Process). with_state r new) here) (ap is_live put ∙ h) held)

      killed : Kept (ended k slot 0) s.disc
      unfolding ended
      killed =
          off (subst (λ (id : ℕ). Gone id (ended k slot 0)) id-here
          (record { given = (live-record good slot live).given; none = ended-gone k slot 0 s.disc good live }))

      own-command : (c : Command) → Left (answer (command c i) b)
      unfolding answer commanded
      own-command c =
          subst⁻¹ Left (on-good b _ passes)
          (subst⁻¹ (λ (f : Option ℕ). Left (command_answer (command_at f c k) b)) slot-here (go c))
        where
          go : (c : Command) → Left (command_answer (command_at (Some slot) c k) b)
          go suspend = changes suspend paused refl refl
          go resume = changes resume running refl refl
          go kill = becoming kill (ended k slot 0) refl killed

      -- ---- its own share
      own-share : (new : ℕ) → Left (answer (share i new) b)
      unfolding answer
      own-share new = subst⁻¹ Left (on-good b _ passes) (go (shared i new k) refl)
        where
          go : (r : Commanded) → shared i new k ≡ r → Left (command_answer r b)
          go (denied n) e = as_it_was
          go (becomes j) e =
              let y = share-is k i new j e in
              let found : Some y.slot ≡ Some slot = sym y.found ∙ slot-here in
              let here-too : y.slot ≡ slot = cc in
              let q : Process = with_share (process_at k slot) new in
              let put : process_at (with_process k slot q) slot ≡ q = put-at k slot q live in
              written j (share-good good i new j e)
              (subst⁻¹ (λ (x : Kernel). Kept x s.disc)
              (y.after ∙ ap (λ (n : ℕ). with_process k n (with_share (process_at k n) new)) here-too)
              (on state new (put ∙ ap (λ (r : Process). with_share r new) here) (ap is_live put ∙ live) held))

      -- ---- turns
      module _ (at clock : ℕ) (room : leb turn_room (length out) ≡ true) (text : List ℕ) where
        abbrev a : Answer
        a = answer (turn at clock) b

        abbrev e : Event
        e = event (turn at clock) s a text

        place : place_in s i ≡ Some slot
        place = place-is-slot s i ∙ slot-here

        done : is_running (process_at k at) ≡ true → is_done_by a.number ≡ true
        done h = ap (λ (r : Answer). is_done_by r.number)
            (turn-running b at clock passes room (lt-ltb at slot_count (live-below-ten good at (running-live (process_at k at) h))) h)

        -- what a turn that is done does not do
        supposed : interferes i (turn at clock) e ≡ false → is_running (process_at k at) ≡ true
            → eqb slot at || write_lands (file_run (process_at k slot).file) at e ≡ false
        supposed h r = subst (λ (f : Option ℕ). turn_interferes f at e ≡ false) place (and-false-right (is_done_by a.number) _ (done r) h)

        own_turn : slot ≡ at → interferes i (turn at clock) e ≡ false → Left a
        own_turn same h = go (is_running (process_at k at)) refl
          where
            go : (r : Bool) → is_running (process_at k at) ≡ r → Left a
            go true r = absurd (true-not-false (eq-eqb slot at same) (or-false-left (eqb slot at) _ (supposed h r)))
            go false r =
                subst⁻¹ Left
                (turn-not-running b at clock passes room
                (lt-ltb at slot_count (subst (λ (n : ℕ). n < slot_count) same (live-below-ten good slot live))) r)
                as_it_was

        no_write : interferes i (turn at clock) e ≡ false → is_running (process_at k at) ≡ true
            → NoWriteInto (file_run p.file) at k s.disc (kernel_of a.area)
        unfolding write_lands
        no_write h r byte alive start len =
            true-not-false (and_both (eq-eqb _ _ byte) (and_both alive (and_both (eq-eqb _ _ start) (eq-eqb _ _ len))))
            (subst (λ (f : OpenFile). write_lands (file_run f) at e ≡ false) same-file (or-false-right (eqb slot at) _ (supposed h r)))

        any-turn : interferes i (turn at clock) e ≡ false → Left a
        any-turn h = go (eqb slot at) refl
          where
            go : (f : Bool) → eqb slot at ≡ f → Left a
            go true q = own_turn (eqb-true slot at q) h
            go false q = others (turn at clock) refl (record { turns = eqb-false slot at q; commands = tt }) (no_write h)

      any-command : (c : Command) (id : ℕ) → Left (answer (command c id) b)
      any-command c id = go (eqb id i) refl
        where
          go : (f : Bool) → eqb id i ≡ f → Left (answer (command c id) b)
          go true q = subst⁻¹ (λ (n : ℕ). Left (answer (command c n) b)) (eqb-true id i q) (own-command c)
          go false q = others (command c id) refl
              (record { turns = tt; commands = λ at. eqb-false id i q (sym (slot_at k id slot at).2 ∙ id-here) }) tt

      any-share : (id new : ℕ) → Left (answer (share id new) b)
      any-share id new = go (eqb id i) refl
        where
          go : (f : Bool) → eqb id i ≡ f → Left (answer (share id new) b)
          go true q = subst⁻¹ (λ (n : ℕ). Left (answer (share n new) b)) (eqb-true id i q) (own-share new)
          go false q = others (share id new) refl
              (record { turns = tt; commands = λ at. eqb-false id i q (sym (slot_at k id slot at).2 ∙ id-here) }) tt

      one-call : (c : Call) (text : List ℕ) → Reports c out (answer c b) text → interferes i c (event c s (answer c b) text) ≡ false
          → Left (answer c b)
      one-call (turn at clock) text r h = any-turn at clock r.turns.0 text h
      one-call (command c id) text r h = any-command c id
      one-call (share id new) text r h = any-share id new
      one-call (round clock) text r h = absurd (true-not-false refl r.single)
      one-call (run name) text r h = others (run name) refl (record { turns = tt; commands = tt }) tt
      one-call (other o) text r h = others (other o) refl (record { turns = tt; commands = tt }) tt

    step : (c : Call) (text : List ℕ) → Reports c out (answer c b) text → interferes i c (event c s (answer c b) text) ≡ false
        → Kept k s.disc → Left (answer c b)
    step c text r h (on state turns here live held) = one-call state turns here live held c text r h
    step c text r h (off gone) = off (effects-gone good i c gone (call-effects s out passes c r.single))

  -- ---- the events between
  one-event : (k : Kernel) (disc : List ℕ) (e : Event) → kernel_of e.before.area ≡ k → e.before.disc ≡ disc
      → Passes e.before.disc e.before.area → (g : Genuine e) → interferes i e.call e ≡ false → Kept k disc
      → Kept (kernel_of e.after.area) e.after.disc
  one-event k disc e q d passes g h w =
      subst⁻¹ (λ (x : Event). Kept (kernel_of x.after.area) x.after.disc) g.same
      (step e.before g.out passes e.call e.text g.reports
      (subst (λ (x : Event). interferes i e.call x ≡ false) g.same h)
      (subst⁻¹ (λ (x : Kernel). Kept x e.before.disc) q (subst⁻¹ (λ (l : List ℕ). Kept k l) d w)))

  -- the process waits until the event that follows them
  pub waits-until : (k : Kernel) (disc : List ℕ) (es : List Event) (last : Event) (later : List Event)
      → Chain k disc (es ++ (last ∷ later)) → NoneInterferes i es → Kept k disc
      → Kept (kernel_of last.before.area) last.before.disc × Genuine last
  unfolding Chain all
  waits-until k disc [] last later c none w = (
    subst⁻¹ (λ (x : Kernel). Kept x last.before.disc) c.0 (subst⁻¹ (λ (l : List ℕ). Kept k l) c.1 w),
    c.3,
  )
  waits-until k disc (e ∷ es) last later c none w =
      let quiet : Bool = not (interferes i e.call e) in
      waits-until (kernel_of e.after.area) e.after.disc es last later c.4 (and_right quiet _ none)
      (one-event k disc e c.0 c.1 c.2 c.3 (not-true _ (and_left quiet _ none)) w)
