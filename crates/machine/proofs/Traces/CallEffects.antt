-- What one call on good buffers does to kernel state and disc, seen from a process: nothing, something outside every process, something one
-- process does alone, or the turn of one process. What follows for every other process is stated here without any supposition; only its
-- program's bytes need that no write goes into them.
use Rattle.std.specs.Prelude.{None, Option, Some}
use Prim.Native.Nat.{ℕ}
use mathlib.Core.Path.{◌≡◌, refl, sym, ap, subst⁻¹, ◌∙◌}
use mathlib.Core.Bool.{Bool, true, false, ◌&&◌, not}
use mathlib.Core.List.{List}
use mathlib.Core.Logic.{◌⊎◌, inl}
use lib.Dec.{leb, ltb}
use lib.ListN.{length}
use borrow.Author.Tests.{not-true}
use Rattle.buffer.proofs.Bools.{and_right, true-not-false}
use Rattle.place.specs.declared.Run.{Run}
use Rattle.disc.specs.Directory.{contents, entry_at, lookup}
use Rattle.disc.proofs.Locations.{FileAt}
use Rattle.disc.proofs.Lookups.{lookup-at}
use Rattle.store.proofs.Calls.{store-cases}
use Rattle.variable.specs.Table.{owned}
use Rattle.machine.specs.Answer.{Answer, Buffers, Other, store, retrieve, erase, files, free_space, list, Call, turn, round}
use Rattle.machine.specs.Answer.{command, share, run, other}
use Rattle.machine.specs.Answer.{answer, command_answer, erase_at, on_disc, other_answer, run_at}
use Rattle.machine.specs.Area.{kernel_bytes, kernel_of}
use Rattle.machine.specs.Isolation.{start_name}
use Rattle.machine.specs.Limits.{slot_count, turn_room}
use Rattle.machine.specs.Operations.{Command, Commanded, becomes, refused as declined, commanded, in_use, list_text, shared}
use Rattle.machine.specs.Refusals.{Passes}
use Rattle.machine.specs.Start.{Starting, starts, refuses, started, starting}
use Rattle.machine.specs.State.{is_live, is_running, process_at, slot_of}
use Rattle.machine.specs.Trace.{Storage, lending}
use Rattle.machine.specs.declared.Kernel.{Kernel}
use Rattle.machine.proofs.Operations.Tests.{tried}
use Rattle.machine.proofs.Changes.Change.{GoodState, Outside, stores, erases, begins, Own, Change}
use Rattle.machine.proofs.Kept.ChangeKept.{NoWriteInto, Untouched, change-begun, change-contents, change-gone, change-untouched}
use Rattle.machine.proofs.Kept.ChangeKept.{gone-after}
use Rattle.machine.proofs.Demands.GoodCalls.{good-back, on-good, passes-good, turn-good, turn-is-change}
use Rattle.machine.proofs.Kept.OwnSpared.{own-none, own-process, own-variables}
use Rattle.machine.proofs.Kept.Begun.{Begun}
use Rattle.machine.proofs.Operations.Commanding.{Shares, command-good, command-own, share-good, share-is, shares-own}
use Rattle.machine.proofs.Kept.EndedIds.{outside-begun, outside-gone}
use Rattle.machine.proofs.Kept.Gone.{Gone}
use Rattle.machine.proofs.Changes.LiveRecords.{running-live}
use Rattle.machine.proofs.Kept.OutsideKept.{outside-good}
use Rattle.machine.proofs.Kept.OutsideSpares.{outside-contents, outside-spares}
use Rattle.machine.proofs.Changes.Slots.{slot_at}

-- ---- facts asked of a turn alone, or of a command and share alone: of what names an ID
abbrev pub OfTurn : Call → (ℕ → ℕ → Type 0) → Type 0
OfTurn (turn slot clock) fact = fact slot clock
OfTurn (round clock) fact = Unit {0}
OfTurn (command c id) fact = Unit {0}
OfTurn (share id turns) fact = Unit {0}
OfTurn (run name) fact = Unit {0}
OfTurn (other o) fact = Unit {0}

abbrev pub OfCommand : Call → (ℕ → Type 0) → Type 0
OfCommand (turn slot clock) fact = Unit {0}
OfCommand (round clock) fact = Unit {0}
OfCommand (command c id) fact = fact id
OfCommand (share id turns) fact = fact id
OfCommand (run name) fact = Unit {0}
OfCommand (other o) fact = Unit {0}

abbrev pub is_round : Call → Bool
is_round (turn slot clock) = false
is_round (round clock) = true
is_round (command c id) = false
is_round (share id turns) = false
is_round (run name) = false
is_round (other o) = false

-- what a call leaves: the state j and the disc after
pub data Effects (s : Storage) (k j : Kernel) (after : List ℕ) : Call → Type 0 where
  none : {c : Call} → j ≡ k → after ≡ s.disc → Effects s k j after c
  outside : {c : Call} → Outside (start_name c s) k s.disc j after → Effects s k j after c
  alone : {c : Command} {id : ℕ} (w : ℕ) → is_live (process_at k w) ≡ true → slot_of k id ≡ Some w → Own w k s.disc j → after ≡ s.disc
      → Effects s k j after (command c id)
  shares : {id turns : ℕ} → Shares k id turns j → after ≡ s.disc → Effects s k j after (share id turns)
  takes : {slot clock : ℕ} → is_running (process_at k slot) ≡ true → Change (start_name (turn slot clock) s) slot k s.disc j after
      → Effects s k j after (turn slot clock)

module _ (s : Storage) (out : List ℕ) (passes : Passes s.disc s.area) where
  abbrev k : Kernel
  k = kernel_of s.area

  abbrev b : Buffers
  b = lending s out

  abbrev Leaves : Call → Answer → Type 0
  Leaves c a = Effects s k (kernel_of a.area) a.disc c

  good : GoodState k s.disc
  good = passes-good s.disc s.area passes

  -- a state that is written is read back
  read_back : (c : Call) (j : Kernel) (after : List ℕ) → GoodState j after → Effects s k j after c
      → Effects s k (kernel_of (kernel_bytes j)) after c
  read_back c j after g e = subst⁻¹ (λ (h : Kernel). Effects s k h after c) (good-back j after g) e

  store-effects : (name bytes : List ℕ) → Leaves (other (store name bytes)) (answer (other (store name bytes)) b)
  unfolding answer other_answer
  store-effects name bytes =
      store-cases s.disc name bytes (λ u. Leaves (other (store name bytes)) (on_disc u b)) (λ r d. none refl refl)
      (λ at l g a. outside (stores name bytes at a refl refl))

  erase-effects : (name : List ℕ) → Leaves (other (erase name)) (answer (other (erase name)) b)
  unfolding answer other_answer
  erase-effects name = subst⁻¹ (Leaves (other (erase name))) (on-good b _ passes) (found (lookup s.disc name) refl)
    where
      found : (f : Option ℕ) → lookup s.disc name ≡ f → Leaves (other (erase name)) (erase_at f k b)
      found None e = none refl refl
      found (Some i) e =
          tried (Leaves (other (erase name))) b (not (in_use k (entry_at s.disc i))) 11 _ (none refl refl) λ free.
          outside (erases i (lookup-at s.disc name i e).inside (not-true _ free) refl refl)

  run-effects : (name : List ℕ) → Leaves (run name) (answer (run name) b)
  unfolding answer
  run-effects name = subst⁻¹ (Leaves (run name)) (on-good b _ passes) (placed (starting k s.disc name) refl)
    where
      placed : (x : Starting) → starting k s.disc name ≡ x → Leaves (run name) (run_at x k b)
      placed (refuses n) e = none refl refl
      placed (starts slot f) e =
          let o : Outside name k s.disc (started k slot f) s.disc = begins slot f e refl refl in
          read_back (run name) _ _ (outside-good name k s.disc _ _ good o) (outside o)

  command-effects : (c : Command) (id : ℕ) → Leaves (command c id) (answer (command c id) b)
  unfolding answer
  command-effects c id = subst⁻¹ (Leaves (command c id)) (on-good b _ passes) (given (commanded c id k) refl)
    where
      given : (r : Commanded) → commanded c id k ≡ r → Leaves (command c id) (command_answer r b)
      given (declined n) e = none refl refl
      given (becomes j) e =
          let o = command-own good c id j e in
          read_back (command c id) j s.disc (command-good good c id j e)
          (alone o.0 (slot_at k id o.0 o.1).1 o.1 o.2 refl)

  share-effects : (id turns : ℕ) → Leaves (share id turns) (answer (share id turns) b)
  unfolding answer
  share-effects id turns = subst⁻¹ (Leaves (share id turns)) (on-good b _ passes) (given (shared id turns k) refl)
    where
      given : (r : Commanded) → shared id turns k ≡ r → Leaves (share id turns) (command_answer r b)
      given (declined n) e = none refl refl
      given (becomes j) e =
          read_back (share id turns) j s.disc (share-good good id turns j e) (shares (share-is k id turns j e) refl)

  list-effects : Leaves (other list) (answer (other list) b)
  unfolding answer other_answer
  list-effects = subst⁻¹ (Leaves (other list)) (on-good b _ passes)
      (tried (Leaves (other list)) b (leb (length (list_text k)) (length out)) 4 _ (none refl refl) λ fit. none refl refl)

  turn-effects : (slot clock : ℕ) → Leaves (turn slot clock) (answer (turn slot clock) b)
  unfolding answer
  turn-effects slot clock =
      subst⁻¹ (Leaves (turn slot clock)) (on-good b _ passes)
      (tried (Leaves (turn slot clock)) b (leb turn_room (length out)) 4 _ (none refl refl) λ fit.
      tried (Leaves (turn slot clock)) b (ltb slot slot_count && is_running (process_at k slot)) 16 _ (none refl refl) λ may.
      let h : is_running (process_at k slot) ≡ true = and_right (ltb slot slot_count) _ may in
      read_back (turn slot clock) _ _ (turn-good k slot clock s.disc good h) (takes h (turn-is-change k slot clock s.disc good h)))

  other-effects : (o : Other) → Leaves (other o) (answer (other o) b)
  unfolding answer other_answer
  other-effects (store name bytes) = store-effects name bytes
  other-effects (retrieve name) = none refl refl
  other-effects (erase name) = erase-effects name
  other-effects files = none refl refl
  other-effects free_space = none refl refl
  other-effects list = list-effects

  pub call-effects : (c : Call) → is_round c ≡ false
      → Effects s (kernel_of s.area) (kernel_of (answer c (lending s out)).area) (answer c (lending s out)).disc c
  call-effects (turn slot clock) h = turn-effects slot clock
  call-effects (round clock) h = absurd (true-not-false refl h)
  call-effects (command c id) h = command-effects c id
  call-effects (share id turns) h = share-effects id turns
  call-effects (run name) h = run-effects name
  call-effects (other o) h = other-effects o

-- ---- what follows for every other process
-- the call is none of the process in slot own
pub record Elsewhere (c : Call) (own : ℕ) (k : Kernel) : Type 0 where
  pub turns : OfTurn c (λ slot clock. own ≡ slot → ⊥)
  pub commands : OfCommand c (λ id. slot_of k id ≡ Some own → ⊥)

-- and writes nothing into a file
abbrev pub Unwritten : Call → Run → Storage → Kernel → Kernel → Type 0
Unwritten c file s k j = OfTurn c (λ slot clock. is_running (process_at k slot) ≡ true → NoWriteInto file slot k s.disc j)

module _ {s : Storage} {k j : Kernel} {after : List ℕ} (g : GoodState k s.disc) where
  pub effects-gone : (i : ℕ) (c : Call) → Gone i k → Effects s k j after c → Gone i j
  effects-gone i c gone (none e f) = subst⁻¹ (Gone i) e gone
  effects-gone i c gone (outside o) = outside-gone i g gone o
  effects-gone i c gone (alone w l e x f) = gone-after i gone x
  effects-gone i c gone (shares x f) = gone-after i gone (shares-own g x)
  effects-gone i c gone (takes r x) = change-gone _ _ k s.disc j after g i gone x

  pub effects-begun : (i : ℕ) (c : Call) → slot_of k i ≡ None → Effects s k j after c → (slot_of j i ≡ None)
      ⊎ Begun (start_name c s) i s.disc j after
  effects-begun i c h (none e f) = inl (subst⁻¹ (λ (x : Kernel). slot_of x i ≡ None) e h)
  effects-begun i c h (outside o) = outside-begun i g h o
  effects-begun i c h (alone w l e x f) = inl (own-none i h x)
  effects-begun i c h (shares x f) = inl (own-none i h (shares-own g x))
  effects-begun i (turn slot clock) h (takes r x) = change-begun _ slot k s.disc j after g (running-live (process_at k slot) r) i h x

  -- the record and the variables of the process in slot own are left as they are
  pub effects-untouched : (own : ℕ) → is_live (process_at k own) ≡ true → (c : Call) → Elsewhere c own k → Effects s k j after c
      → Untouched own k j
  effects-untouched own live c away (none e f) =
      record {
        process = ap (λ (x : Kernel). process_at x own) e;
        variables = ap (λ (x : Kernel). owned x.variables (process_at k own).id) e;
      }
  effects-untouched own live c away (outside o) = let u = outside-spares g own live o in
      record { process = u.process; variables = u.variables }
  effects-untouched own live (command c id) away (alone w l e x f) =
      let other : own ≡ w → ⊥ = λ q. away.commands (e ∙ ap Some (sym q)) in
      record { process = own-process own other x; variables = own-variables own g live other x }
  effects-untouched own live (share id turns) away (shares x f) =
      let other : own ≡ x.slot → ⊥ = λ q. away.commands (x.found ∙ ap Some (sym q)) in
      record { process = own-process own other (shares-own g x); variables = own-variables own g live other (shares-own g x) }
  effects-untouched own live (turn slot clock) away (takes r x) = change-untouched _ slot k s.disc j after g own live away.turns x

  -- a file keeps its bytes
  pub effects-contents : {file : Run} → FileAt s.disc file → (c : Call) → Unwritten c file s k j → Effects s k j after c
      → contents after file ≡ contents s.disc file
  effects-contents {file} f c safe (none e d) = ap (λ (l : List ℕ). contents l file) d
  effects-contents f c safe (outside o) = outside-contents g f o
  effects-contents {file} f (command c id) safe (alone w l e x d) = ap (λ (l : List ℕ). contents l file) d
  effects-contents {file} f c safe (shares x d) = ap (λ (l : List ℕ). contents l file) d
  effects-contents f (turn slot clock) safe (takes r x) = change-contents _ slot k s.disc j after g f (safe r) x
