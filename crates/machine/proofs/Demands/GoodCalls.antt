-- Every call keeps good buffers good.
use Rattle.std.specs.Prelude.{None, Option, Some}
use Prim.Native.Nat.{ℕ}
use mathlib.Core.Path.{◌≡◌, refl, subst⁻¹}
use mathlib.Core.Bool.{Bool, true, false, ◌&&◌, not, cond}
use mathlib.Core.List.{List, [], ◌∷◌}
use lib.Dec.{leb, ltb}
use lib.ListN.{length, replicate}
use borrow.Author.Tests.{eq-eqb, eqb-true, not-true}
use Rattle.buffer.proofs.Bools.{and_both, and_left, and_right}
use Rattle.disc.specs.Directory.{entry_at, is_disc_length, lookup}
use Rattle.disc.proofs.Lookups.{lookup-at}
use Rattle.store.specs.File.{erased, stored}
use Rattle.store.proofs.Calls.{store-cases}
use Rattle.machine.specs.Answer.{Answer, Buffers, Other, store, retrieve, erase, files, free_space, list, Call, turn, round}
use Rattle.machine.specs.Answer.{command, share, run, other}
use Rattle.machine.specs.Answer.{answer, command_answer, erase_at, good_area, on_disc, on_good, other_answer, run_at}
use Rattle.machine.specs.Area.{is_area_length, kernel_bytes, kernel_of}
use Rattle.machine.specs.Limits.{round_room, slot_count, turn_room}
use Rattle.machine.specs.Operations.{Command, Commanded, becomes, refused as declined, commanded, in_order, in_use, list_text, round_of}
use Rattle.machine.specs.Operations.{share_of_turns, shared, slots, turn_if_running, turns_due}
use Rattle.machine.specs.Refusals.{Passes}
use Rattle.machine.specs.Start.{Starting, starts, refuses, started, starting}
use Rattle.machine.specs.Stack.{top_string}
use Rattle.machine.specs.State.{is_running, local_of, process_at}
use Rattle.machine.specs.Turn.{Turned, turned}
use Rattle.machine.specs.declared.Kernel.{Kernel}
use Rattle.machine.proofs.Operations.Tests.{tried}
use Rattle.machine.proofs.Bytes.Area.{kernel-bytes-length, kernel-decode-encode}
use Rattle.machine.proofs.Changes.Change.{GoodState, Outside, stores, erases, begins, Change}
use Rattle.machine.proofs.Kept.ChangeKept.{change-good}
use Rattle.machine.proofs.Instructions.Executing.{exec-sound}
use Rattle.machine.proofs.Operations.Commanding.{command-good, share-good}
use Rattle.machine.proofs.Changes.LiveRecords.{running-live, within-local}
use Rattle.machine.proofs.Kept.OutsideKept.{outside-good}
use Rattle.machine.proofs.Operations.Turning.{turn-change}
use Rattle.machine.proofs.Bytes.Sizes.{decoded-sized}

-- ---- good buffers and good states
pub area-length : {disc area : List ℕ} → Passes disc area → is_area_length (length area) ≡ true
area-length {disc} p = and_right (is_disc_length (length disc)) _ p.sizes

pub passes-good : (disc area : List ℕ) → Passes disc area → GoodState (kernel_of area) disc
unfolding good_area
passes-good disc area p =
    record {
      sized = decoded-sized area (eqb-true _ _ (area-length p));
      long = and_left (is_disc_length (length disc)) _ p.sizes;
      sound = p.disc-good;
      area = p.area-good;
    }

-- the area's bytes may be others that say the same
pub good-passes-as : (disc area : List ℕ) → is_area_length (length area) ≡ true → GoodState (kernel_of area) disc → Passes disc area
unfolding good_area
good-passes-as disc area long g = record { sizes = and_both g.long long; disc-good = g.sound; area-good = g.area }

pub good-back : (k : Kernel) (disc : List ℕ) → GoodState k disc → kernel_of (kernel_bytes k) ≡ k
good-back k disc g = kernel-decode-encode k g.sized

pub good-passes : (k : Kernel) (disc : List ℕ) → GoodState k disc → Passes disc (kernel_bytes k)
good-passes k disc g =
    good-passes-as disc (kernel_bytes k) (eq-eqb _ _ (kernel-bytes-length k g.sized))
    (subst⁻¹ (λ (j : Kernel). GoodState j disc) (good-back k disc g) g)

pub on-good : (b : Buffers) (rest : Answer) → Passes b.disc b.area → on_good b rest ≡ rest
on-good b rest p = rw (p.sizes, p.disc-good, p.area-good)

-- ---- a turn
pub turn-is-change : (k : Kernel) (slot clock : ℕ) (disc : List ℕ) → GoodState k disc → is_running (process_at k slot) ≡ true
    → Change (top_string (local_of (process_at k slot)).stack) slot k disc (turned k slot clock disc).kernel (turned k slot clock disc).disc
turn-is-change k slot clock disc g h =
    turn-change k slot clock disc g h (exec-sound _ clock _ _ (within-local g slot (running-live (process_at k slot) h)))

pub turn-good : (k : Kernel) (slot clock : ℕ) (disc : List ℕ) → GoodState k disc → is_running (process_at k slot) ≡ true
    → GoodState (turned k slot clock disc).kernel (turned k slot clock disc).disc
turn-good k slot clock disc g h = change-good _ slot k disc _ _ g (turn-is-change k slot clock disc g h)

-- ---- a round
pub turn-if-running-good : (k : Kernel) (slot clock : ℕ) (disc : List ℕ) → GoodState k disc
    → GoodState (turn_if_running k slot clock disc).kernel (turn_if_running k slot clock disc).disc
unfolding turn_if_running
turn-if-running-good k slot clock disc g = go (is_running (process_at k slot)) refl
  where
    go : (running : Bool) → is_running (process_at k slot) ≡ running
        → GoodState (cond running (turned k slot clock disc) (record { kernel = k; disc = disc; out = [] })).kernel
        (cond running (turned k slot clock disc) (record { kernel = k; disc = disc; out = [] })).disc
    go true e = turn-good k slot clock disc g e
    go false e = g

-- what keeps a good state good for one slot keeps it for all of them
abbrev pub KeepsGood : (Kernel → ℕ → ℕ → List ℕ → Turned) → Type 0
KeepsGood each = (k : Kernel) (slot clock : ℕ) (disc : List ℕ) → GoodState k disc → GoodState (each k slot clock disc).kernel
    (each k slot clock disc).disc

pub in-order-good : (each : Kernel → ℕ → ℕ → List ℕ → Turned) → KeepsGood each → (l : List ℕ) (k : Kernel) (clock : ℕ) (disc : List ℕ)
    → GoodState k disc
    → GoodState (in_order each l k clock disc).kernel (in_order each l k clock disc).disc
unfolding in_order
in-order-good each keeps [] k clock disc g = g
in-order-good each keeps (slot ∷ l) k clock disc g =
    let t : Turned = each k slot clock disc in
    in-order-good each keeps l t.kernel clock t.disc (keeps k slot clock disc g)

pub share-of-turns-good : KeepsGood share_of_turns
unfolding share_of_turns
share-of-turns-good k slot clock disc g =
    in-order-good turn_if_running turn-if-running-good (replicate (turns_due (process_at k slot)) slot) k clock disc g

pub round-good : (k : Kernel) (clock : ℕ) (disc : List ℕ) → GoodState k disc
    → GoodState (round_of k clock disc).kernel (round_of k clock disc).disc
round-good = in-order-good share_of_turns share-of-turns-good slots

-- ---- every call
module _ (b : Buffers) (passes : Passes b.disc b.area) where
  k : Kernel
  k = kernel_of b.area

  abbrev Kept : Answer → Type 0
  Kept a = Passes a.disc a.area

  good : GoodState k b.disc
  unfolding k
  good = passes-good b.disc b.area passes

  -- the disc changes, the area stays
  disc-kept : (after : List ℕ) → Outside [] k b.disc k after → Passes after b.area
  unfolding k
  disc-kept after o = good-passes-as after b.area (area-length passes) (outside-good [] k b.disc k after good o)

  store_kept : (name bytes : List ℕ) → Kept (answer (other (store name bytes)) b)
  unfolding answer other_answer
  store_kept name bytes =
      store-cases b.disc name bytes (λ u. Kept (on_disc u b)) (λ r d. passes)
      (λ s l g a. disc-kept (stored b.disc name bytes s) (stores name bytes s a refl refl))

  erase-kept : (name : List ℕ) → Kept (answer (other (erase name)) b)
  unfolding answer other_answer k
  erase-kept name = subst⁻¹ Kept (on-good b _ passes) (found (lookup b.disc name) refl)
    where
      found : (f : Option ℕ) → lookup b.disc name ≡ f → Kept (erase_at f k b)
      found None e = passes
      found (Some i) e =
          tried Kept b (not (in_use k (entry_at b.disc i))) 11 _ passes λ free.
          disc-kept (erased b.disc i) (erases i (lookup-at b.disc name i e).inside (not-true _ free) refl refl)

  run-kept : (name : List ℕ) → Kept (answer (run name) b)
  unfolding answer k
  run-kept name = subst⁻¹ Kept (on-good b _ passes) (placed (starting k b.disc name) refl)
    where
      placed : (s : Starting) → starting k b.disc name ≡ s → Kept (run_at s k b)
      placed (refuses n) e = passes
      placed (starts slot f) e =
          good-passes _ _ (outside-good name k b.disc (started k slot f) b.disc good (begins slot f e refl refl))

  commanded-kept : (r : Commanded) → ((j : Kernel) → r ≡ becomes j → GoodState j b.disc) → Kept (on_good b (command_answer r b))
  commanded-kept r leaves = subst⁻¹ Kept (on-good b _ passes) (given r leaves)
    where
      given : (r : Commanded) → ((j : Kernel) → r ≡ becomes j → GoodState j b.disc) → Kept (command_answer r b)
      given (declined n) leaves = passes
      given (becomes j) leaves = good-passes j b.disc (leaves j refl)

  command-kept : (c : Command) (id : ℕ) → Kept (answer (command c id) b)
  unfolding answer k
  command-kept c id = commanded-kept (commanded c id k) (command-good good c id)

  share-kept : (id turns : ℕ) → Kept (answer (share id turns) b)
  unfolding answer k
  share-kept id turns = commanded-kept (shared id turns k) (share-good good id turns)

  list-kept : Kept (answer (other list) b)
  unfolding answer other_answer k
  list-kept = subst⁻¹ Kept (on-good b _ passes) (tried Kept b (leb (length (list_text k)) (length b.out)) 4 _ passes λ fit. passes)

  turn-kept : (slot clock : ℕ) → Kept (answer (turn slot clock) b)
  unfolding answer k
  turn-kept slot clock =
      subst⁻¹ Kept (on-good b _ passes)
      (tried Kept b (leb turn_room (length b.out)) 4 _ passes λ fit.
      tried Kept b (ltb slot slot_count && is_running (process_at k slot)) 16 _ passes λ may.
      good-passes _ _ (turn-good k slot clock b.disc good (and_right (ltb slot slot_count) _ may)))

  round-kept : (clock : ℕ) → Kept (answer (round clock) b)
  unfolding answer k
  round-kept clock =
      subst⁻¹ Kept (on-good b _ passes)
      (tried Kept b (leb round_room (length b.out)) 4 _ passes λ fit.
      good-passes _ _ (round-good k clock b.disc good))

  other-kept : (o : Other) → Kept (answer (other o) b)
  unfolding answer other_answer
  other-kept (store name bytes) = store_kept name bytes
  other-kept (retrieve name) = passes
  other-kept (erase name) = erase-kept name
  other-kept files = passes
  other-kept free_space = passes
  other-kept list = list-kept

  pub good-kept : (c : Call) → Passes (answer c b).disc (answer c b).area
  good-kept (turn slot clock) = turn-kept slot clock
  good-kept (round clock) = round-kept clock
  good-kept (command c id) = command-kept c id
  good-kept (share id turns) = share-kept id turns
  good-kept (run name) = run-kept name
  good-kept (other o) = other-kept o
