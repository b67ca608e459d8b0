-- Suspend, resume, kill and share as what the process of that ID does.
use Rattle.std.specs.Prelude.{None, Option, Some}
use Prim.Native.Nat.{ℕ, ◌≤◌, ◌<◌}
use mathlib.Core.Path.{◌≡◌, refl, sym, subst, subst⁻¹}
use mathlib.Core.Bool.{Bool, true, false, cond, ◌&&◌}
use mathlib.Core.List.{List}
use native.Mathlib.Omega.{arith}
use lib.Dec.{eqb, leb}
use borrow.Author.Tests.{leb-true}
use Rattle.store.specs.File.{unless}
use Rattle.machine.specs.Operations.{Command, Commanded, becomes, refused, suspend, resume, kill, changed, command_at, commanded}
use Rattle.machine.specs.Operations.{share_at, shared}
use Rattle.machine.specs.Limits.{max_share}
use Rattle.machine.specs.Ended.{ended}
use Rattle.machine.specs.State.{is_live, paused, process_at, running, slot_of, with_process, with_share, with_state}
use Rattle.machine.specs.declared.Kernel.{Kernel}
use Rattle.machine.specs.declared.Process.{Process}
use Rattle.machine.proofs.Changes.Change.{GoodState, GoesOn, Own, moves, ends}
use Rattle.machine.proofs.Changes.Directories.{live-record}
use Rattle.machine.proofs.Changes.Slots.{live_inside, slot_at}
use Rattle.machine.proofs.Kept.OwnKept.{own-good}
use Rattle.buffer.proofs.Bools.{and_left, and_right}

-- Document 01: "14 no live process of that ID"
command-nowhere : (k j : Kernel) (c : Command) (id : ℕ) → slot_of k id ≡ None → commanded c id k ≡ becomes j → ⊥
unfolding commanded
command-nowhere k j c id e h =
    let no : ◌≡◌ {A = Commanded} (refused 14) (becomes j) = subst (λ (f : Option ℕ). command_at f c k ≡ becomes j) e h in
    absurd (let z : ◌≡◌ {A = ℕ} 0 1 = cc in omega arith)

module _ {k : Kernel} {disc : List ℕ} (good : GoodState k disc) (slot : ℕ) (live : is_live (process_at k slot) ≡ true) where
  abbrev p : Process
  p = process_at k slot

  -- with another state and another share, a good area asks the same of the rest of a record
  with-both : (state share : ℕ) → is_live (with_state p state) ≡ true → share ≤ max_share
      → GoesOn disc p (with_share (with_state p state) share)
  with-both state share h few =
      let g = live-record good slot live in
      record {
        before = live;
        live = h;
        name = refl;
        id = refl;
        code = refl;
        registers = record { share = few; sp = g.registers.sp; pc = g.registers.pc; loop = g.registers.loop };
        file = g.file;
        stack = (good.sized.each slot (subst (λ (n : ℕ). slot < n) good.sized.processes (live_inside k slot live))).stack;
      }

  -- Document 02, Q-9: "A new operation sets it by ID."
  share-own : (turns : ℕ) → turns ≤ max_share → Own slot k disc (with_process k slot (with_share p turns))
  share-own turns few = moves (with_share p turns) (with-both p.state turns live few) refl

  -- Document 01: "15 already in that state"
  becomes-state : (state : ℕ) → is_live (with_state (process_at k slot) state) ≡ true → (j : Kernel) → changed k slot state ≡ becomes j
      → Own slot k disc j
  becomes-state state h j = go (eqb (process_at k slot).state state)
    where
      go : (already : Bool) → cond already (refused 15) (becomes (with_process k slot (with_state (process_at k slot) state))) ≡ becomes j
          → Own slot k disc j
      go true e = absurd (let z : ◌≡◌ {A = ℕ} 0 1 = cc in omega arith)
      go false e = let q : with_process k slot (with_state (process_at k slot) state) ≡ j = cc in
          moves (with_state p state) (with-both state p.share h (live-record good slot live).registers.share) (sym q)

  command-at : (c : Command) (j : Kernel) → command_at (Some slot) c k ≡ becomes j → Own slot k disc j
  command-at suspend j e = becomes-state paused refl j e
  command-at resume j e = becomes-state running refl j e
  command-at kill j e = let q : ended k slot 0 ≡ j = cc in ends 0 live (sym q)

pub command-own : {k : Kernel} {disc : List ℕ} → GoodState k disc → (c : Command) (id : ℕ) (j : Kernel) → commanded c id k ≡ becomes j
    → (slot : ℕ) × (slot_of k id ≡ Some slot) × Own slot k disc j
unfolding commanded
command-own {k} {disc} good c id j h = go (slot_of k id) refl
  where
    go : (f : Option ℕ) → slot_of k id ≡ f → (slot : ℕ) × (slot_of k id ≡ Some slot) × Own slot k disc j
    go None e = absurd (command-nowhere k j c id e h)
    go (Some slot) e = (
      slot,
      e,
      command-at good slot (slot_at k id slot e).1 c j (subst (λ (f : Option ℕ). command_at f c k
          ≡ becomes j) e h),
    )

-- ---- share
-- the slot that the ID has, and the state with its new share
pub record Shares (k : Kernel) (id turns : ℕ) (j : Kernel) : Type 0 where
  pub slot : ℕ
  pub found : slot_of k id ≡ Some slot
  pub some : 1 ≤ turns
  pub few : turns ≤ max_share
  pub after : j ≡ with_process k slot (with_share (process_at k slot) turns)

pub share-is : (k : Kernel) (id turns : ℕ) (j : Kernel) → shared id turns k ≡ becomes j → Shares k id turns j
unfolding shared
share-is k id turns j h = go (slot_of k id) refl h
  where
    not-refused : (n : ℕ) → ◌≡◌ {A = Commanded} (refused n) (becomes j) → ⊥
    not-refused n e = absurd (let z : ◌≡◌ {A = ℕ} 0 1 = cc in omega arith)

    at : (slot : ℕ) → slot_of k id ≡ Some slot → (f : Bool) → leb 1 turns && leb turns max_share ≡ f
        → unless f (refused 22) (becomes (with_process k slot (with_share (process_at k slot) turns))) ≡ becomes j
        → Shares k id turns j
    at slot e true f q =
        let same : with_process k slot (with_share (process_at k slot) turns) ≡ j = cc in
        record {
          slot = slot;
          found = e;
          some = leb-true _ _ (and_left (leb 1 turns) _ f);
          few = leb-true _ _ (and_right (leb 1 turns) _ f);
          after = sym same;
        }
    at slot e false f q = absurd (not-refused 22 q)

    go : (f : Option ℕ) → slot_of k id ≡ f → share_at f turns k ≡ becomes j → Shares k id turns j
    go None e q = absurd (not-refused 14 q)
    go (Some slot) e q = at slot e (leb 1 turns && leb turns max_share) refl q

pub command-good : {k : Kernel} {disc : List ℕ} → GoodState k disc → (c : Command) (id : ℕ) (j : Kernel) → commanded c id k ≡ becomes j
    → GoodState j disc
command-good {k} {disc} good c id j e = let o = command-own good c id j e in own-good o.0 k disc j good o.2

-- a share set is what its process does
pub shares-own : {k : Kernel} {disc : List ℕ} → GoodState k disc → {id turns : ℕ} {j : Kernel} (x : Shares k id turns j)
    → Own x.slot k disc j
shares-own {k} {disc} good {id} {turns} x =
    subst⁻¹ (Own x.slot k disc) x.after (share-own good x.slot (slot_at k id x.slot x.found).1 turns x.few)

pub share-good : {k : Kernel} {disc : List ℕ} → GoodState k disc → (id turns : ℕ) (j : Kernel) → shared id turns k ≡ becomes j
    → GoodState j disc
share-good {k} {disc} good id turns j e =
    let x = share-is k id turns j e in
    own-good x.slot k disc j good (shares-own good x)
