-- WAITUNTILDONE: it stays while a live process has that ID.
use Prim.Native.Nat.{ℕ, ◌+◌}
use mathlib.Core.Path.{◌≡◌, refl, subst, subst⁻¹}
use mathlib.Core.Bool.{Bool, true, false, cond}
use mathlib.Core.List.{List}
use mathlib.Core.Logic.{◌⊎◌, inl, inr}
use lib.IntN.{pos}
use Rattle.buffer.specs.Lists.{any}
use Rattle.buffer.proofs.Bools.{and_both, and_left, and_right, true-not-false}
use Rattle.buffer.proofs.Disjunctions.{any-is}
use Rattle.buffer.proofs.Kept.{any_at}
use Rattle.number.specs.Compare.{equals}
use Rattle.number.specs.Value.{number_of}
use Rattle.machine.specs.Answer.{Buffers}
use Rattle.machine.specs.AtPc.{Onward, SameDisc, process_in, stack_in}
use Rattle.machine.specs.Beyond.{answered, carries_on, is_awaited}
use Rattle.machine.specs.Effect.{Request, asks, awaits}
use Rattle.machine.specs.AtPc.{file_in}
use Rattle.machine.specs.Reaching.{Awaited, Proceeds, WaitExactly}
use Rattle.machine.specs.Refusals.{state_of}
use Rattle.machine.specs.State.{Local, is_live, no_process, process_at, with_local, with_process}
use Rattle.machine.specs.declared.Kernel.{Kernel}
use Rattle.machine.specs.declared.Process.{Process}
use Rattle.machine.proofs.Changes.Replaced.{put-at}
use Rattle.machine.proofs.Changes.Slots.{live_inside}
use Rattle.machine.proofs.Fields.Slots.{id-is, is-live, live-is}
use Rattle.machine.proofs.Reaching.Finding.{Does, at, wait-found}
use Rattle.machine.proofs.Reaching.Going.{carried_on, live}

module _ (b : Buffers) (slot clock : ℕ) where
  abbrev k : Kernel
  k = state_of b

  abbrev pc : ℕ
  pc = (process_in b slot).pc

  -- ---- a live process of that ID, in the table and in the work area
  module _ (kind : ℕ) (bytes : List ℕ) where
    abbrev test : Process → Bool
    test = is_awaited k slot b.disc (number_of kind bytes)

    awaited-at : any test k.processes ≡ true → (i : ℕ) × Awaited b slot clock kind bytes i
    awaited-at t =
        let s = any-is test no_process k.processes t in
        let p = process_at k s.place in
        let alive = live-is b.area s.place (and_left (is_live p) _ s.holds) in
        let same = subst (λ (id : ℕ). equals (number_of kind bytes) (pos id) ≡ true) (id-is b.area s.place alive.slot)
        (and_right (is_live p) _ s.holds) in
        (s.place, (alive, same))

    is-awaited : (i : ℕ) → Awaited b slot clock kind bytes i → any test k.processes ≡ true
    is-awaited i w =
        let alive = is-live b.area i w.0 in
        any_at test k.processes i no_process (live_inside k i alive)
        (and_both alive (subst⁻¹ (λ (id : ℕ). equals (number_of kind bytes) (pos id) ≡ true) (id-is b.area i w.0.slot) w.1))

  pub wait-exactly : WaitExactly b slot clock
  unfolding answered
  wait-exactly rest kind bytes a top = go (any (test kind bytes) k.processes) refl refl
    where
      stay : Local
      stay = at b slot pc (stack_in b slot)

      on : Local
      on = at b slot (pc + 1) rest

      r : Request
      r = awaits (number_of kind bytes) stay on

      does : Does b slot clock (asks r)
      does = wait-found b slot clock rest kind bytes a top

      -- with what is chosen of the two
      goes : (place : ℕ) (stack : List ℕ)
          → answered k slot b.disc r ≡ carries_on (with_process k slot (with_local (process_in b slot) (at b slot place stack))) b.disc
          → Onward b slot clock place stack (file_in b slot) × SameDisc b slot clock
      goes place stack e =
          carried_on b slot clock a.may r does _ b.disc place stack (file_in b slot) e
          (put-at k slot (with_local (process_in b slot) (at b slot place stack)) (live b slot a.may))

      go : (c : Bool) → any (test kind bytes) k.processes ≡ c
          → answered k slot b.disc r ≡ carries_on (with_process k slot (with_local (process_in b slot) (cond c stay on))) b.disc
          → (((i : ℕ) × Awaited b slot clock kind bytes i) × Onward b slot clock pc (stack_in b slot) (file_in b slot)
          × SameDisc b slot clock)
          ⊎ (((i : ℕ) → Awaited b slot clock kind bytes i → ⊥) × Proceeds b slot clock rest)
      go true t e = let g = goes pc (stack_in b slot) e in inl (awaited-at kind bytes t, g.0, g.1)
      go false t e = inr (λ i w. true-not-false (is-awaited kind bytes i w) t, goes (pc + 1) rest e)
