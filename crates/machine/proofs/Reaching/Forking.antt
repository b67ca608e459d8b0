-- FORK: a start in the lowest ended slot and its ID on the stack, or INT 0 where run would refuse.
use Rattle.std.specs.Prelude.{None, Option, Some}
use Prim.Native.Nat.{ℕ, ◌+◌, ◌/◌, ◌%◌}
use mathlib.Core.Path.{◌≡◌, refl, sym, ap, subst, ◌∙◌}
use mathlib.Core.Bool.{Bool, true, false}
use mathlib.Core.List.{List, [], ◌∷◌, ◌++◌, append_assoc}
use mathlib.Core.Logic.{◌⊎◌, inl, inr}
use lib.Dec.{eqb}
use borrow.Author.Tests.{eqb-true}
use Rattle.buffer.proofs.Bools.{true-not-false}
use Rattle.disc.specs.Directory.{entry_at, lookup}
use Rattle.disc.specs.declared.Entry.{Entry}
use Rattle.machine.specs.Answer.{Buffers}
use Rattle.machine.specs.AtPc.{Onward, SameDisc, process_in, state_after}
use Rattle.machine.specs.Beyond.{answered, carries_on, forked, push_id}
use Rattle.machine.specs.Changed.{CannotStart, Starts}
use Rattle.machine.specs.Effect.{asks, forks}
use Rattle.machine.specs.Fields.{next_id}
use Rattle.machine.specs.Limits.{id_limit}
use Rattle.machine.specs.AtPc.{file_in}
use Rattle.machine.specs.Reaching.{ForkExactly, Proceeds}
use Rattle.machine.specs.Refusals.{MayTurn, state_of}
use Rattle.machine.specs.Start.{Starting, starts, refuses, started, starting}
use Rattle.machine.specs.State.{Local, ended_slot, is_live, process_at, with_local, with_process}
use Rattle.machine.specs.declared.Kernel.{Kernel}
use Rattle.machine.specs.declared.Process.{Process}
use Rattle.machine.proofs.Changes.Replaced.{put-at, put_other}
use Rattle.machine.proofs.Demands.GoodCalls.{passes-good}
use Rattle.machine.proofs.Done.Starting.{starting-starts}
use Rattle.machine.proofs.Fields.Files.{lookup-no-file}
use Rattle.machine.proofs.Fields.Slots.{next-is, no-ended-slot}
use Rattle.machine.proofs.Kept.Begins.{Begins, started-new, started-spares, starting-begins}
use Rattle.machine.proofs.Reaching.Finding.{Does, at, fork-found}
use Rattle.machine.proofs.Reaching.Going.{answers, carried_on, live, state-left}

module _ (b : Buffers) (slot clock : ℕ) where
  abbrev k : Kernel
  k = state_of b

  abbrev pc : ℕ
  pc = (process_in b slot).pc + 1

  -- that ID on the stack
  abbrev with_id : List ℕ → ℕ → List ℕ
  with_id rest id = rest ++ (id / 256 ∷ id % 256 ∷ 2 ∷ [])

  module _ (rest text : List ℕ) (may : MayTurn b slot) (does : Does b slot clock (asks (forks text (at b slot pc rest)))) where
    abbrev l : Local
    l = at b slot pc rest

    abbrev after : ℕ → Process
    after id = with_local (process_in b slot) (push_id l id)

    -- the own process goes on with that ID, in a table where it is live
    proceeds : (id : ℕ) (j : Kernel) → is_live (process_at j slot) ≡ true
        → answered k slot b.disc (forks text l) ≡ carries_on (with_process j slot (after id)) b.disc
        → Proceeds b slot clock (with_id rest id)
    proceeds id j alive e =
        subst (λ (s : List ℕ). Onward b slot clock pc s (file_in b slot) × SameDisc b slot clock)
        (append_assoc rest (id / 256 ∷ id % 256 ∷ []) (2 ∷ []))
        (carried_on b slot clock may (forks text l) does (with_process j slot (after id)) b.disc pc
        (rest ++ (id / 256 ∷ id % 256 ∷ []) ++ (2 ∷ [])) (file_in b slot) e (put-at j slot (after id) alive))

    refused : (n : ℕ) → starting k b.disc text ≡ refuses n → Proceeds b slot clock (with_id rest 0)
    unfolding answered
    refused n e = proceeds 0 k (live b slot may) (ap (λ (s : Starting). forked k slot b.disc s l) e)

    begun : (child i : ℕ) → ended_slot k ≡ Some child → lookup b.disc text ≡ Some i → eqb k.next id_limit ≡ false
        → ((child : ℕ) × Starts b.disc b.area text child (state_after b slot clock))
        × Proceeds b slot clock (with_id rest (next_id b.area))
    unfolding answered starting
    begun child i ended file left = (
      (
        child,
        starting-starts may.passes text child entry (state_after b slot clock) starts-it (ap (λ (j : Kernel). j.next) state)
            (ap (λ (j : Kernel). process_at j child) state
            ∙ put_other (started k child entry) slot (after k.next) child other
            ∙ started-new facts),
      ),
      subst (λ (n : ℕ). Proceeds b slot clock (with_id rest n)) (next-is b.area)
          (proceeds k.next (started k child entry) (ap is_live (started-spares facts slot (live b slot may))
          ∙ live b slot may) does-it),
    )
      where
        entry : Entry
        entry = entry_at b.disc i

        starts-it : starting k b.disc text ≡ starts child entry
        starts-it = rw (ended, file, left)

        facts : Begins text k b.disc child entry
        facts = starting-begins text k b.disc child entry starts-it

        does-it : answered k slot b.disc (forks text l)
            ≡ carries_on (with_process (started k child entry) slot (after k.next)) b.disc
        does-it = ap (λ (s : Starting). forked k slot b.disc s l) starts-it

        state : state_after b slot clock ≡ with_process (started k child entry) slot (after k.next)
        state = state-left b slot clock may _ (answers b slot clock may (forks text l) does _ does-it)

        other : child ≡ slot → ⊥
        other same = true-not-false (live b slot may) (subst (λ (x : ℕ). is_live (process_at k x) ≡ false) same facts.free)

  pub fork-exactly : ForkExactly b slot clock
  unfolding starting
  fork-exactly rest text a name =
      go (ended_slot k) refl (lookup b.disc text) refl (eqb k.next id_limit) refl
    where
      does : Does b slot clock (asks (forks text (at b slot pc rest)))
      does = fork-found b slot clock rest text a name

      go : (x : Option ℕ) → ended_slot k ≡ x → (y : Option ℕ) → lookup b.disc text ≡ y → (z : Bool) → eqb k.next id_limit ≡ z
          → (CannotStart b.disc b.area text × Proceeds b slot clock (with_id rest 0))
          ⊎ (((child : ℕ) × Starts b.disc b.area text child (state_after b slot clock))
          × Proceeds b slot clock (with_id rest (next_id b.area)))
      go None ended y file z spent =
          inl (inl (no-ended-slot a.may.passes ended), refused rest text a.may does 12 (rw ended))
      go (Some child) ended None file z spent =
          let good = passes-good b.disc b.area a.may.passes in
          inl (
            inr (inl (lookup-no-file b.disc good.long good.sound text file)),
            refused rest text a.may does 10 (rw (ended, file)),
          )
      go (Some child) ended (Some i) file true spent =
          inl (
            inr (inr (sym (next-is b.area) ∙ eqb-true k.next id_limit spent)),
            refused rest text a.may does 13 (rw (ended, file, spent)),
          )
      go (Some child) ended (Some i) file false spent = inr (begun rest text a.may does child i ended file spent)
