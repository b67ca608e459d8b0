-- OPEN of a file, of a new one and of one that is refused; CLOSE.
use Rattle.std.specs.Prelude.{Ok, Err, Result}
use Rattle.std.specs.Prelude.{None, Option, Some}
use Prim.Native.Nat.{ℕ, ◌+◌}
use mathlib.Core.Path.{◌≡◌, refl, ap, subst⁻¹, ◌∙◌}
use mathlib.Core.List.{List}
use mathlib.Core.Logic.{◌⊎◌, inl, inr}
use Rattle.buffer.specs.Buffer.{zeros}
use Rattle.number.specs.Value.{number_of}
use Rattle.number.specs.declared.Number.{Number}
use Rattle.place.specs.Place.{run_from}
use Rattle.place.specs.declared.Run.{Run}
use Rattle.disc.specs.Directory.{entry_at, lookup, run_of}
use Rattle.disc.specs.Offsets.{size_of, start_of}
use Rattle.disc.proofs.Offsets.{entry-size, entry-start}
use Rattle.store.specs.File.{admission, stored}
use Rattle.store.specs.declared.Refusal.{Refusal}
use Rattle.store.proofs.Admissions.{admitted, zeros-admitted}
use Rattle.store.proofs.Rooms.{placed-shortest}
use Rattle.machine.specs.Answer.{Buffers}
use Rattle.machine.specs.AtPc.{process_in, stack_in}
use Rattle.machine.specs.Beyond.{answered, continues, created, created_at, new_file_size, opened, opened_at}
use Rattle.machine.specs.Changed.{Enters}
use Rattle.machine.specs.Effect.{Request, asks, closes, opens}
use Rattle.machine.specs.NoPlace.{NewFileRefused, by_size}
use Rattle.machine.specs.AtPc.{file_in}
use Rattle.machine.specs.Reaching.{CloseExactly, Creates, Faults, OpenExactly, Opens}
use Rattle.machine.specs.Fields.{NoFile}
use Rattle.machine.specs.Refusals.{state_of}
use Rattle.machine.specs.State.{Local, with_local, with_process}
use Rattle.machine.specs.declared.Kernel.{Kernel}
use Rattle.machine.specs.declared.Process.{Process}
use Rattle.machine.proofs.Changes.Change.{GoodState}
use Rattle.machine.proofs.Changes.Replaced.{put-at}
use Rattle.machine.proofs.Demands.GoodCalls.{passes-good}
use Rattle.machine.proofs.Demands.Openings.{new-file-refused}
use Rattle.machine.proofs.Done.Entering.{stored-enters}
use Rattle.machine.proofs.Fields.Files.{lookup-named, lookup-no-file}
use Rattle.machine.proofs.Fields.Names.{good-is-name}
use Rattle.machine.proofs.Reaching.Finding.{Does, at, close-found, open-found}
use Rattle.machine.proofs.Reaching.Going.{broken-by, carried_on, continued, live}

module _ (b : Buffers) (slot clock : ℕ) where
  abbrev k : Kernel
  k = state_of b

  abbrev pc : ℕ
  pc = (process_in b slot).pc + 1

  pub close-exactly : CloseExactly b slot clock
  unfolding answered
  close-exactly a =
      let q : Process = with_local (process_in b slot) (at b slot pc (stack_in b slot)) in
      carried_on b slot clock a.may (closes (at b slot pc (stack_in b slot))) (close-found b slot clock a) (with_process k slot q)
      b.disc pc (stack_in b slot) (file_in b slot) refl (put-at k slot q (live b slot a.may))

  abbrev NewFile : List ℕ → List ℕ → Number → Type 0
  NewFile rest text size =
      (NewFileRefused b.disc text (new_file_size b.disc size) × Faults b slot clock 13)
      ⊎ ((n : ℕ) × (new_file_size b.disc size ≡ Some n) × Creates b slot clock rest text n)

  pub open-exactly : OpenExactly b slot clock
  unfolding answered
  open-exactly below rest text kind bytes a number name = found (lookup b.disc text) refl
    where
      size : Number
      size = number_of kind bytes

      l : Local
      l = at b slot pc rest

      r : Request
      r = opens text size l

      does : Does b slot clock (asks r)
      does = open-found b slot clock below rest text kind bytes a number name

      good : GoodState k b.disc
      good = passes-good b.disc b.area a.may.passes

      admit : lookup b.disc text ≡ None → (n : ℕ) → new_file_size b.disc size ≡ Some n → (v : Result ℕ Refusal)
          → admission b.disc text n ≡ v
          → answered k slot b.disc r ≡ created_at k slot b.disc v text n l → NewFile rest text size
      admit new n fit (Err w) e h =
          inl (new-file-refused b.disc text good.long good.sound size n fit new w e, broken-by b slot clock a.may r does 13 h)
      admit new n fit (Ok s) e h =
          let d = admitted b.disc text n s e in
          let on = continued b slot clock a.may r does pc rest (opened (run_from s n)) (stored b.disc text (zeros n) s) h in
          let enters = subst⁻¹ (λ (after : List ℕ). Enters b.disc after text (zeros n) s) on.1
          (stored-enters (zeros n) good.sound (zeros-admitted d)) in
          let placed = placed-shortest b.disc n s d.some d.found in
          inr (n, fit, (good-is-name text d.good, d.few, (s, placed, on.0, enters)))

      sized : lookup b.disc text ≡ None → (s : Option ℕ) → new_file_size b.disc size ≡ s
          → answered k slot b.disc r ≡ created k slot b.disc s text l → NewFile rest text size
      sized new None e h = inl (by_size e, broken-by b slot clock a.may r does 13 h)
      sized new (Some n) e h = admit new n e (admission b.disc text n) refl h

      found : (f : Option ℕ) → lookup b.disc text ≡ f → Opens b slot clock rest text ⊎ (NoFile b.disc text × NewFile rest text size)
      found (Some i) e =
          let run : run_of (entry_at b.disc i) ≡ run_from (start_of b.disc i) (size_of b.disc i) =
          λ z. run_from (entry-start b.disc i z) (entry-size b.disc i z) in
          let on = continued b slot clock a.may r does pc rest (opened (run_from (start_of b.disc i) (size_of b.disc i))) b.disc
          (ap (λ (f : Option ℕ). opened_at k slot b.disc f text size l) e
          ∙ ap (λ (w : Run). continues k slot b.disc l (opened w) b.disc) run) in
          inl (i, lookup-named b.disc text i e, on.0, on.1)
      found None e = inr (
        lookup-no-file b.disc good.long good.sound text e,
        sized e (new_file_size b.disc size) refl (ap (λ (f : Option ℕ). opened_at k slot b.disc f text size l) e),
      )
