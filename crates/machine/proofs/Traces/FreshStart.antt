-- A process that is started follows a fresh single process.
use Rattle.std.specs.Prelude.{None, Option, Some}
use Prim.Native.Nat.{ℕ}
use mathlib.Core.Path.{◌≡◌, refl, sym, ap, subst⁻¹, ◌∙◌}
use mathlib.Core.Bool.{true, ◌&&◌, not}
use mathlib.Core.List.{List}
use mathlib.Core.Logic.{◌⊎◌, inl, inr}
use Rattle.buffer.proofs.Bools.{true-not-false}
use Rattle.variable.specs.Table.{owned}
use Rattle.machine.specs.Answer.{Answer, answer}
use Rattle.machine.specs.Area.{kernel_of}
use Rattle.machine.specs.Isolation.{contents_at, file_named, gives_out, is_live_in, start_name}
use Rattle.machine.specs.Observation.{place_in}
use Rattle.machine.specs.Refusals.{Passes}
use Rattle.machine.specs.Single.{fresh}
use Rattle.machine.specs.State.{is_live, slot_of}
use Rattle.machine.specs.Trace.{Event, Storage, lending, storage_of}
use Rattle.machine.specs.Turn.{program_of}
use Rattle.machine.specs.declared.Kernel.{Kernel}
use Rattle.machine.specs.declared.Process.{Process}
use Rattle.machine.proofs.Kept.Begun.{Begun}
use Rattle.machine.proofs.Traces.CallEffects.{call-effects, effects-begun}
use Rattle.machine.proofs.Kept.ChangeKept.{no_place}
use Rattle.machine.proofs.Traces.Following.{Follows, Holds, Tracks, on}
use Rattle.machine.proofs.Demands.GoodCalls.{passes-good}
use Rattle.machine.proofs.Changes.Slots.{place-is-slot}
use Rattle.machine.proofs.Traces.Chains.{Genuine}

pub given_is : (i : ℕ) (e : Event) → gives_out i e ≡ true → (place_in e.before i ≡ None) × (place_in e.after i ≡ None → ⊥)
unfolding gives_out
given_is i e h = go (place_in e.before i) refl (place_in e.after i) refl h
  where
    go : (f : Option ℕ) → place_in e.before i ≡ f → (g : Option ℕ) → place_in e.after i ≡ g → not (is_live_in f) && is_live_in g ≡ true
        → (place_in e.before i ≡ None) × (place_in e.after i ≡ None → ⊥)
    go None p (Some s) q t = (p, λ n. no_place (sym q ∙ n))
    go None p None q t = absurd (true-not-false t refl)
    go (Some s) p g q t = absurd (true-not-false t refl)

-- "Start: running, no loop, no variables, the rest 0."
begun-follows : (name : List ℕ) (i : ℕ) (disc : List ℕ) (j : Kernel) (after prog : List ℕ) → Begun name i disc j after
    → file_named disc name ≡ prog → Follows i prog j after fresh
begun-follows name i disc j after prog b program =
    record {
      slot = b.slot;
      live = ap is_live b.process;
      named = ap (λ (p : Process). p.id) b.process;
      runs = (λ z. program_of (b.same-disc z) (b.process z)) ∙ ap (λ (f : Option ℕ). contents_at f disc) (sym b.found) ∙ program;
      holds = subst⁻¹ (λ (p : Process). Holds p (owned j.variables i) fresh) b.process
          (record { sp = refl; stack = refl; pc = refl; loop = refl; state = refl; fault = refl; cells = b.variables });
    }

pub begins : (i : ℕ) (prog : List ℕ) (e : Event) → Genuine e → Passes e.before.disc e.before.area → gives_out i e ≡ true
    → file_named e.before.disc (start_name e.call e.before) ≡ prog
    → Tracks i prog (kernel_of e.after.area) e.after.disc fresh
begins i prog e g passes gives program =
    subst⁻¹ (λ (f : Event). Tracks i prog (kernel_of f.after.area) f.after.disc fresh) g.same
    (go (effects-begun (passes-good s.disc s.area passes) i e.call (sym (place-is-slot s i)
    ∙ known.0) (call-effects s g.out passes e.call g.reports.single)))
  where
    s : Storage
    s = e.before

    a : Answer
    a = answer e.call (lending s g.out)

    known : (place_in e.before i ≡ None) × (place_in e.after i ≡ None → ⊥)
    known = given_is i e gives

    go : (slot_of (kernel_of a.area) i ≡ None) ⊎ Begun (start_name e.call s) i s.disc (kernel_of a.area) a.disc
        → Tracks i prog (kernel_of a.area) a.disc fresh
    go (inl absent) = absurd
        (known.1 (subst⁻¹ (λ (f : Event). place_in f.after i ≡ None) g.same (place-is-slot (storage_of a) i ∙ absent)))
    go (inr b) = on (begun-follows (start_name e.call s) i s.disc (kernel_of a.area) a.disc prog b program)
