-- Isolation: along every run, what is observed of a process is what the single process shows.
use Prim.Native.Nat.{ℕ}
use mathlib.Core.Path.{◌≡◌, refl, sym, ap, subst, subst⁻¹, ◌∙◌}
use mathlib.Core.Bool.{false, not}
use mathlib.Core.List.{List, [], ◌∷◌, ◌++◌}
use Rattle.std.specs.Prelude.{None, Option, Some}
use borrow.Author.Tests.{not-true}
use Rattle.buffer.specs.Lists.{all, cons_if, keep}
use Rattle.buffer.proofs.Bools.{and_left, and_right, true-not-false}
use Rattle.machine.specs.Area.{kernel_of}
use Rattle.machine.specs.Isolation.{AsSingle, Isolation, Started}
use Rattle.machine.specs.Suppositions.{Undisturbed, disturbed_by}
use Rattle.machine.specs.Observation.{Observation, declined, seen, Watched, input_of, inputs, is_seen, next, not_refused, observations}
use Rattle.machine.specs.Observation.{observed_by, observed_of, place_in, single_run, watch, watched_if}
use Rattle.machine.specs.Refusals.{Passes}
use Rattle.machine.specs.Single.{Input, Response, did, refused_by, Single, fresh, single}
use Rattle.machine.specs.Trace.{Event, Invocation, Storage, events}
use Rattle.machine.specs.declared.Kernel.{Kernel}
use Rattle.machine.proofs.Traces.Following.{Tracks}
use Rattle.machine.proofs.Traces.Stepping.{Keeps, step}
use Rattle.machine.proofs.Traces.Chains.{Chain, Genuine}
use Rattle.machine.proofs.Traces.FreshStart.{begins}
use Rattle.machine.proofs.Traces.AnyBuffers.{Linked, from_start, linked_of}

-- ---- one run: what is observed along a chain is what the single process shows
genuine-step : (i : ℕ) (prog : List ℕ) (q : Single) (e : Event) → Genuine e → Passes e.before.disc e.before.area
    → Tracks i prog (kernel_of e.before.area) e.before.disc q
    → disturbed_by i e.call e ≡ false → Keeps i prog q e (input_of i e.call (place_in e.before i))
genuine-step i prog q e g passes t h =
    subst⁻¹ (λ (f : Event). Keeps i prog q f (input_of i e.call (place_in e.before i))) g.same
    (step i prog e.before g.out q passes e.call e.text g.reports t
    (subst (λ (f : Event). disturbed_by i e.call f ≡ false) g.same h))

follow : (i : ℕ) (prog : List ℕ) (k : Kernel) (disc : List ℕ) (q : Single) (es : List Event) → Chain k disc es → Tracks i prog k disc q
    → Undisturbed i es
    → observations (watch i es) ≡ single_run prog q (inputs (watch i es))
unfolding Chain watch single_run all
follow i prog k disc q [] c t h = refl
follow i prog k disc q (e ∷ es) c t h =
    pick (input_of i e.call (place_in e.before i))
    (genuine-step i prog q e c.3 c.2
    (subst⁻¹ (λ (j : Kernel). Tracks i prog j e.before.disc q) c.0 (subst⁻¹ (λ (d : List ℕ). Tracks i prog k d q) c.1 t))
    (not-true _ (and_left (not (disturbed_by i e.call e)) _ h)))
    (λ r u. follow i prog (kernel_of e.after.area) e.after.disc r es c.4 u (and_right (not (disturbed_by i e.call e)) _ h))
  where
    o : Observation
    o = observed_by e.number e i

    rest : List Watched
    rest = watch i es

    pick : (x : Option Input) → Keeps i prog q e x
        → ((r : Single) → Tracks i prog (kernel_of e.after.area) e.after.disc r → observations rest ≡ single_run prog r (inputs rest))
        → observations (watched_if x o rest) ≡ single_run prog q (inputs (watched_if x o rest))
    pick None keeps later = later q keeps
    pick (Some x) keeps later = λ z. keeps.0 z ∷ later (next (single prog q x) q) keeps.1 z

-- ---- what is refused changes nothing, so the single process may be fed what is not refused
only-done : (prog : List ℕ) (q : Single) (l : List Watched) → observations l ≡ single_run prog q (inputs l)
    → observations (not_refused l) ≡ single_run prog q (inputs (not_refused l))
unfolding single_run keep
only-done prog q [] e = refl
only-done prog q (w ∷ l) e =
    pick w.observation refl (single prog q w.input) refl (ap head_of e)
    (only-done prog (next (single prog q w.input) q) l (ap tail_of e))
  where
    head_of : List Observation → Observation
    head_of [] = w.observation
    head_of (o ∷ r) = o

    tail_of : List Observation → List Observation
    tail_of [] = []
    tail_of (o ∷ r) = r

    pick : (o : Observation) → w.observation ≡ o → (r : Response) → single prog q w.input ≡ r
        → w.observation ≡ observed_of (single prog q w.input)
        → observations (not_refused l) ≡ single_run prog (next (single prog q w.input) q) (inputs (not_refused l))
        → observations (cons_if (is_seen o) w (not_refused l)) ≡ single_run prog q (inputs (cons_if (is_seen o) w (not_refused l)))
    pick (seen x) d r f h rest = λ z. h z ∷ rest z
    pick (declined n) d (refused_by m) f h rest =
        subst (λ (s : Single). observations (not_refused l) ≡ single_run prog s (inputs (not_refused l)))
        (ap (λ (r : Response). next r q) f) rest
    pick (declined n) d (did text s) f h rest = absurd (true-not-false refl (ap is_seen (sym (ap observed_of f) ∙ sym h ∙ d)))

-- a prefix of the events
chain-prefix : (k : Kernel) (disc : List ℕ) (es later : List Event) → Chain k disc (es ++ later) → Chain k disc es
unfolding Chain
chain-prefix k disc [] later c = tt
chain-prefix k disc (e ∷ es) later c = (c.0, c.1, c.2, c.3, chain-prefix (kernel_of e.after.area) e.after.disc es later c.4)

-- ---- one run, and two
pub one-run : (s : Storage) (calls : List Invocation) (i : ℕ) (prog : List ℕ) (rest : List Event) → Started i prog (events calls s) rest
    → Undisturbed i rest → AsSingle prog (watch i rest)
unfolding Chain
one-run s calls i prog rest x h =
    let e : Event = x.start in
    let c = from_start i x.earlier e (rest ++ x.later) x.gives (subst Linked x.splits (linked_of calls s)) in
    follow i prog (kernel_of e.after.area) e.after.disc fresh rest
    (chain-prefix (kernel_of e.after.area) e.after.disc rest x.later c.4)
    (begins i prog e c.3 c.2 x.gives x.program) h

pub isolated : Isolation
unfolding Isolation
isolated s₁ s₂ calls₁ calls₂ i₁ i₂ prog rest₁ rest₂ x₁ x₂ h₁ h₂ same =
    let p = one-run s₁ calls₁ i₁ prog rest₁ x₁ h₁ in
    let q = one-run s₂ calls₂ i₂ prog rest₂ x₂ h₂ in
    let d = only-done prog fresh (watch i₁ rest₁) p in
    let e = only-done prog fresh (watch i₂ rest₂) q in
    (d ∙ ap (single_run prog fresh) same ∙ sym e, d, e, p, q)
