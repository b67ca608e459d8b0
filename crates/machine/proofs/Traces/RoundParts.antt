-- The turns of a done round as events: where they lead, what they print, and what they return.
use Prim.Native.Nat.{ℕ, zero, suc, ◌+◌}
use mathlib.Core.Path.{◌≡◌, refl, sym, ap, subst, subst⁻¹, ◌∙◌}
use mathlib.Core.Bool.{Bool, true, false, cond}
use mathlib.Core.List.{List, [], ◌∷◌, ◌++◌, append_assoc, append-nil}
use native.Mathlib.Nat.{zero-add}
use native.Mathlib.Omega.{arith}
use lib.Dec.{ltb}
use lib.IntN.{pos}
use lib.ListN.{drop, length, replicate, take, length-append}
use lib.Seq.{drop_at, take_at}
use Rattle.buffer.specs.Lists.{all, cons_if, flat}
use Rattle.buffer.proofs.Bools.{and_both, and_left, and_right}
use Rattle.machine.specs.Answer.{Answer, Buffers, turn, answer, refused}
use Rattle.machine.specs.Area.{Whole, kernel_bytes, kernel_of}
use Rattle.machine.specs.Limits.{slot_count, turn_room}
use Rattle.machine.specs.Operations.{in_order, share_of_turns, turn_if_running, turns_due, turns_in_row}
use Rattle.machine.specs.Refusals.{Passes}
use Rattle.machine.specs.State.{is_running, process_at}
use Rattle.machine.specs.Trace.{Event, PrintsItsPart, Storage, counts, event, last_storage, lending, storage_of, output_text, total}
use Rattle.machine.specs.Trace.{at_least_one, share_events, turn_events}
use Rattle.machine.specs.Turn.{Turned, turned}
use Rattle.machine.specs.declared.Kernel.{Kernel}
use Rattle.machine.proofs.Demands.GoodCalls.{good-back, good-kept, passes-good, turn-good}
use Rattle.machine.proofs.Demands.Lengths.{due}
use Rattle.machine.proofs.Demands.Rounds.{turn-not-running, turn-running}
use Rattle.machine.proofs.Traces.Chains.{Leads}

-- ---- the turns of a round
-- the call `turn` of a slot, lent 32 bytes, where the slot may be running or not
record Taken (s : Storage) (slot clock : ℕ) (a : Answer) (t : Turned) : Type 0 where
  kernel : kernel_of a.area ≡ t.kernel
  disc : a.disc ≡ t.disc
  count : counts a.number ≡ length t.out
  text : output_text a ≡ t.out

abbrev lent : Storage → Buffers
lent s = lending s (replicate turn_room 0)

taken : (s : Storage) (slot clock : ℕ) → ltb slot slot_count ≡ true → Passes s.disc s.area
    → Taken s slot clock (answer (turn slot clock) (lent s)) (turn_if_running (kernel_of s.area) slot clock s.disc)
unfolding turn_if_running
taken s slot clock low passes = go (is_running (process_at k slot)) refl
  where
    k : Kernel
    k = kernel_of s.area

    t : Turned
    t = turned k slot clock s.disc

    go : (f : Bool) → is_running (process_at k slot) ≡ f
        → Taken s slot clock (answer (turn slot clock) (lent s)) (cond f t (record { kernel = k; disc = s.disc; out = [] }))
    go true h =
        subst⁻¹ (λ (a : Answer). Taken s slot clock a t) (turn-running (lent s) slot clock passes refl low h)
        (record {
          kernel = good-back t.kernel t.disc (turn-good k slot clock s.disc (passes-good s.disc s.area passes) h);
          disc = refl;
          count = refl;
          text = take_at t.out _ (length t.out) refl;
        })
    go false h =
        subst⁻¹ (λ (a : Answer). Taken s slot clock a (record { kernel = k; disc = s.disc; out = [] }))
        (turn-not-running (lent s) slot clock passes refl low h)
        (record { kernel = refl; disc = refl; count = refl; text = refl })

whole-kept : (s : Storage) (slot clock : ℕ) → ltb slot slot_count ≡ true → Passes s.disc s.area → Whole s.area
    → Whole (answer (turn slot clock) (lent s)).area
whole-kept s slot clock low passes whole = go (is_running (process_at k slot)) refl
  where
    k : Kernel
    k = kernel_of s.area

    go : (f : Bool) → is_running (process_at k slot) ≡ f → Whole (answer (turn slot clock) (lent s)).area
    go true h =
        let t : Turned = turned k slot clock s.disc in
        subst⁻¹ (λ (a : Answer). Whole a.area) (turn-running (lent s) slot clock passes refl low h)
        (ap kernel_bytes (good-back t.kernel t.disc (turn-good k slot clock s.disc (passes-good s.disc s.area passes) h)))
    go false h = subst⁻¹ (λ (a : Answer). Whole a.area) (turn-not-running (lent s) slot clock passes refl low h) whole

-- what the events of these turns come to
pub record Parts (s : Storage) (es : List Event) (u : Turned) : Type 0 where
  pub leads : Leads (kernel_of s.area) s.disc es u.kernel u.disc
  pub texts : flat (λ e. e.text) es ≡ u.out
  pub sum : total es ≡ length u.out
  pub parts : PrintsItsPart es
  pub passes : Passes (last_storage s es).disc (last_storage s es).area
  pub kernel : kernel_of (last_storage s es).area ≡ u.kernel
  pub disc : (last_storage s es).disc ≡ u.disc
  pub area : Whole s.area → (last_storage s es).area ≡ kernel_bytes u.kernel

no-parts : (s : Storage) → Passes s.disc s.area → Parts s [] (record { kernel = kernel_of s.area; disc = s.disc; out = [] })
unfolding Leads flat total last_storage PrintsItsPart
no-parts s passes =
    record {
      leads = (refl, refl);
      texts = refl;
      sum = refl;
      parts = tt;
      passes = passes;
      kernel = refl;
      disc = refl;
      area = λ whole. sym whole;
    }

-- text is what these turns print, joined, and what is printed behind them
turn-parts : (l : List ℕ) (clock : ℕ) (s : Storage) (text more : List ℕ) → all (λ slot. ltb slot slot_count) l ≡ true
    → Passes s.disc s.area
    → text ≡ (in_order turn_if_running l (kernel_of s.area) clock s.disc).out ++ more
    → Parts s (turn_events l clock s text) (in_order turn_if_running l (kernel_of s.area) clock s.disc)
unfolding turn_events in_order Leads all flat total last_storage PrintsItsPart
turn-parts [] clock s text more low passes e = no-parts s passes
turn-parts (slot ∷ l) clock s text more low passes e =
    go (is_running (process_at k slot)) refl
    (turn-parts l clock (storage_of a) (drop (counts a.number) text) more (and_right (ltb slot slot_count) _ low)
    (good-kept (lent s) passes (turn slot clock)) printed)
  where
    k : Kernel
    k = kernel_of s.area

    here : ltb slot slot_count ≡ true
    here = and_left (ltb slot slot_count) _ low

    a : Answer
    a = answer (turn slot clock) (lent s)

    t : Turned
    t = turn_if_running k slot clock s.disc

    rest : Turned
    rest = in_order turn_if_running l t.kernel clock t.disc

    facts : Taken s slot clock a t
    facts = taken s slot clock here passes

    onward : in_order turn_if_running l (kernel_of a.area) clock a.disc ≡ rest
    onward = λ z. in_order turn_if_running l (facts.kernel z) clock (facts.disc z)

    prints : text ≡ t.out ++ (rest.out ++ more)
    prints = e ∙ append_assoc t.out rest.out more

    printed : drop (counts a.number) text ≡ (in_order turn_if_running l (kernel_of a.area) clock a.disc).out ++ more
    printed = (λ z. drop (facts.count z) (prints z)) ∙ drop_at t.out (rest.out ++ more) (length t.out) refl
        ∙ sym (ap (λ (u : Turned). u.out ++ more) onward)

    part : take (counts a.number) text ≡ t.out
    part = (λ z. take (facts.count z) (prints z)) ∙ take_at t.out (rest.out ++ more) (length t.out) refl

    later : List Event
    later = turn_events l clock (storage_of a) (drop (counts a.number) text)

    go : (f : Bool) → is_running (process_at k slot) ≡ f
        → Parts (storage_of a) later (in_order turn_if_running l (kernel_of a.area) clock a.disc)
        → Parts s (cons_if f (event (turn slot clock) s a (take (counts a.number) text)) later)
        (record { kernel = rest.kernel; disc = rest.disc; out = t.out ++ rest.out })
    go true h p =
        let r : Parts (storage_of a) later rest = subst (λ (u : Turned). Parts (storage_of a) later u) onward p in
        let own : take (counts a.number) text ≡ output_text a = part ∙ sym facts.text in
        let done : a.number ≡ pos (counts a.number) =
        subst⁻¹ (λ (b : Answer). b.number ≡ pos (counts b.number)) (turn-running (lent s) slot clock passes refl here h) refl in
        record {
          leads = (
            refl,
            refl,
            passes,
            record { out = replicate turn_room 0; same = refl; reports = record { turns = (refl, own); commands = tt; single = refl } },
            r.leads,
          );
          texts = λ z. part z ++ r.texts z;
          sum = (λ z. facts.count z + r.sum z) ∙ sym (length-append t.out rest.out);
          parts = (done ∙ ap pos (facts.count ∙ sym (ap length part)), own, r.parts);
          passes = r.passes;
          kernel = r.kernel;
          disc = r.disc;
          area = λ whole. r.area (whole-kept s slot clock here passes whole);
        }
    go false h p =
        let r : Parts (storage_of a) later rest = subst (λ (u : Turned). Parts (storage_of a) later u) onward p in
        let refuses : a ≡ refused 16 (lent s) = turn-not-running (lent s) slot clock passes refl here h in
        let silent : t.out ≡ [] = sym facts.text ∙ ap output_text refuses in
        let q : Parts s later rest = subst (λ (x : Storage). Parts x later rest) (ap storage_of refuses) r in
        subst⁻¹ (λ (o : List ℕ). Parts s later (record { kernel = rest.kernel; disc = rest.disc; out = o ++ rest.out })) silent q

-- ---- events one behind another
pub last-append : (s : Storage) (xs ys : List Event) → last_storage s (xs ++ ys) ≡ last_storage (last_storage s xs) ys
unfolding last_storage
last-append s [] ys = refl
last-append s (x ∷ xs) ys = last-append x.after xs ys

total-append : (xs ys : List Event) → total (xs ++ ys) ≡ total xs + total ys
unfolding total
total-append [] ys = sym (zero-add (total ys))
total-append (x ∷ xs) ys = omega (arith, total-append xs ys)

texts-append : (xs ys : List Event) → flat (λ e. e.text) (xs ++ ys) ≡ flat (λ e. e.text) xs ++ flat (λ e. e.text) ys
unfolding flat
texts-append [] ys = refl
texts-append (x ∷ xs) ys =
    ap (λ (l : List ℕ). x.text ++ l) (texts-append xs ys)
    ∙ sym (append_assoc x.text (flat (λ e. e.text) xs) (flat (λ e. e.text) ys))

parts-append : (xs ys : List Event) → PrintsItsPart xs → PrintsItsPart ys → PrintsItsPart (xs ++ ys)
unfolding PrintsItsPart
parts-append [] ys p q = q
parts-append (x ∷ xs) ys p q = (p.0, p.1, parts-append xs ys p.2 q)

leads-append : (k : Kernel) (disc : List ℕ) (xs ys : List Event) (j : Kernel) (between : List ℕ) (last : Kernel) (after : List ℕ)
    → Leads k disc xs j between → Leads j between ys last after → Leads k disc (xs ++ ys) last after
unfolding Leads
leads-append k disc [] ys j between last after p q =
    subst (λ (h : Kernel). Leads h disc ys last after) p.0 (subst (λ (d : List ℕ). Leads j d ys last after) p.1 q)
leads-append k disc (x ∷ xs) ys j between last after p q =
    (p.0, p.1, p.2, p.3, leads-append (kernel_of x.after.area) x.after.disc xs ys j between last after p.4 q)

joined-parts : (s : Storage) (xs ys : List Event) (t u : Turned) → Parts s xs t → Parts (last_storage s xs) ys u
    → Parts s (xs ++ ys) (record { kernel = u.kernel; disc = u.disc; out = t.out ++ u.out })
joined-parts s xs ys t u p r =
    record {
      leads = leads-append (kernel_of s.area) s.disc xs ys t.kernel t.disc u.kernel u.disc p.leads
          (subst (λ (h : Kernel). Leads h t.disc ys u.kernel u.disc) p.kernel
          (subst (λ (d : List ℕ). Leads (kernel_of between.area) d ys u.kernel u.disc) p.disc r.leads));
      texts = texts-append xs ys ∙ (λ z. p.texts z ++ r.texts z);
      sum = total-append xs ys ∙ (λ z. p.sum z + r.sum z) ∙ sym (length-append t.out u.out);
      parts = parts-append xs ys p.parts r.parts;
      passes = subst⁻¹ (λ (x : Storage). Passes x.disc x.area) last r.passes;
      kernel = ap (λ (x : Storage). kernel_of x.area) last ∙ r.kernel;
      disc = ap (λ (x : Storage). x.disc) last ∙ r.disc;
      area = λ whole. ap (λ (x : Storage). x.area) last ∙ r.area (ap kernel_bytes p.kernel ∙ sym (p.area whole));
    }
  where
    between : Storage
    between = last_storage s xs

    last : last_storage s (xs ++ ys) ≡ last_storage between ys
    last = last-append s xs ys

-- ---- the shares of a round
-- one slot is as good as many of it
all-low : (n slot : ℕ) → ltb slot slot_count ≡ true → all (λ i. ltb i slot_count) (replicate n slot) ≡ true
unfolding all
all-low zero slot h = refl
all-low (suc n) slot h = and_both h (all-low n slot h)

own-share : (slot clock : ℕ) (s : Storage) (text more : List ℕ) → ltb slot slot_count ≡ true → Passes s.disc s.area
    → text ≡ (share_of_turns (kernel_of s.area) slot clock s.disc).out ++ more
    → Parts s (turn_events (replicate (at_least_one (process_at (kernel_of s.area) slot).share) slot) clock s text)
    (share_of_turns (kernel_of s.area) slot clock s.disc)
unfolding share_of_turns
own-share slot clock s text more low passes e =
    let p = process_at (kernel_of s.area) slot in
    subst⁻¹ (λ (n : ℕ).
    Parts s (turn_events (replicate n slot) clock s text) (turns_in_row (turns_due p) (kernel_of s.area) slot clock s.disc))
    (due p) (turn-parts (replicate (turns_due p) slot) clock s text more (all-low (turns_due p) slot low) passes e)

shares-behind : (l : List ℕ) (clock : ℕ) (s : Storage) (text more : List ℕ) → all (λ slot. ltb slot slot_count) l ≡ true
    → Passes s.disc s.area
    → text ≡ (in_order share_of_turns l (kernel_of s.area) clock s.disc).out ++ more
    → Parts s (share_events l clock s text) (in_order share_of_turns l (kernel_of s.area) clock s.disc)
unfolding share_events in_order Leads all flat total last_storage PrintsItsPart
shares-behind [] clock s text more low passes e = no-parts s passes
shares-behind (slot ∷ l) clock s text more low passes e =
    joined-parts s es later t rest own
    (subst (λ (u : Turned). Parts (last_storage s es) later u) onward
    (shares-behind l clock (last_storage s es) (drop (total es) text) more (and_right (ltb slot slot_count) _ low) own.passes printed))
  where
    k : Kernel
    k = kernel_of s.area

    t : Turned
    t = share_of_turns k slot clock s.disc

    rest : Turned
    rest = in_order share_of_turns l t.kernel clock t.disc

    prints : text ≡ t.out ++ (rest.out ++ more)
    prints = e ∙ append_assoc t.out rest.out more

    es : List Event
    es = turn_events (replicate (at_least_one (process_at k slot).share) slot) clock s text

    own : Parts s es t
    own = own-share slot clock s text (rest.out ++ more) (and_left (ltb slot slot_count) _ low) passes prints

    onward : in_order share_of_turns l (kernel_of (last_storage s es).area) clock (last_storage s es).disc ≡ rest
    onward = λ z. in_order share_of_turns l (own.kernel z) clock (own.disc z)

    printed : drop (total es) text
        ≡ (in_order share_of_turns l (kernel_of (last_storage s es).area) clock (last_storage s es).disc).out ++ more
    printed = (λ z. drop (own.sum z) (prints z)) ∙ drop_at t.out (rest.out ++ more) (length t.out) refl
        ∙ sym (ap (λ (u : Turned). u.out ++ more) onward)

    later : List Event
    later = share_events l clock (last_storage s es) (drop (total es) text)

-- text is what these shares print, joined
pub share-parts : (l : List ℕ) (clock : ℕ) (s : Storage) (text : List ℕ) → all (λ slot. ltb slot slot_count) l ≡ true
    → Passes s.disc s.area
    → text ≡ (in_order share_of_turns l (kernel_of s.area) clock s.disc).out
    → Parts s (share_events l clock s text) (in_order share_of_turns l (kernel_of s.area) clock s.disc)
share-parts l clock s text low passes e = shares-behind l clock s text [] low passes (e ∙ sym (append-nil _))
