-- SET: it lacks space, or the variable is at the start of the shortest free run that fits.
use Rattle.std.specs.Prelude.{None, Option, Some}
use Prim.Native.Nat.{ℕ, ◌+◌, ◌≤◌, ◌<◌}
use mathlib.Core.Path.{◌≡◌, refl, sym, ap, subst, subst⁻¹, ◌∙◌}
use mathlib.Core.Bool.{Bool, true, false}
use mathlib.Core.List.{List, [], ◌∷◌, ◌++◌, map}
use mathlib.Core.Logic.{◌⊎◌, inl, inr}
use native.Mathlib.Omega.{arith}
use lib.Dec.{ltb}
use lib.ListN.{length, length-append}
use borrow.Author.Tests.{lt-leb}
use Rattle.buffer.specs.Buffer.{overwrite}
use Rattle.buffer.specs.Lists.{tab}
use Rattle.buffer.proofs.Kept.{any_at}
use Rattle.buffer.proofs.Lists.{tab-at, tab-length}
use Rattle.place.specs.Place.{fits, place}
use Rattle.place.specs.declared.Run.{Run}
use Rattle.place.specs.ShortestFit.{ShortestFit}
use Rattle.place.proofs.ShortestFit.{place-shortest-fit}
use Rattle.place.proofs.Place.{is-fits}
use Rattle.variable.specs.Assign.{added, assigned, entry_limit, high_end, if_entry, low_end, new_variable, place_for, placing}
use Rattle.variable.specs.Assign.{taken_runs, value_bytes, value_of}
use Rattle.variable.specs.Limits.{max_variables, memory_size}
use Rattle.variable.specs.Table.{Shaped, counted, freed, is_of, run_of}
use Rattle.variable.specs.declared.Assigned.{Assigned}
use Rattle.variable.specs.Assign.{Placing}
use Rattle.std.specs.Prelude.{Ok, Err}
use Rattle.std.specs.Option.{ok_or}
use Rattle.variable.specs.declared.Unplaced.TheVariants.{NoEntry, NoRun}
use Rattle.variable.specs.declared.Value.{Value}
use Rattle.variable.specs.declared.Variable.{Variable}
use Rattle.variable.specs.declared.Variables.{Variables}
use Rattle.variable.proofs.Adding.{added-counted}
use Rattle.variable.proofs.Freeing.{freed-counted, freed-memory, freed-shaped}
use Rattle.variable.proofs.Goodness.{good-variables-is}
use Rattle.variable.proofs.Reading.{value_made}
use Rattle.variable.proofs.Setting.{assigned-is, assigned-placing, place-address}
use Rattle.disc.specs.Directory.{files}
use Rattle.machine.specs.Answer.{Buffers}
use Rattle.machine.specs.AtPc.{Onward, SameDisc, ValueOnTop, byte_ahead, process_in, state_after}
use Rattle.machine.specs.Changed.{Assigns}
use Rattle.machine.specs.Effect.{assigns}
use Rattle.machine.specs.Ending.{unplaced}
use Rattle.machine.specs.AtPc.{file_in}
use Rattle.machine.specs.Reaching.{Faults, SetExactly}
use Rattle.machine.specs.Refusals.{state_of}
use Rattle.machine.specs.State.{Local, live_ids, with_local, with_process, with_variables}
use Rattle.machine.specs.Suppositions.{lacks_space, others_than}
use Rattle.machine.specs.Turn.{Turned, carried_out, setting, turned}
use Rattle.machine.specs.declared.Kernel.{Kernel}
use Rattle.machine.proofs.Changes.Replaced.{put-at}
use Rattle.machine.proofs.Demands.GoodCalls.{passes-good}
use Rattle.machine.proofs.Demands.TurnCalls.{ended-only}
use Rattle.machine.proofs.Goodness.GoodLaws.{good-kernel-is}
use Rattle.machine.proofs.Reaching.Finding.{Does, at, set_found}
use Rattle.machine.proofs.Reaching.Going.{disc-left, live, onward, state-left}
use Rattle.machine.proofs.Traces.Room.{freed-count-is, room-found}

-- ---- the place of a SET that is done
placing-place : (runs : List Run) (low high used limit n a : ℕ) → placing runs low high used limit n ≡ Ok a
    → place runs low high n ≡ Some a
unfolding placing
placing-place runs low high used limit n a = go (ltb used limit) (place runs low high n) refl
  where
    go : (entry : Bool) (f : Option ℕ) → place runs low high n ≡ f → if_entry entry (ok_or f NoRun) ≡ Ok a → place runs low high n ≡ Some a
    go true (Some s) e h = let same : s ≡ a = cc in e ∙ ap (λ (i : ℕ). Some i) same
    go true None e h = absurd (let z : ◌≡◌ {A = ℕ} 0 1 = cc in omega arith)
    go false f e h = absurd (let z : ◌≡◌ {A = ℕ} 0 1 = cc in omega arith)

module _ (v : Variables) (name id kind : ℕ) (bytes : List ℕ) (a : ℕ)
    (done : (assigned v name id (value_of kind bytes)).placing ≡ Ok a) where
  x : Value
  x = value_of kind bytes

  w : Variables
  w = freed v (is_of name id)

  others-are : counted w ≡ others_than name id v
  unfolding w
  others-are = freed-counted v (is_of name id)

  placed : place_for w (length bytes) ≡ Ok a
  unfolding w x
  placed = sym (assigned-placing v name id x) ∙ done

  found : place (taken_runs w) low_end high_end (length bytes) ≡ Some a
  unfolding place_for
  found = placing-place (taken_runs w) low_end high_end w.count entry_limit (length bytes) a placed

  shortest : 1 ≤ length bytes → ShortestFit (λ n s. fits (map run_of (others_than name id v)) 0 memory_size n s ≡ true) (length bytes) a
  shortest some =
      subst (λ (l : List Variable). ShortestFit (λ n s. fits (map run_of l) 0 memory_size n s ≡ true) (length bytes) a) others-are
      (place-shortest-fit (taken_runs w) low_end high_end (length bytes) a some found)

  is-assigned : 1 ≤ length bytes → Shaped v → v.count ≤ max_variables
      → Assigns v name id kind bytes (assigned v name id (value_of kind bytes)).variables
  unfolding w x added
  is-assigned some shaped few =
      let sized : length (value_bytes x) ≡ length bytes = ap length (value_made kind bytes) in
      let whole = assigned-is v name id x shaped few sized a done in
      let r = place-address w (length bytes) a placed in
      record {
        address = a;
        placed = shortest some;
        entries =
            ap counted whole
            ∙ added-counted w (new_variable name id x a) (value_bytes x) (freed-shaped v (is_of name id) few shaped) r.0 r.1 sized
            ∙ ap (λ (l : List Variable). l ++ (new_variable name id x a ∷ [])) others-are;
        memory =
            ap (λ (u : Variables). u.memory) whole
            ∙ (λ z. overwrite (freed-memory v (is_of name id) z) a (value_made kind bytes z));
      }

  -- so it does not lack space
  found-room : 1 ≤ length bytes → lacks_space v name id (length bytes) ≡ false
  unfolding lacks_space w
  found-room some =
      let r = place-address w (length bytes) a placed in
      let count : w.count ≡ length (others_than name id v) = freed-count-is v name id x in
      let low : a < memory_size = omega (arith, r.1.high) in
      rw (
        lt-leb max_variables (length (others_than name id v)) (omega (arith, r.0)),
        any_at (fits (map run_of (others_than name id v)) 0 memory_size (length bytes)) (tab (λ s. s) memory_size) a 0
            (omega (arith, tab-length (λ s. s) memory_size))
            (subst⁻¹ (λ (s : ℕ). fits (map run_of (others_than name id v)) 0 memory_size (length bytes) s ≡ true)
            (tab-at (λ s. s) memory_size a 0 low)
            (subst (λ (l : List Variable). fits (map run_of l) 0 memory_size (length bytes) a ≡ true) others-are
            (is-fits (taken_runs w) low_end high_end (length bytes) a r.1))),
      )

-- ---- the turn
value-some : {stack rest : List ℕ} {kind : ℕ} {bytes : List ℕ} → ValueOnTop stack rest kind bytes → 1 ≤ length bytes
value-some {stack} {rest} {kind} {bytes} (inl t) = go t.typed
  where
    go : (kind ≡ 1) ⊎ ((kind ≡ 2) ⊎ (kind ≡ 4)) → 1 ≤ length bytes
    go (inl e) = omega (arith, t.size)
    go (inr (inl e)) = omega (arith, t.size)
    go (inr (inr e)) = omega (arith, t.size)
value-some {stack} {rest} {kind} {bytes} (inr t) = omega (arith, ap length t.whole, length-append t.text (0 ∷ []))

module _ (b : Buffers) (slot clock : ℕ) where
  pub set-exactly : SetExactly b slot clock
  unfolding turned carried_out
  set-exactly rest kind bytes a more top = go set.placing refl
    where
      k : Kernel
      k = state_of b

      name : ℕ
      name = byte_ahead b slot 1

      id : ℕ
      id = (process_in b slot).id

      set : Assigned
      set = assigned k.variables name id (value_of kind bytes)

      l : Local
      l = at b slot ((process_in b slot).pc + 2) rest

      does : Does b slot clock (assigns name kind bytes l)
      does = set_found b slot clock rest kind bytes a more top

      lacks : ((s : ℕ) → set.placing ≡ Ok s → ⊥) → lacks_space k.variables name id (length bytes) ≡ true
      lacks none = by (lacks_space k.variables name id (length bytes)) refl
        where
          by : (c : Bool) → lacks_space k.variables name id (length bytes) ≡ c → lacks_space k.variables name id (length bytes) ≡ true
          by true e = e
          by false e = let r = room-found k.variables name id (value_of kind bytes) e in absurd (none r.0 r.1)

      go : (q : Placing) → set.placing ≡ q
          → ((lacks_space k.variables name id (length bytes) ≡ true) × Faults b slot clock 10)
          ⊎ ((lacks_space k.variables name id (length bytes) ≡ false)
          × Onward b slot clock ((process_in b slot).pc + 2) rest (file_in b slot)
          × SameDisc b slot clock
          × Assigns k.variables name id kind bytes (state_after b slot clock).variables)
      go (Err NoEntry) e = inl (
        lacks (λ s f. let z : ◌≡◌ {A = ℕ} 0 1 = cc in omega arith),
        ended-only b slot clock a.may 10 (unplaced name kind bytes l does (inl e) refl),
      )
      go (Err NoRun) e = inl (
        lacks (λ s f. let z : ◌≡◌ {A = ℕ} 0 1 = cc in omega arith),
        ended-only b slot clock a.may 10 (unplaced name kind bytes l does (inr e) refl),
      )
      go (Ok s) e =
          let good = passes-good b.disc b.area a.may.passes in
          let table = (good-kernel-is (files b.disc) k good.area).variables in
          let q = with_local (process_in b slot) l in
          let t : Turned = record { kernel = with_variables (with_process k slot q) set.variables; disc = b.disc; out = [] } in
          let leaves : turned k slot clock b.disc ≡ t =
          ap (carried_out k slot b.disc) does ∙ ap (λ (f : Placing). setting k slot b.disc f set.variables l) e in
          inr (
            found-room k.variables name id kind bytes s e (value-some top),
            onward b slot clock a.may t leaves ((process_in b slot).pc + 2) rest (file_in b slot) refl
                (put-at k slot q (live b slot a.may)),
            disc-left b slot clock a.may t leaves,
            subst⁻¹ (λ (j : Kernel). Assigns k.variables name id kind bytes j.variables) (state-left b slot clock a.may t leaves)
                (is-assigned k.variables name id kind bytes s e (value-some top) good.sized.variables
                (good-variables-is (live_ids k) k.variables table).few),
          )
