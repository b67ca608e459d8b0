-- One process record replaced: what the slots hold then, and what is kept of a good area's records and IDs.
use Rattle.std.specs.Prelude.{None}
use Prim.Native.Nat.{ℕ, ◌<◌}
use mathlib.Core.Path.{◌≡◌, refl, sym, ap, ◌∙◌, subst, subst⁻¹}
use mathlib.Core.Bool.{Bool, true, false}
use mathlib.Core.List.{List}
use native.Mathlib.Omega.{arith}
use lib.Dec.{eqb}
use lib.ListN.{length, length-set}
use lib.Seq.{get_or-set_other, get_or-set_same}
use borrow.Author.Tests.{eqb-false, eqb-true}
use Rattle.buffer.specs.Lists.{all, any, pairs}
use Rattle.buffer.proofs.Lists.{all-each}
use Rattle.disc.specs.declared.Entry.{Entry}
use Rattle.machine.specs.GoodArea.{good_kernel, good_process, other_id}
use Rattle.machine.specs.State.{is_live, live_ids, no_process, process_at, slot_of, with_process}
use Rattle.machine.specs.declared.Kernel.{Kernel}
use Rattle.machine.specs.declared.Process.{Process}
use Rattle.buffer.proofs.Lists.{pairs-each}
use Rattle.machine.proofs.Goodness.GoodLaws.{good-process-at, is-other-id, one-of-id}
use Rattle.machine.proofs.Changes.LiveIds.{is-live-id, live-id-is}
use Rattle.machine.proofs.Changes.Slots.{live_inside, slot-none, slot-nowhere}

module _ (k : Kernel) (w : ℕ) (q : Process) where
  pub put_other : (s : ℕ) → (s ≡ w → ⊥) → process_at (with_process k w q) s ≡ process_at k s
  put_other s n = get_or-set_other k.processes w s q no_process n

  pub put-at : is_live (process_at k w) ≡ true → process_at (with_process k w q) w ≡ q
  put-at h = get_or-set_same k.processes w q no_process (live_inside k w h)

  -- what holds of q in slot w and of every other record where it was
  pub put-each : (P : ℕ → Process → Type 0) → (w < length k.processes → P w q)
      → ((s : ℕ) → s < length k.processes → (s ≡ w → ⊥) → P s (process_at k s))
      → (s : ℕ) → s < length k.processes → P s (process_at (with_process k w q) s)
  put-each P new old s m = go (eqb s w) refl
    where
      go : (b : Bool) → eqb s w ≡ b → P s (process_at (with_process k w q) s)
      go true e =
          let here : s ≡ w = eqb-true s w e in
          let low : w < length k.processes = omega arith in
          subst⁻¹ (λ (x : ℕ). P x (process_at (with_process k w q) x)) here
          (subst⁻¹ (λ (p : Process). P w p) (get_or-set_same k.processes w q no_process low) (new low))
      go false e = let other : s ≡ w → ⊥ = eqb-false s w e in subst⁻¹ (λ (p : Process). P s p) (put_other s other) (old s m other)

  put-length : length (with_process k w q).processes ≡ length k.processes
  put-length = length-set k.processes w q

  -- a live record is in its slot as before, or it is q
  pub put-live : (P : ℕ → Process → Type 0) → (is_live q ≡ true → P w q)
      → ((s : ℕ) → (s ≡ w → ⊥) → is_live (process_at k s) ≡ true → P s (process_at k s))
      → (s : ℕ) → is_live (process_at (with_process k w q) s) ≡ true → P s (process_at (with_process k w q) s)
  put-live P new old s h =
      put-each (λ i p. is_live p ≡ true
      → P i p) (λ m. new) (λ i m other. old i other) s (subst (λ (n : ℕ). s < n) put-length (live_inside (with_process k w q) s h)) h

  -- an ID stays live if q has it where the old record had
  pub live-id-kept : (id : ℕ) → (is_live (process_at k w) ≡ true → (process_at k w).id ≡ id → (is_live q ≡ true) × (q.id ≡ id))
      → any (eqb id) (live_ids k) ≡ true → any (eqb id) (live_ids (with_process k w q)) ≡ true
  live-id-kept id kept t = let f = live-id-is k id t in go f.0 f.1 f.2 (eqb f.0 w) refl
    where
      go : (s : ℕ) → is_live (process_at k s) ≡ true → (process_at k s).id ≡ id → (b : Bool) → eqb s w ≡ b
          → any (eqb id) (live_ids (with_process k w q)) ≡ true
      go s live named true e =
          let here : s ≡ w = eqb-true s w e in
          let old : is_live (process_at k w) ≡ true = subst (λ (x : ℕ). is_live (process_at k x) ≡ true) here live in
          let both = kept old (subst (λ (x : ℕ). (process_at k x).id ≡ id) here named) in
          is-live-id (with_process k w q) id w (ap is_live (put-at old) ∙ both.0) (ap (λ (p : Process). p.id) (put-at old) ∙ both.1)
      go s live named false e =
          let same = put_other s (eqb-false s w e) in
          is-live-id (with_process k w q) id s (ap is_live same ∙ live) (ap (λ (p : Process). p.id) same ∙ named)

  -- ---- q is the live process that was there, or not live
  module _ (heir : is_live q ≡ true → (is_live (process_at k w) ≡ true) × (q.id ≡ (process_at k w).id)) where
    pub put-none : (id : ℕ) → slot_of k id ≡ None → slot_of (with_process k w q) id ≡ None
    put-none id e =
        slot-nowhere (with_process k w q) id
        (put-live (λ s p. p.id ≡ id → ⊥) (λ h n. let was = heir h in
        slot-none k id e w was.0 (sym was.1 ∙ n)) (λ s other h n. slot-none k id e s h n))

    module _ (entries : List Entry) (good : good_kernel entries k ≡ true) where
      -- "distinct live IDs"
      pub put-distinct : pairs other_id (with_process k w q).processes ≡ true
      put-distinct = pairs-each other_id (with_process k w q).processes no_process
          (λ i j b m. is-other-id (process_at (with_process k w q) i) (process_at (with_process k w q) j)
          (λ h l e. differ i j b (was i h) (was j l) e))
        where
          was : (i : ℕ) → is_live (process_at (with_process k w q) i) ≡ true → (is_live (process_at k i) ≡ true)
              × ((process_at (with_process k w q) i).id ≡ (process_at k i).id)
          was = put-live (λ i p. (is_live (process_at k i) ≡ true) × (p.id ≡ (process_at k i).id)) heir (λ i other h. (h, refl))

          differ : (i j : ℕ) → i < j
              → (is_live (process_at k i) ≡ true) × ((process_at (with_process k w q) i).id ≡ (process_at k i).id)
              → (is_live (process_at k j) ≡ true) × ((process_at (with_process k w q) j).id ≡ (process_at k j).id)
              → (process_at (with_process k w q) i).id ≡ (process_at (with_process k w q) j).id → ⊥
          differ i j b x y e =
              let same : i ≡ j = one-of-id entries k good i j (live_inside k i x.0) (live_inside k j y.0) x.0 y.0 (sym x.1
              ∙ e ∙ y.1) in
              omega arith

      pub put-records : good_process entries k.next q ≡ true → all (good_process entries k.next) (with_process k w q).processes ≡ true
      put-records h =
          all-each (good_process entries k.next) (with_process k w q).processes no_process
          (λ s m. put-each (λ i p. good_process entries k.next p ≡ true) (λ l. h) (λ i l other. good-process-at entries k good i l) s
          (subst (λ (n : ℕ). s < n) put-length m))
