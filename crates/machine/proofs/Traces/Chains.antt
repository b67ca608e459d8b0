-- Events one after another, each on good buffers that say what the one before left.
use Prim.Native.Nat.{ℕ}
use mathlib.Core.Path.{◌≡◌, refl, ap, subst}
use mathlib.Core.Bool.{Bool, true, false}
use mathlib.Core.List.{List, [], ◌∷◌, ◌++◌}
use lib.Dec.{leb}
use lib.ListN.{length}
use Rattle.machine.specs.Answer.{Answer, Call, turn, round, answer, refused}
use Rattle.machine.specs.Area.{kernel_of}
use Rattle.machine.specs.Limits.{round_room, turn_room}
use Rattle.machine.specs.Refusals.{Passes}
use Rattle.machine.specs.Trace.{Event, Storage, event, lending, only_if, output_text}
use Rattle.machine.specs.declared.Kernel.{Kernel}
use Rattle.machine.proofs.Traces.Stepping.{Reports}

-- ---- an event as the call that it is
pub record Genuine (e : Event) : Type 0 where
  pub out : List ℕ
  pub same : e ≡ event e.call e.before (answer e.call (lending e.before out)) e.text
  pub reports : Reports e.call out (answer e.call (lending e.before out)) e.text

-- events from the state k and this disc on, each on good buffers that say what the one before left
unfoldable pub Chain : Kernel → List ℕ → List Event → Type 0
Chain k disc [] = Unit {0}
Chain k disc (e ∷ es) =
    (kernel_of e.before.area ≡ k) × (e.before.disc ≡ disc) × Passes e.before.disc e.before.area × Genuine e
    × Chain (kernel_of e.after.area) e.after.disc es

-- the events of a chain, and the state they end in
unfoldable pub Leads : Kernel → List ℕ → List Event → Kernel → List ℕ → Type 0
Leads k disc [] j after = (j ≡ k) × (after ≡ disc)
Leads k disc (e ∷ es) j after =
    (kernel_of e.before.area ≡ k) × (e.before.disc ≡ disc) × Passes e.before.disc e.before.area × Genuine e
    × Leads (kernel_of e.after.area) e.after.disc es j after

pub leads-on : (k : Kernel) (disc : List ℕ) (es rest : List Event) (j : Kernel) (after : List ℕ) → Leads k disc es j after
    → Chain j after rest → Chain k disc (es ++ rest)
unfolding Leads Chain
leads-on k disc [] rest j after l c = subst (λ (h : Kernel). Chain h disc rest) l.0 (subst (λ (d : List ℕ). Chain j d rest) l.1 c)
leads-on k disc (e ∷ es) rest j after l c =
    (l.0, l.1, l.2, l.3, leads-on (kernel_of e.after.area) e.after.disc es rest j after l.4 c)

-- ---- one call
module _ (s : Storage) (out : List ℕ) (passes : Passes s.disc s.area) where
  abbrev k : Kernel
  k = kernel_of s.area

  pub one-event : (c : Call) (text : List ℕ) → Reports c out (answer c (lending s out)) text
      → Leads k s.disc (event c s (answer c (lending s out)) text ∷ []) (kernel_of (answer c (lending s out)).area)
      (answer c (lending s out)).disc
  unfolding Leads
  one-event c text r = (refl, refl, passes, record { out = out; same = refl; reports = r }, (refl, refl))

  -- "calls lent too little output aside"
  pub short-turn : (slot clock : ℕ) → leb turn_room (length out) ≡ false
      → answer (turn slot clock) (lending s out) ≡ refused 4 (lending s out)
  unfolding answer
  short-turn slot clock h = rw (passes.sizes, passes.disc-good, passes.area-good, h)

  pub short-round : (clock : ℕ) → leb round_room (length out) ≡ false → answer (round clock) (lending s out) ≡ refused 4 (lending s out)
  unfolding answer
  short-round clock h = rw (passes.sizes, passes.disc-good, passes.area-good, h)

  pub turn-leads : (slot clock : ℕ)
      → Leads k s.disc (only_if (leb turn_room (length out))
      (event (turn slot clock) s (answer (turn slot clock) (lending s out)) (output_text (answer (turn slot clock) (lending s out)))))
      (kernel_of (answer (turn slot clock) (lending s out)).area) (answer (turn slot clock) (lending s out)).disc
  unfolding Leads
  turn-leads slot clock = go (leb turn_room (length out)) refl
    where
      go : (f : Bool) → leb turn_room (length out) ≡ f
          → Leads k s.disc (only_if f
          (event (turn slot clock) s (answer (turn slot clock) (lending s out))
          (output_text (answer (turn slot clock) (lending s out)))))
          (kernel_of (answer (turn slot clock) (lending s out)).area) (answer (turn slot clock) (lending s out)).disc
      go true h = one-event (turn slot clock) _ (record { turns = (h, refl); commands = tt; single = refl })
      go false h =
          let e = short-turn slot clock h in
          (ap (λ (a : Answer). kernel_of a.area) e, ap (λ (a : Answer). a.disc) e)
