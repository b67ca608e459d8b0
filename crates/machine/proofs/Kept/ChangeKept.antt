-- What every change keeps: a good state stays good, another process is left as it is, an ended ID stays ended, a start is fresh.
use Rattle.std.specs.Prelude.{None, Some}
use Prim.Native.Nat.{ℕ}
use mathlib.Core.Path.{◌≡◌, sym, ap, subst, ◌∙◌}
use mathlib.Core.Bool.{true}
use mathlib.Core.List.{List}
use mathlib.Core.Logic.{◌⊎◌, inl, inr}
use native.Mathlib.Omega.{arith}
use lib.ListN.{get_or}
use Rattle.place.specs.declared.Run.{Run}
use Rattle.disc.specs.Directory.{contents}
use Rattle.disc.proofs.Locations.{FileAt}
use Rattle.variable.specs.Table.{owned}
use Rattle.machine.specs.State.{is_live, process_at, slot_of}
use Rattle.machine.specs.Turn.{program_of}
use Rattle.machine.specs.declared.Kernel.{Kernel}
use Rattle.machine.specs.declared.Process.{Process}
use Rattle.machine.proofs.Changes.Change.{GoodState, Own, moves, Writes, Change, acts, writes}
use Rattle.machine.proofs.Kept.Begun.{Begun}
use Rattle.machine.proofs.Kept.EndedIds.{outside-begun, outside-gone}
use Rattle.machine.proofs.Kept.Gone.{Gone}
use Rattle.machine.proofs.Kept.OutsideKept.{outside-good}
use Rattle.machine.proofs.Kept.OutsideSpares.{outside-contents, outside-spares}
use Rattle.machine.proofs.Kept.OwnKept.{moved-good, own-good}
use Rattle.machine.proofs.Kept.OwnSpared.{own-gone, own-none, own-process, own-variables}
use Rattle.machine.proofs.Kept.WritesKept.{writes-contents, writes-good}
use Rattle.machine.proofs.Changes.Replaced.{put-at}
use Rattle.machine.proofs.Kept.Spared.{Spared}
use Rattle.machine.proofs.Changes.Slots.{slot_is}

-- the record, the variables and the place of the process in slot s are as they were
pub record Untouched (s : ℕ) (k j : Kernel) : Type 0 where
  pub process : process_at j s ≡ process_at k s
  pub variables : owned j.variables (process_at k s).id ≡ owned k.variables (process_at k s).id

-- the process in slot w does no WRITE without fault into that file
abbrev pub NoWriteInto : Run → ℕ → Kernel → List ℕ → Kernel → Type 0
NoWriteInto file w k disc j =
    get_or (program_of disc (process_at k w)) (process_at k w).pc 0 ≡ 55 → is_live (process_at j w) ≡ true
    → (process_at k w).file.start ≡ file.start → (process_at k w).file.len ≡ file.len → ⊥

-- what a WRITE does to its process
own-of-write : {w : ℕ} {k j : Kernel} {disc after : List ℕ} → Writes w k disc j after → Own w k disc j
own-of-write x = moves x.process x.goes x.kernel

pub gone-after : {w : ℕ} {k j : Kernel} {disc : List ℕ} (i : ℕ) → Gone i k → Own w k disc j → Gone i j
gone-after i g x = let r = own-gone i g.given g.none x in record { given = r.0; none = r.1 }

pub no_place : {s : ℕ} → Some s ≡ None → ⊥
no_place e = let z : ◌≡◌ {A = ℕ} 0 1 = cc in omega arith

module _ (name : List ℕ) (w : ℕ) (k : Kernel) (disc : List ℕ) (j : Kernel) (after : List ℕ) (good : GoodState k disc) where
  pub change-good : Change name w k disc j after → GoodState j after
  change-good (acts m o still x) = own-good w m after j (outside-good name k disc m after good o) x
  change-good (writes x) = writes-good moved-good w k disc j after good x

  -- ---- a live process in another slot
  module _ (s : ℕ) (live : is_live (process_at k s) ≡ true) where
    by-own : (m : Kernel) → GoodState m after → Spared s k disc m after → (s ≡ w → ⊥) → Own w m after j → Untouched s k j
    by-own m g u other x =
        let l : is_live (process_at m s) ≡ true = ap is_live u.process ∙ live in
        let v = own-variables s g l other x in
        record {
          process = own-process s other x ∙ u.process;
          variables = subst (λ (id : ℕ). owned j.variables id ≡ owned m.variables id) (ap (λ (p : Process). p.id) u.process) v
              ∙ u.variables;
        }

    pub change-untouched : (s ≡ w → ⊥) → Change name w k disc j after → Untouched s k j
    change-untouched other (acts m o still x) = by-own m (outside-good name k disc m after good o) (outside-spares good s live o) other x
    change-untouched other (writes x) =
        let o = own-of-write x in
        record { process = own-process s other o; variables = own-variables s good live other o }

  -- ---- a file
  pub change-contents : {file : Run} → FileAt disc file → NoWriteInto file w k disc j → Change name w k disc j after
      → contents after file ≡ contents disc file
  change-contents file safe (acts m o still x) = outside-contents good file o
  change-contents file safe (writes x) =
      let p : process_at j w ≡ x.process = ap (λ (h : Kernel). process_at h w) x.kernel ∙ put-at k w x.process x.goes.before in
      writes-contents good x file (safe x.instruction (ap is_live p ∙ x.goes.live))

  -- ---- IDs
  pub change-gone : (i : ℕ) → Gone i k → Change name w k disc j after → Gone i j
  change-gone i g (acts m o still x) = gone-after i (outside-gone i good g o) x
  change-gone i g (writes x) = gone-after i g (own-of-write x)

  -- what a live process does starts at most another one, which is then as a start leaves it
  pub change-begun : is_live (process_at k w) ≡ true → (i : ℕ) → slot_of k i ≡ None → Change name w k disc j after
      → (slot_of j i ≡ None)
      ⊎ Begun name i disc j after
  change-begun live i none (writes x) = inl (own-none i none (own-of-write x))
  change-begun live i none (acts m o still x) = go (outside-begun i good none o)
    where
      g : GoodState m after
      g = outside-good name k disc m after good o

      go : (slot_of m i ≡ None) ⊎ Begun name i disc m after → (slot_of j i ≡ None) ⊎ Begun name i disc j after
      go (inl e) = inl (own-none i e x)
      go (inr b) =
          let l : is_live (process_at m b.slot) ≡ true = ap is_live b.process in
          let d : (process_at m b.slot).id ≡ i = ap (λ (p : Process). p.id) b.process in
          let u = outside-spares good w live o in
          let other : b.slot ≡ w → ⊥ = λ e.
          no_place (sym (slot_is good w i live (ap (λ (p : Process). p.id) (sym u.process)
          ∙ subst (λ (t : ℕ). (process_at m t).id ≡ i) e d)) ∙ none) in
          inr
          (record {
            same-disc = b.same-disc;
            slot = b.slot;
            file = b.file;
            found = b.found;
            process = own-process b.slot other x ∙ b.process;
            inside = b.inside;
            variables = subst (λ (id : ℕ). owned j.variables id ≡ owned m.variables id) d (own-variables b.slot g l other x)
                ∙ b.variables;
          })
