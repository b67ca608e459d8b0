-- What the acting process does leaves a good state: it goes on, sets a variable or ends.
use Prim.Native.Nat.{ℕ, ◌≤◌, ◌<◌}
use mathlib.Core.Path.{◌≡◌, refl, sym, ap, ap₂, ◌∙◌, subst⁻¹}
use mathlib.Core.Bool.{Bool, true, ◌&&◌}
use mathlib.Core.List.{List}
use lib.Dec.{eqb}
use lib.ListN.{length}
use Rattle.buffer.specs.Lists.{any, same}
use Rattle.buffer.proofs.Bools.{true-not-false}
use Rattle.place.specs.declared.Run.{Run}
use Rattle.disc.specs.Directory.{files}
use Rattle.variable.specs.Assign.{assigned, value_bytes}
use Rattle.variable.specs.Good.{good_size, good_variables}
use Rattle.variable.specs.Table.{Shaped, freed_all, owned_by}
use Rattle.variable.specs.declared.Value.{Value}
use Rattle.variable.specs.declared.Variables.{Variables}
use Rattle.variable.proofs.Freeing.{freed-shaped}
use Rattle.variable.proofs.Goodness.{assigned-good, freed-all-good, good-variables-is}
use Rattle.variable.proofs.Setting.{assigned-shaped}
use Rattle.machine.specs.GoodArea.{good_process, is_program}
use Rattle.machine.specs.Limits.{slot_count}
use Rattle.machine.specs.Ended.{ended, ended_process}
use Rattle.machine.specs.State.{is_live, live_ids, process_at, with_process, with_variables}
use Rattle.machine.specs.declared.Kernel.{Kernel}
use Rattle.machine.specs.declared.Process.{Process}
use Rattle.machine.proofs.Changes.Change.{GoesOn, GoodState, Own, stays, moves, sets, ends}
use Rattle.machine.proofs.Goodness.GoodLaws.{good-kernel-is, good-process-at, is-good-kernel}
use Rattle.machine.proofs.Goodness.GoodRecords.{ended-good, good-live-of, live-good}
use Rattle.machine.proofs.Changes.LiveIds.{is-live-id, still-owned}
use Rattle.machine.proofs.Changes.Replaced.{live-id-kept, put-distinct, put-records}
use Rattle.machine.proofs.Bytes.Sizes.{SizedProcess, ended-process-sized, with-process-sized, with-variables-sized}
use Rattle.machine.proofs.Changes.Slots.{live_inside}

-- ---- a record replaced, and a table of variables
module _ (k : Kernel) (disc : List ℕ) (w : ℕ) (q : Process) (v : Variables) where
  -- q is the live process that was there, or not live
  pub replaced-good : GoodState k disc → (w < slot_count → SizedProcess q) → good_process (files disc) k.next q ≡ true
      → (is_live q ≡ true → (is_live (process_at k w) ≡ true) × (q.id ≡ (process_at k w).id))
      → Shaped v → good_variables (live_ids (with_process k w q)) v ≡ true
      → GoodState (with_variables (with_process k w q) v) disc
  replaced-good good size record-good heir shaped owners =
      let g = good-kernel-is (files disc) k good.area in
      record {
        sized = with-variables-sized (with_process k w q) (with-process-sized k good.sized w q size) v shaped;
        long = good.long;
        sound = good.sound;
        area =
            is-good-kernel (files disc) (with_variables (with_process k w q) v)
            (record {
              variables = owners;
              header = record { zeros = g.header.zeros; low = g.header.low; high = g.header.high };
              each = put-records k w q heir (files disc) good.area record-good;
              distinct = put-distinct k w q heir (files disc) good.area;
            });
      }

-- ---- going on
module _ (k : Kernel) (disc : List ℕ) (w : ℕ) (q : Process) (good : GoodState k disc) (goes : GoesOn disc (process_at k w) q) where
  inside : w < length k.processes
  inside = live_inside k w goes.before

  going-record : good_process (files disc) k.next q ≡ true
  unfolding is_program
  going-record =
      let old = good-live-of (files disc) k.next (process_at k w) (good-process-at (files disc) k good.area w inside) goes.before in
      live-good (files disc) k.next q goes.live
      (record {
        low = subst⁻¹ (λ (n : ℕ). 1 ≤ n) goes.id old.low;
        given = subst⁻¹ (λ (n : ℕ). n < k.next) goes.id old.given;
        registers = goes.registers;
        program = ap₂ listed goes.name goes.code ∙ old.program;
        file = goes.file;
      })
    where
      listed : List ℕ → Run → Bool
      listed name code = any (λ e. same name e.name && (eqb code.start e.start && eqb code.len e.len)) (files disc)

  -- its ID is live as before
  going-ids : (owner : ℕ) → any (eqb owner) (live_ids k) ≡ true → any (eqb owner) (live_ids (with_process k w q)) ≡ true
  going-ids owner = live-id-kept k w q owner (λ h n. (goes.live, goes.id ∙ n))

  going-good : (v : Variables) → Shaped v → good_variables (live_ids k) v ≡ true → GoodState (with_variables (with_process k w q) v) disc
  going-good v shaped owners =
      replaced-good k disc w q v good
      (λ m. record { name = ap length goes.name ∙ (good.sized.each w m).name; stack = goes.stack })
      going-record
      (λ h. (goes.before, goes.id))
      shaped
      (still-owned (live_ids k) (live_ids (with_process k w q)) v going-ids owners)

  pub moved-good : GoodState (with_process k w q) disc
  moved-good = going-good k.variables good.sized.variables (good-kernel-is (files disc) k good.area).variables

  pub set-good : (name : ℕ) (x : Value) → good_size x.kind x.size ≡ true → length (value_bytes x) ≡ x.size
      → GoodState (with_variables (with_process k w q) (assigned k.variables name (process_at k w).id x).variables) disc
  set-good name x size sized =
      let table = (good-kernel-is (files disc) k good.area).variables in
      going-good (assigned k.variables name (process_at k w).id x).variables
      (assigned-shaped k.variables name (process_at k w).id x good.sized.variables
      (good-variables-is (live_ids k) k.variables table).few sized)
      (assigned-good (live_ids k) k.variables name (process_at k w).id x good.sized.variables sized table size
      (is-live-id k (process_at k w).id w goes.before refl))

-- ---- ending
pub ended-state-good : (k : Kernel) (disc : List ℕ) (w fault : ℕ) → GoodState k disc → GoodState (ended k w fault) disc
unfolding ended
ended-state-good k disc w fault good =
    let p : Process = process_at k w in
    let q : Process = ended_process p fault in
    let table = (good-kernel-is (files disc) k good.area).variables in
    replaced-good k disc w q (freed_all k.variables p.id) good
    (λ m. ended-process-sized p (good.sized.each w m) fault)
    (ended-good (files disc) k.next q refl)
    (λ h. absurd (true-not-false h refl))
    (freed-shaped k.variables (owned_by p.id) (good-variables-is (live_ids k) k.variables table).few good.sized.variables)
    (freed-all-good (live_ids k) (live_ids (with_process k w q)) k.variables p.id table
    (λ owner other t. live-id-kept k w q owner (λ h n. absurd (other (sym n))) t))

-- ---- all of them
pub own-good : (w : ℕ) (k : Kernel) (disc : List ℕ) (j : Kernel) → GoodState k disc → Own w k disc j → GoodState j disc
own-good w k disc j good (stays e) = subst⁻¹ (λ (x : Kernel). GoodState x disc) e good
own-good w k disc j good (moves q goes e) = subst⁻¹ (λ (x : Kernel). GoodState x disc) e (moved-good k disc w q good goes)
own-good w k disc j good (sets q name x a goes size sized placed e) =
    subst⁻¹ (λ (x : Kernel). GoodState x disc) e (set-good k disc w q good goes name x size sized)
own-good w k disc j good (ends fault live e) = subst⁻¹ (λ (x : Kernel). GoodState x disc) e (ended-state-good k disc w fault good)
