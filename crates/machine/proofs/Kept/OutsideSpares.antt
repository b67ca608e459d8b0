-- What happens outside a process leaves the bytes of every file, and spares every live process: its record, its variables and the bytes of
-- its program.
use Prim.Native.Nat.{ℕ}
use mathlib.Core.Path.{◌≡◌, ap, ◌∙◌, subst⁻¹}
use mathlib.Core.Bool.{true}
use mathlib.Core.List.{List}
use Rattle.place.specs.declared.Run.{Run}
use Rattle.disc.specs.Directory.{contents, entry_at, run_of}
use Rattle.disc.proofs.Locations.{FileAt}
use Rattle.disc.proofs.Goodness.{good-entry-at}
use Rattle.store.proofs.Contents.{erased-contents}
use Rattle.store.proofs.Invariant.{present}
use Rattle.store.proofs.Effects.{stored-contents}
use Rattle.variable.specs.Table.{owned}
use Rattle.machine.specs.State.{is_live, process_at}
use Rattle.machine.specs.declared.Kernel.{Kernel}
use Rattle.machine.proofs.Kept.Begins.{started-spares, starting-begins}
use Rattle.machine.proofs.Changes.Change.{GoodState, Outside, nothing, stores, erases, begins}
use Rattle.machine.proofs.Changes.Directories.{program-at}
use Rattle.machine.proofs.Kept.Spared.{Spared}

module _ {k : Kernel} {disc : List ℕ} (g : GoodState k disc) {name : List ℕ} {j : Kernel} {after : List ℕ} where
  -- a file that is there keeps its bytes, also one that is erased: "data bytes remain"
  pub outside-contents : {run : Run} → FileAt disc run → Outside name k disc j after → contents after run ≡ contents disc run
  outside-contents {run} file o = subst⁻¹ (λ (r : Run). contents after r ≡ contents disc r) file.run_is (kinds o)
    where
      place : ℕ
      place = file.place

      same : {d : List ℕ} → after ≡ d → contents after (run_of (entry_at disc place)) ≡ contents d (run_of (entry_at disc place))
      same f = ap (λ (d : List ℕ). contents d (run_of (entry_at disc place))) f

      kinds : Outside name k disc j after → contents after (run_of (entry_at disc place)) ≡ contents disc (run_of (entry_at disc place))
      kinds (nothing e f) = same f
      kinds (stores title bytes at a e f) = same f ∙ stored-contents bytes g.sound a place file.inside
      kinds (erases i m u e f) =
          same f
          ∙ erased-contents (present disc g.sound i m) (run_of (entry_at disc place))
          (good-entry-at disc g.sound place file.inside).low
      kinds (begins slot d t e f) = same f

  module _ (s : ℕ) (h : is_live (process_at k s) ≡ true) where
    record-kept : Outside name k disc j after → process_at j s ≡ process_at k s
    record-kept (nothing e f) = ap (λ (x : Kernel). process_at x s) e
    record-kept (stores title bytes at a e f) = ap (λ (x : Kernel). process_at x s) e
    record-kept (erases i m u e f) = ap (λ (x : Kernel). process_at x s) e
    record-kept (begins slot d t e f) = ap (λ (x : Kernel). process_at x s) e ∙ started-spares (starting-begins name k disc slot d t) s h

    variables-kept : Outside name k disc j after → owned j.variables (process_at k s).id ≡ owned k.variables (process_at k s).id
    variables-kept (nothing e f) = ap (λ (x : Kernel). owned x.variables (process_at k s).id) e
    variables-kept (stores title bytes at a e f) = ap (λ (x : Kernel). owned x.variables (process_at k s).id) e
    variables-kept (erases i m u e f) = ap (λ (x : Kernel). owned x.variables (process_at k s).id) e
    variables-kept (begins slot d t e f) = ap (λ (x : Kernel). owned x.variables (process_at k s).id) e

    pub outside-spares : Outside name k disc j after → Spared s k disc j after
    outside-spares o =
        record { process = record-kept o; variables = variables-kept o; program = outside-contents (program-at g s h) o }
