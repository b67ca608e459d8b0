-- What a state shows when a record, the variables or the next ID changes.
use Rattle.std.proofs.Common.{ℕ, ◌≡◌, true, cond, ◌&&◌, not, List, sym, ap, ◌∙◌}
use Rattle.std.proofs.lemmas.List.{map-set}
use lib.Dec.{eqb}
use lib.ListN.{get_or, get_or-map}
use borrow.Author.Tests.{ne_eqb}
use Rattle.place.specs.declared.Run.{Run}
use Rattle.variable.specs.Table.{freed_all}
use Rattle.variable.specs.declared.Variables.{Variables}
use Rattle.machine.specs.Beyond.{advanced, opened}
use Rattle.machine.specs.Ended.{ended, ended_process}
use Rattle.machine.specs.State.{Local, is_live, no_process, process_at, with_file, with_local, with_process, with_share, with_variables}
use Rattle.machine.specs.declared.Kernel.{Kernel}
use Rattle.machine.specs.declared.Process.{Process}
use Rattle.views.specs.Same.{aside, aside_kernel, whose}

-- a record put into its slot shows there
pub put-shows : (disc : List ℕ) (k : Kernel) (slot : ℕ) (p : Process)
    → aside_kernel disc (with_process k slot p) ≡ with_process (aside_kernel disc k) slot (aside disc p)
put-shows disc k slot p =
    λ z. record { variables = k.variables; next = k.next; zeros = k.zeros; processes = map-set (aside disc) k.processes slot p z }

module _ (k₁ k₂ : Kernel) (d₁ d₂ : List ℕ) (same : aside_kernel d₁ k₁ ≡ aside_kernel d₂ k₂) where
  pub put-same : (slot : ℕ) (p q : Process) → aside d₁ p ≡ aside d₂ q
      → aside_kernel d₁ (with_process k₁ slot p) ≡ aside_kernel d₂ (with_process k₂ slot q)
  put-same slot p q e = put-shows d₁ k₁ slot p ∙ (λ z. with_process (same z) slot (e z)) ∙ sym (put-shows d₂ k₂ slot q)

  pub variables-same : (v w : Variables) → v ≡ w → aside_kernel d₁ (with_variables k₁ v) ≡ aside_kernel d₂ (with_variables k₂ w)
  variables-same v w e = λ z. with_variables (same z) (e z)

-- ---- a record changed by what it keeps of its own
module _ (d₁ d₂ : List ℕ) (p q : Process) (e : aside d₁ p ≡ aside d₂ q) where
  pub local-same : (l : Local) → aside d₁ (with_local p l) ≡ aside d₂ (with_local q l)
  unfolding aside
  local-same l = ap (λ (r : Process). with_local r l) e

  pub share-same : (n : ℕ) → aside d₁ (with_share p n) ≡ aside d₂ (with_share q n)
  unfolding aside
  share-same n = ap (λ (r : Process). with_share r n) e

  pub ended-record : (fault : ℕ) → aside d₁ (ended_process p fault) ≡ aside d₂ (ended_process q fault)
  unfolding aside
  ended-record fault = ap (λ (r : Process). ended_process r fault) e

id-same : (d₁ d₂ : List ℕ) (p q : Process) → aside d₁ p ≡ aside d₂ q → p.id ≡ q.id
unfolding aside
id-same d₁ d₂ p q e = ap (λ (r : Process). r.id) e

pub ended-same : (k₁ k₂ : Kernel) (d₁ d₂ : List ℕ) → aside_kernel d₁ k₁ ≡ aside_kernel d₂ k₂ → (slot fault : ℕ)
    → aside d₁ (process_at k₁ slot) ≡ aside d₂ (process_at k₂ slot)
    → aside_kernel d₁ (ended k₁ slot fault) ≡ aside_kernel d₂ (ended k₂ slot fault)
unfolding ended
ended-same k₁ k₂ d₁ d₂ same slot fault e =
    variables-same (with_process k₁ slot (ended_process (process_at k₁ slot) fault))
    (with_process k₂ slot (ended_process (process_at k₂ slot) fault))
    d₁ d₂ (put-same k₁ k₂ d₁ d₂ same slot _ _ (ended-record d₁ d₂ _ _ e fault))
    (freed_all k₁.variables (process_at k₁ slot).id) (freed_all k₂.variables (process_at k₂ slot).id)
    (λ z. freed_all (same z).variables (id-same d₁ d₂ _ _ e z))

-- states that show the same have records that do
pub record-of : (k₁ k₂ : Kernel) (d₁ d₂ : List ℕ) → aside_kernel d₁ k₁ ≡ aside_kernel d₂ k₂ → (slot : ℕ)
    → aside d₁ (process_at k₁ slot) ≡ aside d₂ (process_at k₂ slot)
unfolding aside
record-of k₁ k₂ d₁ d₂ same slot =
    sym (get_or-map (aside d₁) k₁.processes slot no_process)
    ∙ ap (λ (k : Kernel). get_or k.processes slot (aside d₁ no_process)) same
    ∙ get_or-map (aside d₂) k₂.processes slot no_process

-- on with the same file, further in
pub advanced-same : (d₁ d₂ : List ℕ) (p q : Process) → aside d₁ p ≡ aside d₂ q → (n : ℕ) (l m : Local) → l ≡ m
    → aside d₁ (with_file (with_local p l) (advanced p.file n)) ≡ aside d₂ (with_file (with_local q m) (advanced q.file n))
unfolding aside
advanced-same d₁ d₂ p q e n l m f = λ z. with_file (with_local (e z) (f z)) (advanced (e z).file n)

-- a file opened shows its place
pub open-shows : (disc : List ℕ) (p : Process) (run : Run) (i : ℕ) → is_live p ≡ true → (run.len ≡ 0 → ⊥) → whose disc run ≡ i
    → aside disc (with_file p (opened run)) ≡ with_file (aside disc p) (record { start = i; len = run.len; offset = 0 })
unfolding aside
open-shows disc p run i live some w =
    λ z. with_file (aside disc p) (record { start = at z; len = run.len; offset = 0 })
  where
    at : cond (is_live p && not (eqb run.len 0)) (whose disc run) 0 ≡ i
    at = rw (live, ne_eqb run.len 0 some) w
