-- A start on two good states that show the same: FORK and run.
use Rattle.std.specs.Prelude.{None, Option, Some}
use Rattle.std.proofs.Common.{ℕ, ◌≡◌, ◌+◌, ◌<◌, Bool, true, false, not, List, refl, sym, ap, ◌∙◌, subst}
use lib.Dec.{eqb}
use Rattle.disc.specs.Directory.{entry_at, file_count, good_disc, lookup, run_of}
use Rattle.disc.proofs.Lookups.{lookup-at}
use Rattle.machine.specs.Beyond.{forked, push_id}
use Rattle.machine.specs.Limits.{id_limit}
use Rattle.machine.specs.Start.{Starting, refuses, start_in, started, started_process, starting, starts}
use Rattle.machine.specs.State.{Local, ended_slot, is_live, no_process, process_at, with_local}
use Rattle.machine.specs.declared.Kernel.{Kernel}
use Rattle.machine.specs.declared.Process.{Process}
use Rattle.machine.proofs.Changes.Change.{GoodState}
use Rattle.views.specs.Same.{aside, aside_kernel, view_at, whose}
use Rattle.views.proofs.Appended.{whose-is}
use Rattle.views.proofs.First.{index-alike, same-len, same-lookup, same-slots, same_count, same_live, same_name}
use Rattle.views.proofs.Putting.{local-same, put-same}
use Rattle.views.proofs.Turning.{SameAnswered, both-go, moves-on, record-same}

-- the file at place i stands at place i
pub whose-itself : (disc : List ℕ) → good_disc disc ≡ true → (i : ℕ) → i < file_count disc → whose disc (run_of (entry_at disc i)) ≡ i
whose-itself disc good i h = whose-is disc good (run_of (entry_at disc i)) (record { place = i; inside = h; run_is = refl })

-- a process just started shows the place of its file
started-shows : (disc : List ℕ) → good_disc disc ≡ true → (i : ℕ) → i < file_count disc → (id : ℕ)
    → aside disc (started_process (entry_at disc i) id)
    ≡ started_process (record { name = (entry_at disc i).name; start = i; len = (entry_at disc i).len }) id
unfolding aside
started-shows disc good i h id =
    λ z. started_process (record { name = (entry_at disc i).name; start = whose-itself disc good i h z; len = (entry_at disc i).len }) id

module _ (k₁ k₂ : Kernel) (d₁ d₂ : List ℕ) (g₁ : GoodState k₁ d₁) (g₂ : GoodState k₂ d₂) (same : view_at k₁ d₁ ≡ view_at k₂ d₂) where
  ended-alike : ended_slot k₁ ≡ ended_slot k₂
  unfolding ended_slot
  ended-alike =
      index-alike (λ (p : Process). not (is_live p)) (λ (p : Process). not (is_live p)) no_process k₁.processes k₂.processes
      (same-slots k₁ k₂ d₁ d₂ g₁ g₂ same) (λ i h. ap not (same_live k₁ k₂ d₁ d₂ g₁ g₂ same i))

  kernels : aside_kernel d₁ k₁ ≡ aside_kernel d₂ k₂
  kernels = ap (λ v. v.kernel) same

  module _ (i : ℕ) (h : i < file_count d₁) where
    process-same : aside d₁ (started_process (entry_at d₁ i) k₁.next) ≡ aside d₂ (started_process (entry_at d₂ i) k₂.next)
    process-same =
        let m : i < file_count d₂ = subst (λ (n : ℕ). i < n) (same_count k₁ k₂ d₁ d₂ g₁ g₂ same) h in
        started-shows d₁ g₁.sound i h k₁.next
        ∙ (λ z. started_process
        (record { name = same_name k₁ k₂ d₁ d₂ g₁ g₂ same i h z; start = i; len = same-len k₁ k₂ d₁ d₂ g₁ g₂ same i h z }) (kernels z).next)
        ∙ sym (started-shows d₂ g₂.sound i m k₂.next)

    -- the state with the new process
    pub started-kernel : (child : ℕ)
        → aside_kernel d₁ (started k₁ child (entry_at d₁ i)) ≡ aside_kernel d₂ (started k₂ child (entry_at d₂ i))
    started-kernel child =
        let put = put-same k₁ k₂ d₁ d₂ kernels child _ _ process-same in
        λ z. record { variables = (put z).variables; next = (kernels z).next + 1; zeros = (put z).zeros; processes = (put z).processes }

    pub started-view : (child : ℕ) → view_at (started k₁ child (entry_at d₁ i)) d₁ ≡ view_at (started k₂ child (entry_at d₂ i)) d₂
    started-view child = λ z. record { files = (same z).files; kernel = started-kernel child z }

  -- refused alike, or the same file started in the same slot
  pub data SameStarting : Starting → Starting → Type 0 where
    both-refuse : (n : ℕ) → SameStarting (refuses n) (refuses n)
    both-start : (child i : ℕ) → i < file_count d₁ → SameStarting (starts child (entry_at d₁ i)) (starts child (entry_at d₂ i))

  starting-in : (e f : Option ℕ) (b : Bool) (name : List ℕ) → lookup d₁ name ≡ f → SameStarting (start_in e f b d₁) (start_in e f b d₂)
  starting-in None f b name q = both-refuse 12
  starting-in (Some s) None b name q = both-refuse 10
  starting-in (Some s) (Some i) true name q = both-refuse 13
  starting-in (Some s) (Some i) false name q = both-start s i (lookup-at d₁ name i q).inside

  pub starting-same : (name : List ℕ) → SameStarting (starting k₁ d₁ name) (starting k₂ d₂ name)
  unfolding starting
  starting-same name =
      subst (λ s. SameStarting (start_in (ended_slot k₁) (lookup d₁ name) (eqb k₁.next id_limit) d₁) s)
      (λ z. start_in (ended-alike z) (same-lookup k₁ k₂ d₁ d₂ g₁ g₂ same name z) (eqb (kernels z).next id_limit) d₂)
      (starting-in (ended_slot k₁) (lookup d₁ name) (eqb k₁.next id_limit) name refl)

  module _ (slot : ℕ) (live : is_live (process_at k₁ slot) ≡ true) where
    forked-by : (a b : Starting) → SameStarting a b → (l : Local) → SameAnswered (forked k₁ slot d₁ a l) (forked k₂ slot d₂ b l)
    forked-by _ _ (both-refuse n) l = both-go (moves-on k₁ k₂ d₁ d₂ g₁ g₂ same slot live (push_id l 0))
    forked-by _ _ (both-start child i h) l =
        both-go (λ z. record {
          files = (same z).files;
          kernel = put-same (started k₁ child (entry_at d₁ i)) (started k₂ child (entry_at d₂ i)) d₁ d₂ (started-kernel i h child) slot _ _
              own z;
        })
      where
        own : aside d₁ (with_local (process_at k₁ slot) (push_id l k₁.next))
            ≡ aside d₂ (with_local (process_at k₂ slot) (push_id l k₂.next))
        own = local-same d₁ d₂ _ _ (record-same k₁ k₂ d₁ d₂ g₁ g₂ same slot live) (push_id l k₁.next)
            ∙ (λ z. aside d₂ (with_local (process_at k₂ slot) (push_id l (kernels z).next)))

    pub forked-same : (name : List ℕ) (l : Local)
        → SameAnswered (forked k₁ slot d₁ (starting k₁ d₁ name) l) (forked k₂ slot d₂ (starting k₂ d₂ name) l)
    forked-same name l = forked-by _ _ (starting-same name) l
