-- What an instruction does on two good states that show the same, where it asks for no place on the disc.
use Rattle.std.proofs.Common.{ℕ, ◌≡◌, ◌+◌, Bool, true, false, cond, ◌&&◌, List, [], ◌∷◌, ◌++◌, refl, sym, ap, ◌∙◌, subst, length, drop}
use lib.Dec.{eqb, leb}
use lib.IntN.{pos}
use mathlib.Core.Logic.{inl, inr}
use borrow.Author.Tests.{eqb-false}
use Rattle.buffer.proofs.Bools.{true-not-false}
use Rattle.buffer.specs.Buffer.{part}
use Rattle.buffer.specs.Lists.{any}
use Rattle.number.specs.Compare.{equals}
use Rattle.number.specs.declared.Number.{Number}
use Rattle.disc.specs.Directory.{contents, entry_at, files, run_of}
use Rattle.disc.proofs.Locations.{FileAt}
use Rattle.disc.specs.Name.{trimmed}
use Rattle.store.specs.File.{read_at}
use Rattle.variable.specs.Assign.{assigned, placing_fault, value_of}
use Rattle.variable.specs.Assign.{Placing}
use Rattle.std.specs.Prelude.{Ok, Err}
use Rattle.variable.specs.declared.Unplaced.TheVariants.{NoEntry, NoRun}
use Rattle.variable.specs.declared.Variables.{Variables}
use Rattle.machine.specs.Beyond.{Answered, advanced, awaited, breaks, carries_on, file_run, inside, is_awaited, pushed}
use Rattle.machine.specs.Beyond.{read_number_of, read_text, received, unless_breaks, with_open_file}
use Rattle.machine.specs.Effect.{assigns, faults, goes, stops}
use Rattle.machine.specs.Ended.{ended}
use Rattle.machine.specs.Limits.{stack_size}
use Rattle.machine.specs.Stack.{push, push_string}
use Rattle.machine.specs.State.{Local, is_live, no_process, process_at, with_file, with_local, with_process}
use Rattle.machine.specs.Turn.{Turned, answering, carried_out, setting}
use Rattle.machine.specs.declared.Kernel.{Kernel}
use Rattle.machine.specs.declared.Process.{Process}
use Rattle.machine.proofs.Changes.Change.{GoodState}
use Rattle.machine.proofs.Changes.Directories.{live-record, open_at}
use Rattle.machine.proofs.Goodness.GoodRecords.{GoodFile}
use Rattle.views.specs.Same.{View, aside, aside_kernel, shown_files, view_at, whose}
use Rattle.views.proofs.First.{any-alike, same-open, same-record, same-slots, same-bytes, same_id, same_live, same_size}
use Rattle.views.proofs.First.{whose-holds, whose-inside}
use Rattle.views.proofs.Putting.{ended-same, local-same, put-same, variables-same}

-- the same is printed, and the states after show the same
abbrev pub SameTurned : Turned → Turned → Type 0
SameTurned t u = (t.out ≡ u.out) × (view_at t.kernel t.disc ≡ view_at u.kernel u.disc)

-- the same fault, or states that show the same
pub data SameAnswered : Answered → Answered → Type 0 where
  both-go : {k l : Kernel} {d e : List ℕ} → view_at k d ≡ view_at l e → SameAnswered (carries_on k d) (carries_on l e)
  both-break : {n m : ℕ} → n ≡ m → SameAnswered (breaks n) (breaks m)

module _ (k₁ k₂ : Kernel) (d₁ d₂ : List ℕ) (g₁ : GoodState k₁ d₁) (g₂ : GoodState k₂ d₂) (same : view_at k₁ d₁ ≡ view_at k₂ d₂)
    (slot : ℕ) (live : is_live (process_at k₁ slot) ≡ true) where
  abbrev p₁ : Process
  p₁ = process_at k₁ slot

  abbrev p₂ : Process
  p₂ = process_at k₂ slot

  pub files-same : shown_files d₁ ≡ shown_files d₂
  files-same = ap (λ (v : View). v.files) same

  pub kernel-same : aside_kernel d₁ k₁ ≡ aside_kernel d₂ k₂
  kernel-same = ap (λ (v : View). v.kernel) same

  pub record-same : aside d₁ p₁ ≡ aside d₂ p₂
  record-same = same-record k₁ k₂ d₁ d₂ g₁ g₂ same slot

  -- a record put into the slot
  pub put-view : (p q : Process) → aside d₁ p ≡ aside d₂ q → view_at (with_process k₁ slot p) d₁ ≡ view_at (with_process k₂ slot q) d₂
  put-view p q e = λ z. record { files = files-same z; kernel = put-same k₁ k₂ d₁ d₂ kernel-same slot p q e z }

  pub ended-view : (fault : ℕ) → view_at (ended k₁ slot fault) d₁ ≡ view_at (ended k₂ slot fault) d₂
  ended-view fault = λ z. record { files = files-same z; kernel = ended-same k₁ k₂ d₁ d₂ kernel-same slot fault record-same z }

  pub moves-on : (l : Local) → view_at (with_process k₁ slot (with_local p₁ l)) d₁ ≡ view_at (with_process k₂ slot (with_local p₂ l)) d₂
  moves-on l = put-view (with_local p₁ l) (with_local p₂ l) (local-same d₁ d₂ p₁ p₂ record-same l)

  pub answering-same : (a b : Answered) → SameAnswered a b → SameTurned (answering k₁ slot d₁ a) (answering k₂ slot d₂ b)
  answering-same _ _ (both-go e) = (refl, e)
  answering-same _ _ (both-break {n} e) = (refl, ended-view n ∙ ap (λ (f : ℕ). view_at (ended k₂ slot f) d₂) e)

  -- a test that is the same on both
  pub cond-answered : (a b : Bool) → a ≡ b → {x y u v : Answered} → SameAnswered x y → (a ≡ false → SameAnswered u v)
      → SameAnswered (cond a x u) (cond b y v)
  cond-answered true true e s t = s
  cond-answered false false e s t = t refl
  cond-answered true false e s t = absurd (true-not-false refl e)
  cond-answered false true e s t = absurd (true-not-false refl (sym e))

  pub unless-answered : (a b : Bool) → a ≡ b → (fault : ℕ) → {u v : Answered} → (a ≡ true → SameAnswered u v)
      → SameAnswered (unless_breaks a fault u) (unless_breaks b fault v)
  unless-answered true true e f t = t refl
  unless-answered false false e f t = both-break refl
  unless-answered true false e f t = absurd (true-not-false refl e)
  unless-answered false true e f t = absurd (true-not-false refl (sym e))

  -- ---- CLOSE, WAITUNTILDONE
  awaited-alike : (id : Number) → any (is_awaited k₁ slot d₁ id) k₁.processes ≡ any (is_awaited k₂ slot d₂ id) k₂.processes
  awaited-alike id =
      any-alike (is_awaited k₁ slot d₁ id) (is_awaited k₂ slot d₂ id) no_process k₁.processes k₂.processes
      (same-slots k₁ k₂ d₁ d₂ g₁ g₂ same)
      (λ s z. same_live k₁ k₂ d₁ d₂ g₁ g₂ same s z && equals id (pos (same_id k₁ k₂ d₁ d₂ g₁ g₂ same s z)))

  pub awaited-same : (id : Number) (stay go : Local) → SameAnswered (awaited k₁ slot d₁ id stay go) (awaited k₂ slot d₂ id stay go)
  awaited-same id stay go =
      both-go
      (moves-on (cond (any (is_awaited k₁ slot d₁ id) k₁.processes) stay go)
      ∙ (λ z. view_at (with_process k₂ slot (with_local p₂ (cond (awaited-alike id z) stay go))) d₂))

  -- ---- the open file
  pub size-same : p₁.file.len ≡ p₂.file.len
  size-same = same_size k₁ k₂ d₁ d₂ g₁ g₂ same slot

  pub offset-same : p₁.file.offset ≡ p₂.file.offset
  unfolding aside
  offset-same = ap (λ (q : Process). q.file.offset) record-same

  open-file : (k : Kernel) (d : List ℕ) → GoodState k d → is_live (process_at k slot) ≡ true → ((process_at k slot).file.len ≡ 0 → ⊥)
      → FileAt d (file_run (process_at k slot).file)
  open-file k d g l some = go (live-record g slot l).file
    where
      go : GoodFile (files d) (process_at k slot).file → FileAt d (file_run (process_at k slot).file)
      go (inl c) = absurd (some c.len)
      go (inr o) = open_at o

  live₂ : is_live p₂ ≡ true
  live₂ = sym (same_live k₁ k₂ d₁ d₂ g₁ g₂ same slot) ∙ live

  pub file₁ : (p₁.file.len ≡ 0 → ⊥) → FileAt d₁ (file_run p₁.file)
  file₁ some = open-file k₁ d₁ g₁ live some

  pub file₂ : (p₁.file.len ≡ 0 → ⊥) → FileAt d₂ (file_run p₂.file)
  file₂ some = open-file k₂ d₂ g₂ live₂ (λ z. some (size-same ∙ z))

  pub bytes-same : (p₁.file.len ≡ 0 → ⊥) → contents d₁ (file_run p₁.file) ≡ contents d₂ (file_run p₂.file)
  bytes-same some =
      let r₁ = file_run p₁.file in
      let r₂ = file_run p₂.file in
      whose-holds d₁ r₁ (file₁ some)
      ∙ same-bytes k₁ k₂ d₁ d₂ g₁ g₂ same (whose d₁ r₁) (whose-inside d₁ r₁ (file₁ some))
      ∙ ap (λ (i : ℕ). contents d₂ (run_of (entry_at d₂ i))) (same-open k₁ k₂ d₁ d₂ g₁ g₂ same slot live some)
      ∙ sym (whose-holds d₂ r₂ (file₂ some))

  -- on with the same file, further in
  advanced-record : (n : ℕ) (l m : Local) → l ≡ m
      → aside d₁ (with_file (with_local p₁ l) (advanced p₁.file n)) ≡ aside d₂ (with_file (with_local p₂ m) (advanced p₂.file n))
  unfolding aside
  advanced-record n l m e =
      λ z. with_file (with_local (record-same z) (e z)) (advanced (record-same z).file n)

  pub with-open : {u v : Answered} → ((p₁.file.len ≡ 0 → ⊥) → SameAnswered u v)
      → SameAnswered (with_open_file k₁ slot d₁ u) (with_open_file k₂ slot d₂ v)
  with-open t =
      cond-answered (eqb p₁.file.len 0) (eqb p₂.file.len 0) (ap (λ (n : ℕ). eqb n 0) size-same) (both-break refl)
      (λ e. t (eqb-false p₁.file.len 0 e))

  pub inside-same : (n : ℕ) {u v : Answered} → (leb (p₁.file.offset + n) p₁.file.len ≡ true → SameAnswered u v)
      → SameAnswered (inside k₁ slot d₁ n u) (inside k₂ slot d₂ n v)
  inside-same n t =
      unless-answered (leb (p₁.file.offset + n) p₁.file.len) (leb (p₂.file.offset + n) p₂.file.len)
      (λ z. leb (offset-same z + n) (size-same z)) 12 t

  received-same : (s t : List ℕ) → s ≡ t → (n : ℕ) (l : Local) → SameAnswered (received k₁ slot d₁ s n l) (received k₂ slot d₂ t n l)
  received-same s t e n l =
      unless-answered (leb (length s) stack_size) (leb (length t) stack_size) (ap (λ (x : List ℕ). leb (length x) stack_size) e) 4
      (λ h. both-go (put-view _ _ (advanced-record n (pushed l s) (pushed l t) (ap (pushed l) e))))

  pub number-same : (kind : ℕ) (l : Local) → SameAnswered (read_number_of k₁ slot d₁ kind l) (read_number_of k₂ slot d₂ kind l)
  unfolding read_at
  number-same kind l =
      with-open (λ some. inside-same kind
      (λ h. received-same _ _ (λ z. push l.stack kind (part (bytes-same some z) (offset-same z) kind)) kind l))

  pub text-same : (l : Local) → SameAnswered (read_text k₁ slot d₁ l) (read_text k₂ slot d₂ l)
  text-same l =
      with-open (λ some.
      let t₁ = trimmed (drop p₁.file.offset (contents d₁ (file_run p₁.file))) in
      let n = length t₁ + 1 in
      subst
      (λ (t : List ℕ). SameAnswered (inside k₁ slot d₁ n (received k₁ slot d₁ (push_string l.stack (t₁ ++ (0 ∷ []))) n l))
      (inside k₂ slot d₂ (length t + 1) (received k₂ slot d₂ (push_string l.stack (t ++ (0 ∷ []))) (length t + 1) l)))
      (λ z. trimmed (drop (offset-same z) (bytes-same some z)))
      (inside-same n (λ h. received-same _ _ refl n l)))

  -- ---- an instruction that asks nothing of disc or process table
  pub goes-same : (l : Local) (out : List ℕ) → SameTurned (carried_out k₁ slot d₁ (goes l out)) (carried_out k₂ slot d₂ (goes l out))
  unfolding carried_out
  goes-same l out = (refl, moves-on l)

  pub faults-same : (n : ℕ) → SameTurned (carried_out k₁ slot d₁ (faults n)) (carried_out k₂ slot d₂ (faults n))
  unfolding carried_out
  faults-same n = (refl, ended-view n)

  pub stops-same : SameTurned (carried_out k₁ slot d₁ stops) (carried_out k₂ slot d₂ stops)
  unfolding carried_out
  stops-same = (refl, ended-view 0)

  setting-same : (a : Placing) (v : Variables) (l : Local) → SameTurned (setting k₁ slot d₁ a v l) (setting k₂ slot d₂ a v l)
  setting-same (Ok a) v l = (
    refl,
    λ z. record {
      files = files-same z;
      kernel = variables-same (with_process k₁ slot (with_local p₁ l)) (with_process k₂ slot (with_local p₂ l)) d₁ d₂
          (put-same k₁ k₂ d₁ d₂ kernel-same slot _ _ (local-same d₁ d₂ p₁ p₂ record-same l)) v v refl z;
    },
  )
  setting-same (Err e) v l = (refl, ended-view (placing_fault (Err e)))

  pub assigns-same : (name kind : ℕ) (bytes : List ℕ) (l : Local)
      → SameTurned (carried_out k₁ slot d₁ (assigns name kind bytes l)) (carried_out k₂ slot d₂ (assigns name kind bytes l))
  unfolding carried_out
  assigns-same name kind bytes l =
      let a = assigned k₁.variables name p₁.id (value_of kind bytes) in
      subst (λ b. SameTurned (setting k₁ slot d₁ a.placing a.variables l) (setting k₂ slot d₂ b.placing b.variables l))
      (λ z. assigned (kernel-same z).variables name (same_id k₁ k₂ d₁ d₂ g₁ g₂ same slot z) (value_of kind bytes))
      (setting-same a.placing a.variables l)
