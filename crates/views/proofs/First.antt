-- Two good storages that differ in places alone: the instruction of each process does the same.
use Rattle.std.specs.Prelude.{None, Option, Some}
use Prim.Native.Nat.{ℕ, zero, suc, ◌+◌, ◌≤◌, ◌<◌}
use mathlib.Core.Path.{◌≡◌, refl, sym, ap, ap₂, ◌∙◌, subst, subst⁻¹}
use mathlib.Core.Bool.{Bool, true, false, cond, ◌&&◌, ◌||◌, not, and-false}
use mathlib.Core.Logic.{inl, inr, ⊎_elim}
use mathlib.Core.List.{List, [], ◌∷◌, map}
use native.Mathlib.Nat.{le_of_suc-le-suc, not-suc-le-zero}
use native.Mathlib.Omega.{arith}
use lib.Dec.{eqb}
use lib.ListN.{get_or, length, length-map, get_or-map}
use borrow.Author.Tests.{eq-eqb, eqb-false, eqb-true, ne_eqb}
use Rattle.buffer.specs.Lists.{any, here_or, index, same as same_bytes}
use Rattle.buffer.proofs.Equivalence.{both_ways}
use Rattle.place.proofs.Place.{apart-is}
use Rattle.disc.proofs.Goodness.{beside_at, good-entry-at}
use Rattle.machine.specs.Beyond.{file_run}
use Rattle.machine.specs.GoodArea.{is_open_in, is_program}
use Rattle.machine.specs.Operations.{in_use, uses}
use Rattle.machine.specs.declared.OpenFile.{OpenFile}
use Rattle.machine.proofs.Goodness.GoodRecords.{GoodFile}
use Rattle.buffer.proofs.Bools.{and_both, and_left, and_right, true-not-false}
use Rattle.buffer.proofs.Lists.{tab-at, tab-length}
use Rattle.buffer.proofs.Tables.{index-tab-at, index-tab-none}
use Rattle.place.specs.declared.Run.{Run}
use Rattle.disc.specs.Directory.{contents, entry_at, file_count, files, good_disc, lookup, named, nowhere_unless, run_of}
use Rattle.disc.proofs.Locations.{FileAt}
use Rattle.disc.specs.Name.{good_name, padded}
use Rattle.disc.specs.declared.Entry.{Entry}
use Rattle.variable.specs.Table.{owned}
use Rattle.machine.specs.Exec.{exec}
use Rattle.machine.specs.Observation.{slot_in}
use Rattle.views.specs.Same.{Shown, View, aside, shown, is_at_run, view_at, whose}
use Rattle.machine.specs.State.{is_live, local_of, no_process, process_at}
use Rattle.machine.specs.Turn.{effect_at, program_of}
use Rattle.machine.specs.declared.Kernel.{Kernel}
use Rattle.machine.specs.declared.Process.{Process}
use Rattle.machine.proofs.Changes.Change.{GoodState}
use Rattle.machine.proofs.Changes.Directories.{live-record, open_at, program-at}

-- the file that a record names holds what the view shows at its place
pub whose-holds : (disc : List ℕ) (run : Run) → FileAt disc run
    → contents disc run ≡ contents disc (run_of (entry_at disc (whose disc run)))
whose-holds disc run f = go (index (is_at_run run) (files disc)) refl
  where
    holds : is_at_run run (entry_at disc f.place) ≡ true
    holds = and_both (eq-eqb (entry_at disc f.place).start run.start (sym (ap (λ (r : Run). r.start) f.run_is)))
        (eq-eqb (entry_at disc f.place).len run.len (sym (ap (λ (r : Run). r.len) f.run_is)))

    go : (w : Option ℕ) → index (is_at_run run) (files disc) ≡ w → contents disc run ≡ contents disc (run_of (entry_at disc (slot_in w)))
    go None e = absurd (true-not-false holds (index-tab-none (entry_at disc) (file_count disc) (is_at_run run) e f.place f.inside))
    go (Some i) e =
        let t = (index-tab-at (entry_at disc) (file_count disc) (is_at_run run) i e).1 in
        let s : (entry_at disc i).start
        ≡ run.start = eqb-true _ _ (and_left (eqb (entry_at disc i).start run.start) (eqb (entry_at disc i).len run.len) t) in
        let l : (entry_at disc i).len
        ≡ run.len = eqb-true _ _ (and_right (eqb (entry_at disc i).start run.start) (eqb (entry_at disc i).len run.len) t) in
        λ z. contents disc (record { start = sym s z; len = sym l z })

pub whose-inside : (disc : List ℕ) (run : Run) → FileAt disc run → whose disc run < file_count disc
whose-inside disc run f = go (index (is_at_run run) (files disc)) refl
  where
    holds : is_at_run run (entry_at disc f.place) ≡ true
    holds = and_both (eq-eqb (entry_at disc f.place).start run.start (sym (ap (λ (r : Run). r.start) f.run_is)))
        (eq-eqb (entry_at disc f.place).len run.len (sym (ap (λ (r : Run). r.len) f.run_is)))

    go : (w : Option ℕ) → index (is_at_run run) (files disc) ≡ w → slot_in w < file_count disc
    go None e = absurd (true-not-false holds (index-tab-none (entry_at disc) (file_count disc) (is_at_run run) e f.place f.inside))
    go (Some i) e = (index-tab-at (entry_at disc) (file_count disc) (is_at_run run) i e).0

pub get_d_any : {A : Type 0} (l : List A) (i : ℕ) (d e : A) → i < length l → get_or l i d ≡ get_or l i e
get_d_any [] i d e h = absurd (not-suc-le-zero h)
get_d_any (x ∷ l) zero d e h = refl
get_d_any (x ∷ l) (suc i) d e h = get_d_any l i d e (le_of_suc-le-suc h)

pub shown-bytes : (disc : List ℕ) (i : ℕ) (d : Shown) → i < file_count disc
    → (get_or (map (shown disc) (files disc)) i d).bytes ≡ contents disc (run_of (entry_at disc i))
shown-bytes disc i d h =
    ap (λ (x : Shown). x.bytes)
    (get_d_any (map (shown disc) (files disc)) i d (shown disc (entry_at disc 0))
    (subst⁻¹ (λ (n : ℕ). i < n) (length-map (files disc) (shown disc) ∙ tab-length (entry_at disc) (file_count disc)) h)
    ∙ get_or-map (shown disc) (files disc) i (entry_at disc 0))
    ∙ ap (λ (e : Entry). contents disc (run_of e)) (tab-at (entry_at disc) (file_count disc) i (entry_at disc 0) h)

-- ---- a start is one file's
pub start-once : (disc : List ℕ) → good_disc disc ≡ true → (i j : ℕ) → i < file_count disc → j < file_count disc
    → (entry_at disc i).start ≡ (entry_at disc j).start → i ≡ j
start-once disc good i j h k e = go (eqb i j) refl
  where
    go : (t : Bool) → eqb i j ≡ t → i ≡ j
    go true q = eqb-true i j q
    go false q =
        let sides = (apart-is (run_of (entry_at disc i)) (run_of (entry_at disc j)) (beside_at disc good i j h k (eqb-false i j
        q)).clear).sides in
        absurd (⊎_elim (λ (w : (entry_at disc i).start + (entry_at disc i).len ≤ (entry_at disc j).start). omega (
          arith,
          (good-entry-at
              disc good i h).some,
        ))
        (λ (w : (entry_at disc j).start + (entry_at disc j).len ≤ (entry_at disc i).start). omega (
          arith,
          (good-entry-at disc good j
              k).some,
        )) sides)

pub whose-entry : (disc : List ℕ) (run : Run) → FileAt disc run
    → ((entry_at disc (whose disc run)).start ≡ run.start) × ((entry_at disc (whose disc run)).len ≡ run.len)
whose-entry disc run f = go (index (is_at_run run) (files disc)) refl
  where
    holds : is_at_run run (entry_at disc f.place) ≡ true
    holds = and_both (eq-eqb (entry_at disc f.place).start run.start (sym (ap (λ (r : Run). r.start) f.run_is)))
        (eq-eqb (entry_at disc f.place).len run.len (sym (ap (λ (r : Run). r.len) f.run_is)))

    go : (w : Option ℕ) → index (is_at_run run) (files disc) ≡ w
        → ((entry_at disc (slot_in w)).start ≡ run.start) × ((entry_at disc (slot_in w)).len ≡ run.len)
    go None e = absurd (true-not-false holds (index-tab-none (entry_at disc) (file_count disc) (is_at_run run) e f.place f.inside))
    go (Some i) e =
        let t = (index-tab-at (entry_at disc) (file_count disc) (is_at_run run) i e).1 in (
          eqb-true _ _ (and_left (eqb (entry_at disc i).start run.start) (eqb (entry_at disc i).len run.len) t),
          eqb-true _ _ (and_right (eqb (entry_at disc i).start run.start) (eqb (entry_at disc i).len run.len) t),
        )

-- a record names file i just where i is the place that its start stands for
pub names-it : (disc : List ℕ) → good_disc disc ≡ true → (run : Run) → FileAt disc run → (i : ℕ) → i < file_count disc
    → eqb run.start (entry_at disc i).start && eqb run.len (entry_at disc i).len ≡ eqb i (whose disc run)
names-it disc good run f i h =
    both_ways (eqb run.start (entry_at disc i).start && eqb run.len (entry_at disc i).len) (eqb i (whose disc run))
    (λ t. eq-eqb i (whose disc run) (start-once disc good i (whose disc run) h (whose-inside disc run f)
    (sym (eqb-true _ _ (and_left (eqb run.start (entry_at disc i).start) (eqb run.len (entry_at disc i).len) t)) ∙ sym w.0)))
    (λ t. let q = eqb-true i (whose disc run) t in
    and_both (eq-eqb run.start (entry_at disc i).start (sym w.0 ∙ ap (λ (n : ℕ). (entry_at disc n).start) (sym q)))
    (eq-eqb run.len (entry_at disc i).len (sym w.1 ∙ ap (λ (n : ℕ). (entry_at disc n).len) (sym q))))
  where
    w : ((entry_at disc (whose disc run)).start ≡ run.start) × ((entry_at disc (whose disc run)).len ≡ run.len)
    w = whose-entry disc run f

pub any-alike : {A : Type 0} (p q : A → Bool) (d : A) (l m : List A) → length l ≡ length m → ((i : ℕ)
    → p (get_or l i d) ≡ q (get_or m i d)) → any p l ≡ any q m
unfolding any
any-alike p q d [] [] e h = refl
any-alike p q d [] (y ∷ m) e h = absurd (omega arith)
any-alike p q d (x ∷ l) [] e h = absurd (omega arith)
any-alike p q d (x ∷ l) (y ∷ m) e h = ap₂ (λ (a b : Bool). a || b) (h 0) (any-alike p q d l m (omega arith) (λ i. h (suc i)))

pub index-alike : {A : Type 0} (p q : A → Bool) (d : A) (l m : List A) → length l ≡ length m → ((i : ℕ) → i < length l
    → p (get_or l i d) ≡ q (get_or m i d))
    → index p l ≡ index q m
unfolding index
index-alike p q d [] [] e h = refl
index-alike p q d [] (y ∷ m) e h = absurd (omega arith)
index-alike p q d (x ∷ l) [] e h = absurd (omega arith)
index-alike p q d (x ∷ l) (y ∷ m) e h =
    ap₂ (λ (a : Bool) (f : Option ℕ). here_or a f) (h 0 (omega arith)) (index-alike p q d l m (omega arith) (λ i k. h (suc i) (omega
    arith)))

pub shown-name : (disc : List ℕ) (i : ℕ) (d : Shown) → i < file_count disc
    → (get_or (map (shown disc) (files disc)) i d).name ≡ (entry_at disc i).name
shown-name disc i d h =
    ap (λ (x : Shown). x.name)
    (get_d_any (map (shown disc) (files disc)) i d (shown disc (entry_at disc 0))
    (subst⁻¹ (λ (n : ℕ). i < n) (length-map (files disc) (shown disc) ∙ tab-length (entry_at disc) (file_count disc)) h)
    ∙ get_or-map (shown disc) (files disc) i (entry_at disc 0))
    ∙ ap (λ (e : Entry). e.name) (tab-at (entry_at disc) (file_count disc) i (entry_at disc 0) h)

pub shown-len : (disc : List ℕ) (i : ℕ) (d : Shown) → i < file_count disc
    → (get_or (map (shown disc) (files disc)) i d).len ≡ (entry_at disc i).len
shown-len disc i d h =
    ap (λ (x : Shown). x.len)
    (get_d_any (map (shown disc) (files disc)) i d (shown disc (entry_at disc 0))
    (subst⁻¹ (λ (n : ℕ). i < n) (length-map (files disc) (shown disc) ∙ tab-length (entry_at disc) (file_count disc)) h)
    ∙ get_or-map (shown disc) (files disc) i (entry_at disc 0))
    ∙ ap (λ (e : Entry). e.len) (tab-at (entry_at disc) (file_count disc) i (entry_at disc 0) h)

module _ (k₁ k₂ : Kernel) (d₁ d₂ : List ℕ) (g₁ : GoodState k₁ d₁) (g₂ : GoodState k₂ d₂) (same : view_at k₁ d₁ ≡ view_at k₂ d₂) where
  -- records are the same, starts aside
  pub same-record : (slot : ℕ) → aside d₁ (process_at k₁ slot) ≡ aside d₂ (process_at k₂ slot)
  unfolding aside
  same-record slot =
      sym (get_or-map (aside d₁) k₁.processes slot no_process)
      ∙ ap (λ (v : View). get_or v.kernel.processes slot (aside d₁ no_process)) same
      ∙ get_or-map (aside d₂) k₂.processes slot no_process

  pub same_live : (slot : ℕ) → is_live (process_at k₁ slot) ≡ is_live (process_at k₂ slot)
  unfolding aside
  same_live slot = ap is_live (same-record slot)

  pub same-local : (slot : ℕ) → local_of (process_at k₁ slot) ≡ local_of (process_at k₂ slot)
  unfolding aside
  same-local slot = ap local_of (same-record slot)

  pub same_id : (slot : ℕ) → (process_at k₁ slot).id ≡ (process_at k₂ slot).id
  unfolding aside
  same_id slot = ap (λ (q : Process). q.id) (same-record slot)

  pub same-variables : k₁.variables ≡ k₂.variables
  same-variables = ap (λ (v : View). v.kernel.variables) same

  pub same-whose : (slot : ℕ) → is_live (process_at k₁ slot) ≡ true
      → whose d₁ (process_at k₁ slot).code ≡ whose d₂ (process_at k₂ slot).code
  unfolding aside
  same-whose slot live =
      ap (λ (b : Bool). cond b (whose d₁ (process_at k₁ slot).code) 0) (sym live)
      ∙ ap (λ (q : Process). q.code.start) (same-record slot)
      ∙ ap (λ (b : Bool). cond b (whose d₂ (process_at k₂ slot).code) 0) (sym (same_live slot) ∙ live)

  pub same_count : file_count d₁ ≡ file_count d₂
  same_count =
      sym (length-map (files d₁) (shown d₁) ∙ tab-length (entry_at d₁) (file_count d₁))
      ∙ ap (λ (v : View). length v.files) same
      ∙ length-map (files d₂) (shown d₂) ∙ tab-length (entry_at d₂) (file_count d₂)

  pub same-bytes : (i : ℕ) → i < file_count d₁ → contents d₁ (run_of (entry_at d₁ i)) ≡ contents d₂ (run_of (entry_at d₂ i))
  same-bytes i h =
      let d = shown d₁ (entry_at d₁ 0) in
      sym (shown-bytes d₁ i d h)
      ∙ ap (λ (v : View). (get_or v.files i d).bytes) same
      ∙ shown-bytes d₂ i d (subst (λ (n : ℕ). i < n) same_count h)

  -- the same program bytes
  pub same-program : (slot : ℕ) → is_live (process_at k₁ slot) ≡ true
      → program_of d₁ (process_at k₁ slot) ≡ program_of d₂ (process_at k₂ slot)
  same-program slot live =
      let f₁ = program-at g₁ slot live in
      let f₂ = program-at g₂ slot (sym (same_live slot) ∙ live) in
      whose-holds d₁ (process_at k₁ slot).code f₁
      ∙ same-bytes (whose d₁ (process_at k₁ slot).code) (whose-inside d₁ (process_at k₁ slot).code f₁)
      ∙ ap (λ (i : ℕ). contents d₂ (run_of (entry_at d₂ i))) (same-whose slot live)
      ∙ sym (whose-holds d₂ (process_at k₂ slot).code f₂)

  -- so its instruction does the same
  pub same_effect : (slot clock : ℕ) → is_live (process_at k₁ slot) ≡ true → effect_at k₁ slot clock d₁ ≡ effect_at k₂ slot clock d₂
  same_effect slot clock live =
      λ z. exec (same-program slot live z) clock (same-local slot z) (owned (same-variables z) (same_id slot z))

  -- ---- in use alike
  pub same_name : (i : ℕ) → i < file_count d₁ → (entry_at d₁ i).name ≡ (entry_at d₂ i).name
  same_name i h =
      let d = shown d₁ (entry_at d₁ 0) in
      sym (shown-name d₁ i d h)
      ∙ ap (λ (v : View). (get_or v.files i d).name) same
      ∙ shown-name d₂ i d (subst (λ (n : ℕ). i < n) same_count h)

  pub code_alike : (slot i : ℕ) → is_live (process_at k₁ slot) ≡ true → i < file_count d₁
      → is_program (process_at k₁ slot) (entry_at d₁ i) ≡ is_program (process_at k₂ slot) (entry_at d₂ i)
  unfolding is_program aside
  code_alike slot i live h =
      let live₂ : is_live (process_at k₂ slot) ≡ true = sym (same_live slot) ∙ live in
      let h₂ : i < file_count d₂ = subst (λ (n : ℕ). i < n) same_count h in
      let c₁ = (process_at k₁ slot).code in
      let c₂ = (process_at k₂ slot).code in
      let at : eqb c₁.start (entry_at d₁ i).start && eqb c₁.len (entry_at d₁ i).len
      ≡ eqb c₂.start (entry_at d₂ i).start && eqb c₂.len (entry_at d₂ i).len =
      names-it d₁ g₁.sound c₁ (program-at g₁ slot live) i h
      ∙ ap (eqb i) (same-whose slot live)
      ∙ sym (names-it d₂ g₂.sound c₂ (program-at g₂ slot live₂) i h₂) in
      λ z. same_bytes (same-record slot z).name (same_name i h z) && at z

  pub same-open : (slot : ℕ) → is_live (process_at k₁ slot) ≡ true → ((process_at k₁ slot).file.len ≡ 0 → ⊥)
      → whose d₁ (file_run (process_at k₁ slot).file) ≡ whose d₂ (file_run (process_at k₂ slot).file)
  unfolding aside
  same-open slot live some =
      let f₁ = (process_at k₁ slot).file in
      let f₂ = (process_at k₂ slot).file in
      let long : f₁.len ≡ f₂.len = ap (λ (q : Process). q.file.len) (same-record slot) in
      let on : is_live (process_at k₁ slot) && not (eqb f₁.len 0) ≡ true = rw (live, ne_eqb f₁.len 0 some) in
      let both : is_live (process_at k₁ slot) && not (eqb f₁.len 0) ≡ is_live (process_at k₂ slot) && not (eqb f₂.len 0) =
      λ z. same_live slot z && not (eqb (long z) 0) in
      let on₂ : is_live (process_at k₂ slot) && not (eqb f₂.len 0) ≡ true = sym both ∙ on in
      ap (λ (b : Bool). cond b (whose d₁ (file_run f₁)) 0) (sym on)
      ∙ ap (λ (q : Process). q.file.start) (same-record slot)
      ∙ ap (λ (b : Bool). cond b (whose d₂ (file_run f₂)) 0) on₂

  pub same_size : (slot : ℕ) → (process_at k₁ slot).file.len ≡ (process_at k₂ slot).file.len
  unfolding aside
  same_size slot = ap (λ (q : Process). q.file.len) (same-record slot)

  pub open-alike : (slot i : ℕ) → is_live (process_at k₁ slot) ≡ true → i < file_count d₁
      → is_open_in (process_at k₁ slot).file (entry_at d₁ i) ≡ is_open_in (process_at k₂ slot).file (entry_at d₂ i)
  open-alike slot i live h =
      kinds (live-record g₁ slot live).file (live-record g₂ slot live₂).file
    where
      live₂ : is_live (process_at k₂ slot) ≡ true
      live₂ = sym (same_live slot) ∙ live

      h₂ : i < file_count d₂
      h₂ = subst (λ (n : ℕ). i < n) same_count h

      f₁ : OpenFile
      f₁ = (process_at k₁ slot).file

      f₂ : OpenFile
      f₂ = (process_at k₂ slot).file

      none : (disc : List ℕ) → good_disc disc ≡ true → (f : OpenFile) → i < file_count disc → f.len ≡ 0
          → is_open_in f (entry_at disc i) ≡ false
      none disc good f m z =
          ap (λ (b : Bool). eqb f.start (entry_at disc i).start && b)
          (ne_eqb f.len (entry_at disc i).len (λ e. omega (arith, (good-entry-at disc good i m).some)))
          ∙ and-false (eqb f.start (entry_at disc i).start)

      kinds : GoodFile (files d₁) (process_at k₁ slot).file → GoodFile (files d₂) (process_at k₂ slot).file
          → is_open_in (process_at k₁ slot).file (entry_at d₁ i) ≡ is_open_in (process_at k₂ slot).file (entry_at d₂ i)
      kinds (inl c) y =
          none d₁ g₁.sound (process_at k₁ slot).file h c.len
          ∙ sym (none d₂ g₂.sound (process_at k₂ slot).file h₂ (sym (same_size slot) ∙ c.len))
      kinds (inr o) (inl c) = absurd (omega (arith, o.some, c.len, same_size slot))
      kinds (inr o) (inr u) =
          names-it d₁ g₁.sound (file_run (process_at k₁ slot).file) (open_at o) i h
          ∙ ap (eqb i) (same-open slot live (λ z. omega (arith, o.some)))
          ∙ sym (names-it d₂ g₂.sound (file_run (process_at k₂ slot).file) (open_at u) i h₂)

  pub uses-alike : (slot i : ℕ) → i < file_count d₁ → uses (entry_at d₁ i) (process_at k₁ slot) ≡ uses (entry_at d₂ i) (process_at k₂ slot)
  uses-alike slot i h = go (is_live (process_at k₁ slot)) refl (is_live (process_at k₂ slot)) refl
    where
      go : (a : Bool) → is_live (process_at k₁ slot) ≡ a → (b : Bool) → is_live (process_at k₂ slot) ≡ b
          → a && (is_program (process_at k₁ slot) (entry_at d₁ i) || is_open_in (process_at k₁ slot).file (entry_at d₁ i))
          ≡ b && (is_program (process_at k₂ slot) (entry_at d₂ i) || is_open_in (process_at k₂ slot).file (entry_at d₂ i))
      go false p false q = refl
      go true p false q = absurd (true-not-false p (same_live slot ∙ q))
      go false p true q = absurd (true-not-false (same_live slot ∙ q) p)
      go true p true q = λ z. code_alike slot i p h z || open-alike slot i p h z

  pub same-slots : length k₁.processes ≡ length k₂.processes
  same-slots = sym (length-map k₁.processes (aside d₁)) ∙ ap (λ (v : View). length v.kernel.processes) same
      ∙ length-map k₂.processes (aside d₂)

  -- erase's 11, Q-6's mark and sweep fall on both alike
  pub same-use : (i : ℕ) → i < file_count d₁ → in_use k₁ (entry_at d₁ i) ≡ in_use k₂ (entry_at d₂ i)
  unfolding in_use
  same-use i h =
      any-alike (uses (entry_at d₁ i)) (uses (entry_at d₂ i)) no_process k₁.processes k₂.processes same-slots
      (λ slot. uses-alike slot i h)

  -- a name is the same file's on both
  pub same-lookup : (name : List ℕ) → lookup d₁ name ≡ lookup d₂ name
  unfolding lookup
  same-lookup name =
      let n₁ = tab-length (entry_at d₁) (file_count d₁) in
      let n₂ = tab-length (entry_at d₂) (file_count d₂) in
      let d = entry_at d₁ 0 in
      ap (nowhere_unless (good_name name))
      (index-alike (named name) (named name) d (files d₁) (files d₂) (n₁ ∙ same_count ∙ sym n₂)
      (λ i k.
      let h : i < file_count d₁ = subst (λ (n : ℕ). i < n) n₁ k in
      let m : i < file_count d₂ = subst (λ (n : ℕ). i < n) same_count h in
      ap (named name) (tab-at (entry_at d₁) (file_count d₁) i d h)
      ∙ ap (λ (x : List ℕ). same_bytes x (padded name)) (same_name i h)
      ∙ sym (ap (named name) (tab-at (entry_at d₂) (file_count d₂) i d m))))

  pub same-len : (i : ℕ) → i < file_count d₁ → (entry_at d₁ i).len ≡ (entry_at d₂ i).len
  same-len i h =
      let d = shown d₁ (entry_at d₁ 0) in
      sym (shown-len d₁ i d h)
      ∙ ap (λ (v : View). (get_or v.files i d).len) same
      ∙ shown-len d₂ i d (subst (λ (n : ℕ). i < n) same_count h)
