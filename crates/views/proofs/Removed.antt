-- The same file erased from two discs that show the same: they show the same after, where no live process uses it.
use Prim.Native.Nat.{ℕ, suc, ◌-◌, ◌≤◌, ◌<◌}
use mathlib.Core.Path.{◌≡◌, refl, sym, ap, ◌∙◌, subst}
use mathlib.Core.Bool.{Bool, true, false, cond, ◌&&◌, not}
use mathlib.Core.List.{List, [], ◌∷◌, map}
use mathlib.Core.Logic.{inl, inr}
use native.Mathlib.Omega.{arith}
use lib.Dec.{eqb, ltb}
use lib.ListN.{get_or}
use borrow.Author.Tests.{eqb-false, ltb-false, ltb-true, not-true}
use Rattle.buffer.specs.Lists.{tab, without}
use Rattle.buffer.proofs.Bools.{and_left, and_right, true-not-false}
use Rattle.buffer.proofs.Tables.{tab-without}
use Rattle.place.specs.declared.Run.{Run}
use Rattle.disc.specs.Directory.{entry_at, file_count, files, good_disc, run_of}
use Rattle.disc.proofs.Locations.{FileAt}
use Rattle.store.specs.File.{erased}
use Rattle.store.proofs.Changes.{erased-count, erased-earlier, erased-later}
use Rattle.store.proofs.Contents.{erased-other-file}
use Rattle.store.proofs.Invariant.{erased-good, present}
use Rattle.machine.specs.Beyond.{file_run}
use Rattle.machine.specs.Operations.{in_use, uses}
use Rattle.machine.specs.State.{is_live, no_process, process_at}
use Rattle.machine.specs.declared.Kernel.{Kernel}
use Rattle.machine.specs.declared.Process.{Process}
use Rattle.machine.proofs.Changes.Change.{GoodState}
use Rattle.machine.proofs.Changes.Directories.{UsedAt, live-record, open-used, program-used}
use Rattle.machine.proofs.Goodness.GoodRecords.{GoodFile}
use Rattle.machine.proofs.Kept.OutsideKept.{used-is-in-use}
use Rattle.views.specs.Same.{View, aside, aside_kernel, shown, shown_files, view_at, whose}
use Rattle.views.proofs.First.{whose-inside}
use Rattle.views.proofs.Listing.{shown-count, shown-tab, whose-is, whose-run}

-- where the file at place n is, the one at i gone
abbrev pub shifted : ℕ → ℕ → ℕ
shifted i n = cond (ltb n i) n (n - 1)

-- ---- what is shown, and what a record names
module _ (disc : List ℕ) (good : good_disc disc ≡ true) (i : ℕ) (h : i < file_count disc) where
  moved : (j : ℕ) → j < file_count disc → (j ≡ i → ⊥)
      → (shifted i j < file_count (erased disc i)) × (entry_at (erased disc i) (shifted i j) ≡ entry_at disc j)
  moved j l n = go (ltb j i) refl
    where
      go : (t : Bool) → ltb j i ≡ t
          → (cond t j (j - 1) < file_count (erased disc i)) × (entry_at (erased disc i) (cond t j (j - 1)) ≡ entry_at disc j)
      go true e =
          let m : j < i = ltb-true j i e in
          (omega (arith, erased-count (present disc good i h)), erased-earlier (present disc good i h) j m)
      go false e =
          let m : i ≤ j = ltb-false j i e in
          let a : i < j = omega arith in
          let q : suc (j - 1) ≡ j = omega arith in (
            omega (arith, erased-count (present disc good i h)),
            erased-later (present disc good i h) (j - 1) (omega arith) (omega arith) ∙ ap (entry_at disc) q,
          )

  pub removed-whose : (run : Run) → FileAt disc run → (whose disc run ≡ i → ⊥) → whose (erased disc i) run ≡ shifted i (whose disc run)
  removed-whose run f n =
      let m = moved (whose disc run) (whose-inside disc run f) n in
      whose-is (erased disc i) (erased-good disc good i h) run
      (record { place = shifted i (whose disc run); inside = m.0; run_is = whose-run disc run f ∙ ap run_of (sym m.1) })

  shown-kept : (j : ℕ) → j < file_count disc → (i ≡ j → ⊥) → shown (erased disc i) (entry_at disc j) ≡ shown disc (entry_at disc j)
  shown-kept j k n =
      λ z. record { name = (entry_at disc j).name; len = (entry_at disc j).len; bytes = erased-other-file disc good j k i h n z }

  pub removed-shown : shown_files (erased disc i) ≡ without i (shown_files disc)
  removed-shown =
      let p = present disc good i h in
      let after = erased disc i in
      let f = λ (j : ℕ). shown disc (entry_at disc j) in
      let g = λ (j : ℕ). shown after (entry_at after j) in
      let q : suc (file_count disc - 1) ≡ file_count disc = omega arith in
      shown-tab after
      ∙ ap (tab g) (erased-count p)
      ∙ tab-without f g i (file_count disc - 1) (omega arith)
      (λ j a. ap (shown after) (erased-earlier p j a) ∙ shown-kept j (omega arith) (λ e. omega arith))
      (λ j a b. ap (shown after) (erased-later p j a b) ∙ shown-kept (suc j) (omega arith) (λ e. omega arith))
      ∙ ap (λ (n : ℕ). without i (tab f n)) q
      ∙ ap (without i) (sym (shown-tab disc))

-- ---- a record of a process, starts aside, the file at place i gone
moved_start : ℕ → Bool → ℕ → ℕ
moved_start i b n = cond b (shifted i n) 0

moved_aside : ℕ → Process → Process
moved_aside i p =
    record p {
      code = record { start = moved_start i (is_live p) p.code.start; len = p.code.len };
      file = record {
        start = moved_start i (is_live p && not (eqb p.file.len 0)) p.file.start;
        len = p.file.len;
        offset = p.file.offset;
      };
    }

moved_kernel : ℕ → Kernel → Kernel
moved_kernel i k = record k { processes = map (moved_aside i) k.processes }

moved-start : (i : ℕ) (b : Bool) (n m : ℕ) → (b ≡ true → m ≡ shifted i n) → cond b m 0 ≡ moved_start i b (cond b n 0)
unfolding moved_start
moved-start i true n m h = h refl
moved-start i false n m h = refl

aside-moved : (d e : List ℕ) (i : ℕ) (p : Process) → (is_live p ≡ true → whose e p.code ≡ shifted i (whose d p.code))
    → (is_live p && not (eqb p.file.len 0) ≡ true → whose e (file_run p.file) ≡ shifted i (whose d (file_run p.file)))
    → aside e p ≡ moved_aside i (aside d p)
unfolding aside moved_aside
aside-moved d e i p c o =
    λ z.
    record {
      name = p.name;
      id = p.id;
      state = p.state;
      fault = p.fault;
      code = record { start = moved-start i (is_live p) (whose d p.code) (whose e p.code) c z; len = p.code.len };
      pc = p.pc;
      loopstart = p.loopstart;
      file = record {
        start =
            moved-start i (is_live p && not (eqb p.file.len 0)) (whose d (file_run p.file)) (whose e (file_run p.file)) o z;
        len = p.file.len;
        offset = p.file.offset;
      };
      sp = p.sp;
      share = p.share;
      stack = p.stack;
    }

map-through : {A B C : Type 0} (f : A → C) (g : B → C) (h : A → B) (d : A) (l : List A)
    → ((i : ℕ) → f (get_or l i d) ≡ g (h (get_or l i d))) → map f l ≡ map g (map h l)
map-through f g h d [] e = refl
map-through f g h d (x ∷ l) e = λ z. e 0 z ∷ map-through f g h d l (λ i. e (suc i)) z

-- ---- none of them names it
module _ (k : Kernel) (disc : List ℕ) (g : GoodState k disc) (i : ℕ) (h : i < file_count disc)
    (unused : in_use k (entry_at disc i) ≡ false) where
  used-apart : (run : Run) → UsedAt k disc run → whose disc run ≡ i → ⊥
  used-apart run u e =
      true-not-false
      (used-is-in-use k (entry_at disc i) u.user
      (subst (λ (n : ℕ). uses (entry_at disc n) (process_at k u.user) ≡ true) (sym (whose-is disc g.sound run u.file) ∙ e) u.used))
      unused

  used-moved : (run : Run) → UsedAt k disc run → whose (erased disc i) run ≡ shifted i (whose disc run)
  used-moved run u = removed-whose disc g.sound i h run u.file (used-apart run u)

  record-moved : (slot : ℕ) → aside (erased disc i) (process_at k slot) ≡ moved_aside i (aside disc (process_at k slot))
  record-moved slot =
      aside-moved disc (erased disc i) i (process_at k slot)
      (λ live. used-moved (process_at k slot).code (program-used g slot live))
      (λ t.
      let some = not (eqb (process_at k slot).file.len 0) in
      let live = and_left (is_live (process_at k slot)) some t in
      file live (not-true _ (and_right (is_live (process_at k slot)) some t)) (live-record g slot live).file)
    where
      file : is_live (process_at k slot) ≡ true → eqb (process_at k slot).file.len 0 ≡ false
          → GoodFile (files disc) (process_at k slot).file
          → whose (erased disc i) (file_run (process_at k slot).file) ≡ shifted i (whose disc (file_run (process_at k slot).file))
      file live some (inl c) = absurd (eqb-false (process_at k slot).file.len 0 some c.len)
      file live some (inr o) = used-moved (file_run (process_at k slot).file) (open-used slot live o)

  kernel-moved : aside_kernel (erased disc i) k ≡ moved_kernel i (aside_kernel disc k)
  unfolding moved_kernel
  kernel-moved =
      ap (λ (l : List Process). record { variables = k.variables; next = k.next; zeros = k.zeros; processes = l })
      (map-through (aside (erased disc i)) (moved_aside i) (aside disc) no_process k.processes record-moved)

-- ---- on both
module _ (d₁ d₂ : List ℕ) (i : ℕ) (h : i < file_count d₁) where
  pub removed-files : good_disc d₁ ≡ true → good_disc d₂ ≡ true → shown_files d₁ ≡ shown_files d₂
      → shown_files (erased d₁ i) ≡ shown_files (erased d₂ i)
  removed-files good₁ good₂ same =
      removed-shown d₁ good₁ i h
      ∙ ap (without i) same
      ∙ sym (removed-shown d₂ good₂ i (subst (λ (n : ℕ). i < n) (shown-count d₁ d₂ same) h))

  pub removed-kernel : (k₁ k₂ : Kernel) → GoodState k₁ d₁ → GoodState k₂ d₂ → view_at k₁ d₁ ≡ view_at k₂ d₂
      → in_use k₁ (entry_at d₁ i) ≡ false → in_use k₂ (entry_at d₂ i) ≡ false
      → aside_kernel (erased d₁ i) k₁ ≡ aside_kernel (erased d₂ i) k₂
  removed-kernel k₁ k₂ g₁ g₂ same u₁ u₂ =
      let h₂ : i < file_count d₂ = subst (λ (n : ℕ). i < n) (shown-count d₁ d₂ (ap (λ (v : View). v.files) same)) h in
      kernel-moved k₁ d₁ g₁ i h u₁
      ∙ ap (λ (v : View). moved_kernel i v.kernel) same
      ∙ sym (kernel-moved k₂ d₂ g₂ i h₂ u₂)
