-- Bytes written in the same file of two discs that show the same: they show the same after.
use Prim.Native.Nat.{ℕ, ◌+◌, ◌≤◌, ◌<◌}
use mathlib.Core.Path.{◌≡◌, refl, sym, ap, ◌∙◌, subst}
use mathlib.Core.Bool.{Bool, true, false, cond, ◌&&◌, not}
use mathlib.Core.List.{List, map}
use native.Mathlib.Omega.{arith}
use lib.Dec.{eqb}
use lib.ListN.{length}
use borrow.Author.Tests.{eqb-false, eqb-true}
use Rattle.buffer.specs.Buffer.{overwrite}
use Rattle.buffer.specs.Lists.{index, tab}
use Rattle.buffer.proofs.Lists.{tab-same}
use Rattle.place.specs.declared.Run.{Run}
use Rattle.disc.specs.Directory.{contents, entry_at, file_count, files, good_disc, run_of}
use Rattle.disc.proofs.Locations.{FileAt}
use Rattle.disc.proofs.Goodness.{good-disc-is}
use Rattle.store.specs.File.{written_at}
use Rattle.store.proofs.Changes.{Inside, written_count, written_entry, written-files}
use Rattle.store.proofs.Contents.{written-contents, written-other-file}
use Rattle.store.proofs.Invariant.{file-inside}
use Rattle.machine.specs.Beyond.{file_run}
use Rattle.machine.specs.Observation.{slot_in}
use Rattle.machine.specs.State.{is_live}
use Rattle.machine.specs.declared.Kernel.{Kernel}
use Rattle.machine.specs.declared.Process.{Process}
use Rattle.views.specs.Same.{Shown, aside, aside_kernel, is_at_run, shown, shown_files, whose}
use Rattle.views.proofs.First.{whose-inside}
use Rattle.views.proofs.Listing.{same-shown, shown-count, shown-tab, whose-run}

-- ---- what is shown
-- the file at place j, when bytes are written in the one at i
over : ℕ → ℕ → List ℕ → ℕ → Shown → Shown
over i offset bytes j x =
    record { name = x.name; len = x.len; bytes = cond (eqb i j) (overwrite x.bytes offset bytes) x.bytes }

module _ (disc : List ℕ) (good : good_disc disc ≡ true) (i offset : ℕ) (bytes : List ℕ) (h : i < file_count disc)
    (fits : offset + length bytes ≤ (entry_at disc i).len) where
  after : List ℕ
  after = written_at disc (run_of (entry_at disc i)) offset bytes

  inside : Inside disc (run_of (entry_at disc i)) offset (length bytes)
  inside = file-inside disc good i h offset (length bytes) fits

  over-count : file_count after ≡ file_count disc
  unfolding after
  over-count = written_count bytes inside

  over-bytes : (j : ℕ) → j < file_count disc → contents after (run_of (entry_at disc j))
      ≡ cond (eqb i j) (overwrite (contents disc (run_of (entry_at disc j))) offset bytes) (contents disc (run_of (entry_at disc j)))
  unfolding after
  over-bytes j k = go (eqb i j) refl
    where
      go : (t : Bool) → eqb i j ≡ t → contents (written_at disc (run_of (entry_at disc i)) offset bytes) (run_of (entry_at disc j))
          ≡ cond t (overwrite (contents disc (run_of (entry_at disc j))) offset bytes) (contents disc (run_of (entry_at disc j)))
      go true q = subst (λ (n : ℕ). contents (written_at disc (run_of (entry_at disc i)) offset bytes) (run_of (entry_at disc n))
          ≡ overwrite (contents disc (run_of (entry_at disc n))) offset bytes) (eqb-true i j q) (written-contents bytes inside)
      go false q = written-other-file disc good j k i offset bytes h (eqb-false i j q) fits

  over-shown : (j : ℕ) → j < file_count disc → shown after (entry_at after j) ≡ over i offset bytes j (shown disc (entry_at disc j))
  unfolding after over
  over-shown j k =
      ap (shown (written_at disc (run_of (entry_at disc i)) offset bytes))
      (written_entry bytes inside j (omega (arith, (good-disc-is disc good).few)))
      ∙ (λ z. record { name = (entry_at disc j).name; len = (entry_at disc j).len; bytes = over-bytes j k z })

module _ (d₁ d₂ : List ℕ) (good₁ : good_disc d₁ ≡ true) (good₂ : good_disc d₂ ≡ true) (same : shown_files d₁ ≡ shown_files d₂)
    (offset : ℕ) (bytes : List ℕ) where
  pub overwritten-files : (i : ℕ) → i < file_count d₁ → offset + length bytes ≤ (entry_at d₁ i).len
      → shown_files (written_at d₁ (run_of (entry_at d₁ i)) offset bytes)
      ≡ shown_files (written_at d₂ (run_of (entry_at d₂ i)) offset bytes)
  unfolding after
  overwritten-files i h fits =
      let a₁ = written_at d₁ (run_of (entry_at d₁ i)) offset bytes in
      let a₂ = written_at d₂ (run_of (entry_at d₂ i)) offset bytes in
      let h₂ : i < file_count d₂ = subst (λ (n : ℕ). i < n) (shown-count d₁ d₂ same) h in
      let fits₂ : offset + length bytes ≤ (entry_at d₂ i).len =
      subst (λ (n : ℕ). offset + length bytes ≤ n) (ap (λ (x : Shown). x.len) (same-shown d₁ d₂ same i h)) fits in
      let f₁ = λ (j : ℕ). shown a₁ (entry_at a₁ j) in
      let f₂ = λ (j : ℕ). shown a₂ (entry_at a₂ j) in
      shown-tab a₁
      ∙ ap (tab f₁) (over-count d₁ good₁ i offset bytes h fits)
      ∙ tab-same f₁ f₂ (file_count d₁)
      (λ j k.
      over-shown d₁ good₁ i offset bytes h fits j k
      ∙ ap (over i offset bytes j) (same-shown d₁ d₂ same j k)
      ∙ sym (over-shown d₂ good₂ i offset bytes h₂ fits₂ j (subst (λ (n : ℕ). j < n) (shown-count d₁ d₂ same) k)))
      ∙ ap (tab f₂) (shown-count d₁ d₂ same ∙ sym (over-count d₂ good₂ i offset bytes h₂ fits₂))
      ∙ sym (shown-tab a₂)

  -- of two records that name the same file
  pub overwritten-files-at : {r₁ r₂ : Run} → FileAt d₁ r₁ → FileAt d₂ r₂ → whose d₁ r₁ ≡ whose d₂ r₂ → offset + length bytes ≤ r₁.len
      → shown_files (written_at d₁ r₁ offset bytes) ≡ shown_files (written_at d₂ r₂ offset bytes)
  overwritten-files-at {r₁} {r₂} f₁ f₂ q fits =
      let w₁ = whose-run d₁ r₁ f₁ in
      let w₂ = whose-run d₂ r₂ f₂ ∙ ap (λ (n : ℕ). run_of (entry_at d₂ n)) (sym q) in
      ap (λ (r : Run). shown_files (written_at d₁ r offset bytes)) w₁
      ∙ overwritten-files (whose d₁ r₁) (whose-inside d₁ r₁ f₁) (subst (λ (r : Run). offset + length bytes ≤ r.len) w₁ fits)
      ∙ ap (λ (r : Run). shown_files (written_at d₂ r offset bytes)) (sym w₂)

-- ---- the directory is the same, so a record names the same place
aside-kept : (d e : List ℕ) → files d ≡ files e → (p : Process) → aside d p ≡ aside e p
unfolding aside
aside-kept d e q p =
    λ z.
    record {
      name = p.name;
      id = p.id;
      state = p.state;
      fault = p.fault;
      code = record { start = cond (is_live p) (slot_in (index (is_at_run p.code) (q z))) 0; len = p.code.len };
      pc = p.pc;
      loopstart = p.loopstart;
      file = record {
        start = cond (is_live p && not (eqb p.file.len 0)) (slot_in (index (is_at_run (file_run p.file)) (q z))) 0;
        len = p.file.len;
        offset = p.file.offset;
      };
      sp = p.sp;
      share = p.share;
      stack = p.stack;
    }

pub kernel-kept : (d e : List ℕ) → files d ≡ files e → (k : Kernel) → aside_kernel d k ≡ aside_kernel e k
kernel-kept d e q k =
    λ z.
    record {
      variables = k.variables;
      next = k.next;
      zeros = k.zeros;
      processes = map (λ (p : Process). aside-kept d e q p z) k.processes;
    }

pub overwritten-kernel-at : {disc : List ℕ} {run : Run} {offset : ℕ} (bytes : List ℕ) → Inside disc run offset (length bytes)
    → good_disc disc ≡ true → (k : Kernel) → aside_kernel (written_at disc run offset bytes) k ≡ aside_kernel disc k
overwritten-kernel-at {disc} {run} {offset} bytes inside good k =
    kernel-kept (written_at disc run offset bytes) disc (written-files bytes inside (good-disc-is disc good).few) k

pub overwritten-kernel : (disc : List ℕ) → good_disc disc ≡ true → (i offset : ℕ) (bytes : List ℕ) → i < file_count disc
    → offset + length bytes ≤ (entry_at disc i).len → (k : Kernel)
    → aside_kernel (written_at disc (run_of (entry_at disc i)) offset bytes) k ≡ aside_kernel disc k
overwritten-kernel disc good i offset bytes h fits = overwritten-kernel-at bytes (file-inside disc good i h offset (length bytes) fits) good
