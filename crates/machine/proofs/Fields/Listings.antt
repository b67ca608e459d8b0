-- The listings of files and of live processes, in the words of the demands.
use Prim.Native.Nat.{ℕ, zero, suc, ◌<◌}
use mathlib.Core.Path.{◌≡◌, refl, ap, ◌∙◌}
use mathlib.Core.Bool.{Bool, true, false, cond}
use mathlib.Core.List.{List, [], ◌∷◌, ◌++◌}
use native.Mathlib.Nat.{le_refl}
use native.Mathlib.Omega.{arith}
use Rattle.buffer.specs.Lists.{cons_if, flat, keep, tab}
use Rattle.buffer.proofs.Lists.{flat-snoc}
use Rattle.disc.specs.Directory.{entry_at, file_count, files}
use Rattle.disc.proofs.Offsets.{entry-name, entry-size}
use Rattle.store.specs.Answer.{file_line}
use Rattle.machine.specs.Area.{kernel_of}
use Rattle.machine.specs.Fields.{file_text, files_text, process_text, processes_text}
use Rattle.machine.specs.Limits.{slot_count}
use Rattle.machine.specs.Operations.{list_text, process_line}
use Rattle.machine.specs.State.{is_live, process_at}
use Rattle.machine.specs.declared.Process.{Process}
use Rattle.machine.proofs.Fields.Slots.{id-is, name-is, slots-table, state-is}

-- ---- texts of tables
flat-tab : {A B : Type 0} (f : A → List ℕ) (g : B → List ℕ) (x : ℕ → A) (y : ℕ → B) (n : ℕ) → ((i : ℕ) → i < n → f (x i) ≡ g (y i))
    → flat f (tab x n) ≡ flat g (tab y n)
unfolding flat tab
flat-tab f g x y zero e = refl
flat-tab f g x y (suc n) e =
    rw (flat-snoc f (tab x n) (x n), flat-snoc g (tab y n) (y n), flat-tab f g x y n (λ i h. e i (omega arith)), e n (le_refl (suc n)))

-- those kept, or nothing for the others
flat_keep : {A : Type 0} (f : A → List ℕ) (p : A → Bool) (l : List A) → flat f (keep p l) ≡ flat (λ x. cond (p x) (f x) []) l
unfolding flat keep
flat_keep f p [] = refl
flat_keep f p (x ∷ l) = go (p x) (flat_keep f p l)
  where
    go : (b : Bool) → flat f (keep p l) ≡ flat (λ x. cond (p x) (f x) []) l
        → flat f (cons_if b x (keep p l)) ≡ cond b (f x) [] ++ flat (λ x. cond (p x) (f x) []) l
    go true e = ap (λ (r : List ℕ). f x ++ r) e
    go false e = e

-- ---- "a line per file"
pub files-text : (disc : List ℕ) → flat file_line (files disc) ≡ files_text disc
unfolding file_line
files-text disc =
    flat-tab file_line (file_text disc) (entry_at disc) (λ i. i) (file_count disc)
    (λ i h. rw (entry-name disc i, entry-size disc i))

-- ---- a line "per live process in slot order"
pub list-text : (area : List ℕ) → list_text (kernel_of area) ≡ processes_text area
unfolding list_text process_line
list-text area =
    flat_keep process_line is_live (kernel_of area).processes
    ∙ ap (flat line) (slots-table area)
    ∙ flat-tab line (process_text area) (process_at (kernel_of area)) (λ i. i) slot_count
    (λ i h. rw (id-is area i h, state-is area i h, name-is area i h))
  where
    line : Process → List ℕ
    line p = cond (is_live p) (process_line p) []
