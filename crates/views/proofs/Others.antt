-- The operations that are no turn, start or command.
use Rattle.std.specs.Prelude.{Ok, Err, Result}
use Rattle.std.specs.Prelude.{None, Option, Some}
use Rattle.std.proofs.Common.{ℕ, ◌≡◌, ◌<◌, Bool, true, false, not, List, [], ◌∷◌, ◌++◌, map, refl, sym, ap, ◌∙◌, subst, subst₂, length}
use mathlib.Core.Logic.{◌⊎◌, inl, inr, ⊎_elim}
use lib.Dec.{leb}
use borrow.Author.Tests.{not-true}
use Rattle.buffer.specs.Buffer.{overwrite}
use Rattle.buffer.specs.Lists.{cons_if, flat, keep}
use Rattle.buffer.proofs.Bools.{true-not-false}
use Rattle.disc.specs.Directory.{contents, entry_at, file_count, files as entries, lookup, run_of}
use Rattle.disc.specs.declared.Entry.{Entry}
use Rattle.disc.proofs.Lookups.{lookup-at}
use Rattle.store.specs.Answer.{Reported, Updated, checked, file_line, files_answer, free_space_answer, if_usable, reported, retrieve_answer}
use Rattle.store.specs.Answer.{retrieve_at, retrieve_file, store_answer, store_at, text_answer}
use Rattle.store.specs.File.{admission, unless}
use Rattle.store.specs.declared.Refusal.{Refusal}
use Rattle.store.specs.declared.Refusal.TheVariants.{ShortOutput}
use Rattle.store.proofs.Admissions.{admitted}
use Rattle.machine.specs.Answer.{Buffers, Other, store, retrieve, erase, files, free_space, list, other, answer, erase_at}
use Rattle.machine.specs.Answer.{on_disc, other_answer}
use Rattle.machine.specs.Area.{kernel_of}
use Rattle.machine.specs.Operations.{in_use, list_text, process_line}
use Rattle.machine.specs.State.{is_live}
use Rattle.machine.specs.Suppositions.{is_done_by}
use Rattle.machine.specs.Trace.{Storage, lending}
use Rattle.machine.specs.declared.Kernel.{Kernel}
use Rattle.machine.specs.declared.Process.{Process}
use Rattle.machine.proofs.Changes.Change.{GoodState}
use Rattle.machine.proofs.Demands.GoodCalls.{passes-good}
use Rattle.views.specs.Same.{Shown, View, aside, shown}
use Rattle.views.proofs.Alike.{Alike, Lacks}
use Rattle.views.proofs.Doing.{SameDone, Stepped, on-both-good, refused-same, tested-same}
use Rattle.views.proofs.First.{same-len, same-lookup, same-use}
use Rattle.views.proofs.Opening.{BothAdmit, both-denied, both-start, admitted-alike, entered-view}
use Rattle.views.proofs.Removed.{removed-files, removed-kernel}

-- ---- texts that starts do not enter
shown_line : Shown → List ℕ
shown_line s = file_line (record { name = s.name; start = 0; len = s.len })

files-text : (disc : List ℕ) (l : List Entry) → flat file_line l ≡ flat shown_line (map (shown disc) l)
unfolding flat file_line shown_line
files-text disc [] = refl
files-text disc (e ∷ l) = ap (λ (t : List ℕ). file_line e ++ t) (files-text disc l)

list-text : (disc : List ℕ) (l : List Process) → flat process_line (keep is_live l) ≡ flat process_line (keep is_live (map (aside disc) l))
unfolding flat process_line keep aside
list-text disc [] = refl
list-text disc (p ∷ l) = go (list-text disc l) (is_live p)
  where
    go : flat process_line (keep is_live l) ≡ flat process_line (keep is_live (map (aside disc) l)) → (b : Bool)
        → flat process_line (cons_if b p (keep is_live l))
        ≡ flat process_line (cons_if b (aside disc p) (keep is_live (map (aside disc) l)))
    go rest true = ap (λ (t : List ℕ). process_line p ++ t) rest
    go rest false = rest

-- ---- the disc is usable
usable : (k : Kernel) (disc : List ℕ) → GoodState k disc → checked disc ≡ (Ok tt)
unfolding checked
usable k disc g = rw (g.long, g.sound)

text-done : (a b out : List ℕ) → a ≡ b → is_done_by (text_answer a out).number ≡ is_done_by (text_answer b out).number
text-done a b out e = ap (λ (t : List ℕ). is_done_by (text_answer t out).number) e

file-done : (e f : Entry) (d₁ d₂ out : List ℕ) → e.len ≡ f.len
    → is_done_by (retrieve_file e d₁ out).number ≡ is_done_by (retrieve_file f d₂ out).number
file-done e f d₁ d₂ out q =
    go (leb e.len (length out)) (leb f.len (length out)) (ap (λ (n : ℕ). leb n (length out)) q)
  where
    go : (x y : Bool) → x ≡ y
        → is_done_by
        (unless x (reported (Err ShortOutput) out) (reported (Ok e.len) (overwrite out 0 (contents d₁ (run_of e))))).number
        ≡ is_done_by
        (unless y (reported (Err ShortOutput) out) (reported (Ok f.len) (overwrite out 0 (contents d₂ (run_of f))))).number
    go true true r = refl
    go false false r = refl
    go true false r = absurd (true-not-false refl r)
    go false true r = absurd (true-not-false r refl)

module _ (s₁ s₂ : Storage) (h : Alike s₁ s₂) (out : List ℕ) where
  abbrev d₁ : List ℕ
  d₁ = s₁.disc

  abbrev d₂ : List ℕ
  d₂ = s₂.disc

  abbrev k₁ : Kernel
  k₁ = kernel_of s₁.area

  abbrev k₂ : Kernel
  k₂ = kernel_of s₂.area

  abbrev b₁ : Buffers
  b₁ = lending s₁ out

  abbrev b₂ : Buffers
  b₂ = lending s₂ out

  g₁ : GoodState k₁ d₁
  g₁ = passes-good s₁.disc s₁.area h.passes₁

  g₂ : GoodState k₂ d₂
  g₂ = passes-good s₂.disc s₂.area h.passes₂

  if-usable₁ : {A : Type 0} (refuse : Refusal → A) (rest : A) → if_usable (checked d₁) refuse rest ≡ rest
  if-usable₁ refuse rest = ap (λ (c : Result (Unit {0}) Refusal). if_usable c refuse rest) (usable k₁ d₁ g₁)

  if-usable₂ : {A : Type 0} (refuse : Refusal → A) (rest : A) → if_usable (checked d₂) refuse rest ≡ rest
  if-usable₂ refuse rest = ap (λ (c : Result (Unit {0}) Refusal). if_usable c refuse rest) (usable k₂ d₂ g₂)

  -- ---- store
  stored-by : (name bytes : List ℕ) (a b : Result ℕ Refusal) → admission d₁ name (length bytes) ≡ a → admission d₂ name (length bytes) ≡ b
      → BothAdmit a b
      → SameDone (other (store name bytes)) (on_disc (store_at a d₁ name bytes) b₁) (on_disc (store_at b d₂ name bytes) b₂)
  stored-by name bytes _ _ e f (both-denied r) = record { done = refl; text = refl; view = h.same }
  stored-by name bytes _ _ e f (both-start s t) =
      record {
        done = refl;
        text = refl;
        view =
            entered-view k₁ k₂ d₁ d₂ g₁ g₂ h.same name bytes s t (admitted d₁ name (length bytes) s e)
            (admitted d₂ name (length bytes) t f);
      }

  store-stepped : (name bytes : List ℕ) → Stepped (other (store name bytes)) s₁ s₂ out
  unfolding answer other_answer store_answer
  store-stepped name bytes =
      ⊎_elim inl
      (λ b.
      inr (subst₂ (λ (u v : Updated). SameDone (other (store name bytes)) (on_disc u b₁) (on_disc v b₂))
      (sym (if-usable₁ _ _)) (sym (if-usable₂ _ _)) (stored-by name bytes _ _ refl refl b)))
      (admitted-alike k₁ k₂ d₁ d₂ g₁ g₂ h.same name (length bytes))

  -- ---- retrieve
  retrieved-at : (f : Option ℕ) (name : List ℕ) → lookup d₁ name ≡ f
      → is_done_by (retrieve_at f d₁ out).number ≡ is_done_by (retrieve_at f d₂ out).number
  retrieved-at None name e = refl
  retrieved-at (Some i) name e =
      file-done (entry_at d₁ i) (entry_at d₂ i) d₁ d₂ out
      (same-len k₁ k₂ d₁ d₂ g₁ g₂ h.same i (lookup-at d₁ name i e).inside)

  retrieve-stepped : (name : List ℕ) → Stepped (other (retrieve name)) s₁ s₂ out
  unfolding answer other_answer retrieve_answer
  retrieve-stepped name =
      inr (record {
        done =
            ap (λ (r : Reported). is_done_by r.number) (if-usable₁ _ _)
            ∙ retrieved-at (lookup d₁ name) name refl
            ∙ ap (λ (f : Option ℕ). is_done_by (retrieve_at f d₂ out).number) (same-lookup k₁ k₂ d₁ d₂ g₁ g₂ h.same name)
            ∙ sym (ap (λ (r : Reported). is_done_by r.number) (if-usable₂ _ _));
        text = refl;
        view = h.same;
      })

  -- ---- files, free space
  files-stepped : Stepped (other files) s₁ s₂ out
  unfolding answer other_answer files_answer
  files-stepped =
      inr (record {
        done =
            ap (λ (r : Reported). is_done_by r.number) (if-usable₁ _ _)
            ∙ text-done (flat file_line (entries d₁)) (flat file_line (entries d₂)) out
            (files-text d₁ (entries d₁) ∙ ap (λ (v : View). flat shown_line v.files) h.same ∙ sym (files-text d₂ (entries d₂)))
            ∙ sym (ap (λ (r : Reported). is_done_by r.number) (if-usable₂ _ _));
        text = refl;
        view = h.same;
      })

  free-space-stepped : Stepped (other free_space) s₁ s₂ out
  unfolding answer other_answer free_space_answer
  free-space-stepped =
      inr (record {
        done = ap is_done_by (if-usable₁ _ _) ∙ sym (ap is_done_by (if-usable₂ _ _));
        text = refl;
        view = h.same;
      })

  -- ---- erase
  erased-at : (f : Option ℕ) (name : List ℕ) → lookup d₁ name ≡ f
      → Lacks (other (erase name)) s₁ s₂ ⊎ SameDone (other (erase name)) (erase_at f k₁ b₁) (erase_at f k₂ b₂)
  erased-at None name e = inr (refused-same (other (erase name)) s₁ s₂ h out 10)
  erased-at (Some i) name e =
      tested-same (other (erase name)) s₁ s₂ h out _ _ (ap not used) 11 _ _
      (λ t.
      let free : in_use k₁ (entry_at d₁ i) ≡ false = not-true _ t in
      inr (record {
        done = refl;
        text = refl;
        view =
            λ z.
            record {
              files = removed-files d₁ d₂ i inside g₁.sound g₂.sound (λ y. (h.same y).files) z;
              kernel = removed-kernel d₁ d₂ i inside k₁ k₂ g₁ g₂ h.same free (sym used ∙ free) z;
            };
      }))
    where
      inside : i < file_count d₁
      inside = (lookup-at d₁ name i e).inside

      used : in_use k₁ (entry_at d₁ i) ≡ in_use k₂ (entry_at d₂ i)
      used = same-use k₁ k₂ d₁ d₂ g₁ g₂ h.same i inside

  erase-stepped : (name : List ℕ) → Stepped (other (erase name)) s₁ s₂ out
  unfolding answer other_answer
  erase-stepped name =
      on-both-good (other (erase name)) s₁ s₂ h out _ _
      (subst (λ (f : Option ℕ). Lacks (other (erase name)) s₁ s₂
      ⊎ SameDone (other (erase name)) (erase_at (lookup d₁ name) k₁ b₁) (erase_at f k₂ b₂))
      (same-lookup k₁ k₂ d₁ d₂ g₁ g₂ h.same name) (erased-at (lookup d₁ name) name refl))

  -- ---- list
  same-list : list_text k₁ ≡ list_text k₂
  unfolding list_text
  same-list =
      list-text d₁ k₁.processes
      ∙ ap (λ (v : View). flat process_line (keep is_live v.kernel.processes)) h.same
      ∙ sym (list-text d₂ k₂.processes)

  list-stepped : Stepped (other list) s₁ s₂ out
  unfolding answer other_answer
  list-stepped =
      on-both-good (other list) s₁ s₂ h out _ _
      (tested-same (other list) s₁ s₂ h out _ _ (ap (λ (t : List ℕ). leb (length t) (length out)) same-list) 4 _ _
      (λ t. inr (record { done = refl; text = refl; view = h.same })))

pub other-stepped : (o : Other) (s₁ s₂ : Storage) → Alike s₁ s₂ → (out : List ℕ) → Stepped (other o) s₁ s₂ out
other-stepped (store name bytes) s₁ s₂ h out = store-stepped s₁ s₂ h out name bytes
other-stepped (retrieve name) s₁ s₂ h out = retrieve-stepped s₁ s₂ h out name
other-stepped (erase name) s₁ s₂ h out = erase-stepped s₁ s₂ h out name
other-stepped files s₁ s₂ h out = files-stepped s₁ s₂ h out
other-stepped free_space s₁ s₂ h out = free-space-stepped s₁ s₂ h out
other-stepped list s₁ s₂ h out = list-stepped s₁ s₂ h out
