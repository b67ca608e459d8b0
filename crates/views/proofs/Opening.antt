-- OPEN and WRITE on two good states that show the same: both go on alike, unless one of them refuses a place or a size.
use Rattle.std.specs.Prelude.{None, Option, Some}
use Rattle.std.specs.Prelude.{Ok, Err, Result}
use Rattle.std.proofs.Math.Bool.{or-true}
use Rattle.std.proofs.Common.{ℕ, zero, suc, cond, ◌≡◌, ◌+◌, ◌<◌, ◌≤◌, Bool, true, false, ◌||◌, List, [], ◌∷◌, ◌++◌, refl, sym, ap, ◌∙◌}
use Rattle.std.proofs.Common.{subst, length, arith}
use mathlib.Core.Logic.{◌⊎◌, inl, inr, ⊎_elim}
use lib.Dec.{ltb}
use lib.IntN.{ℤ, pos, negsuc}
use Rattle.std.specs.Float.{fin, inf, nan}
use Rattle.std.specs.Prelude.{Float as Floating}
use lib.ListN.{length-replicate}
use borrow.Author.Tests.{leb-true}
use Rattle.buffer.specs.Buffer.{zeros}
use Rattle.float.specs.Whole.{in_range, size_of, sized, whole_of}
use Rattle.number.specs.Compare.{size_within}
use Rattle.number.specs.declared.Number.{Number}
use Rattle.number.specs.declared.Number.TheVariants.{Char, Int, Float}
use Rattle.place.specs.Place.{run_from}
use Rattle.disc.specs.Directory.{entry_at, file_count, lookup, run_of}
use Rattle.disc.proofs.Locations.{FileAt, Held, held-inside, held-low}
use Rattle.disc.specs.Layout.{max_files}
use Rattle.disc.specs.Name.{good_name, padded}
use Rattle.disc.proofs.Goodness.{good-entry-at}
use Rattle.disc.proofs.Lookups.{lookup-at}
use Rattle.store.specs.File.{admission, deny_if_found, good_size, place_of, start_or, stored, unless, written_at}
use Rattle.store.specs.declared.Refusal.{Refusal}
use Rattle.store.specs.declared.Refusal.TheVariants.{BadName, BadSize, DirectoryFull, NameExists}
use Rattle.store.proofs.Admissions.{Admitted, admitted, zeros-admitted}
use Rattle.store.proofs.Changes.{Inside}
use Rattle.machine.specs.Beyond.{advanced, answered, created, created_at, file_run, new_file_size, opened, opened_at, written}
use Rattle.machine.specs.Effect.{opens}
use Rattle.machine.specs.State.{Local, is_live, process_at, with_file, with_local, with_process}
use Rattle.machine.specs.declared.Kernel.{Kernel}
use Rattle.machine.specs.declared.Process.{Process}
use Rattle.machine.proofs.Changes.Change.{GoodState}
use Rattle.views.specs.Same.{aside, aside_kernel, lacks_room, new_lacks, open_lacks, request_lacks, shown_files, view_at, whose}
use Rattle.views.proofs.Appended.{appended-files, appended-kernel, appended-new}
use Rattle.views.proofs.First.{same-len, same-lookup, same-open, same_count, same_live}
use Rattle.views.proofs.Overwritten.{overwritten-files-at, overwritten-kernel-at}
use Rattle.views.proofs.Putting.{advanced-same, local-same, open-shows, put-same, record-of}
use Rattle.views.proofs.Starting.{whose-itself}
use Rattle.views.proofs.Turning.{SameAnswered, both-break, both-go, file₁, file₂, inside-same, offset-same, put-view, record-same}
use Rattle.views.proofs.Turning.{size-same, with-open}

-- ---- sizes: within two limits a number is the same size
refused-size : (n : ℕ) → None ≡ Some n → ⊥
refused-size n e = let z : ◌≡◌ {A = ℕ} 0 1 = cc in omega arith

size-is : {n m : ℕ} → Some n ≡ Some m → n ≡ m
size-is e = cc

positive : {n m : ℕ} → pos n ≡ pos m → n ≡ m
positive e = cc

within-size : (b : Bool) (z : ℤ) (n : ℕ) → sized (cond b (Some z) None) ≡ Some n → z ≡ pos n
within-size false z n e = absurd (refused-size n e)
within-size true (pos zero) n e = absurd (refused-size n e)
within-size true (pos (suc k)) n e = ap pos (size-is e)
within-size true (negsuc k) n e = absurd (refused-size n e)

same-size : (a b : ℕ) (size : Number) (n m : ℕ) → size_within a size ≡ Some n → size_within b size ≡ Some m → n ≡ m
unfolding size_of whole_of
same-size a b (Char x) n m e f = positive (sym (within-size (in_range a x) x n e) ∙ within-size (in_range b x) x m f)
same-size a b (Int x) n m e f = positive (sym (within-size (in_range a x) x n e) ∙ within-size (in_range b x) x m f)
same-size a b (Float x) n m e f = float-size x e f
  where
    float-size : (x : Floating) → size_of a x ≡ Some n → size_of b x ≡ Some m → n ≡ m
    float-size nan e f = absurd (refused-size n e)
    float-size (inf s) e f = absurd (refused-size n e)
    float-size (fin s k t) e f = positive (sym (within-size (in_range a _) _ n e) ∙ within-size (in_range b _) _ m f)

-- ---- admissions: lacking room on either, or refused alike, or both let in
pub data BothAdmit : Result ℕ Refusal → Result ℕ Refusal → Type 0 where
  both-denied : (r : Refusal) → BothAdmit (Err r) (Err r)
  both-start : (s t : ℕ) → BothAdmit (Ok s) (Ok t)

abbrev decides : Bool → Bool → Bool → Option ℕ → Option ℕ → Result ℕ Refusal
decides good small few name place =
    unless good (Err BadName)
    (unless small (Err BadSize)
    (unless few (Err DirectoryFull)
    (deny_if_found name (start_or place))))

alike : (g a b c : Bool) (f x y : Option ℕ) → (lacks_room (decides g a c f x) || lacks_room (decides g b c f y) ≡ true)
    ⊎ BothAdmit (decides g a c f x) (decides g b c f y)
alike false a b c f x y = inr (both-denied BadName)
alike true false b c f x y = inl refl
alike true true false c f x y = inl (or-true (lacks_room (decides true true c f x)))
alike true true true false f x y = inr (both-denied DirectoryFull)
alike true true true true (Some i) x y = inr (both-denied NameExists)
alike true true true true None None y = inl refl
alike true true true true None (Some s) None = inl refl
alike true true true true None (Some s) (Some t) = inr (both-start s t)

module _ (k₁ k₂ : Kernel) (d₁ d₂ : List ℕ) (g₁ : GoodState k₁ d₁) (g₂ : GoodState k₂ d₂) (same : view_at k₁ d₁ ≡ view_at k₂ d₂) where
  pub admitted-alike : (name : List ℕ) (n : ℕ) → (lacks_room (admission d₁ name n) || lacks_room (admission d₂ name n) ≡ true)
      ⊎ BothAdmit (admission d₁ name n) (admission d₂ name n)
  unfolding admission
  admitted-alike name n =
      let a = admission d₁ name n in
      subst (λ b. (lacks_room a || lacks_room b ≡ true) ⊎ BothAdmit a b)
      (λ z. decides (good_name name) (good_size d₂ n) (ltb (same_count k₁ k₂ d₁ d₂ g₁ g₂ same z) max_files)
      (same-lookup k₁ k₂ d₁ d₂ g₁ g₂ same name z) (place_of d₂ n))
      (alike (good_name name) (good_size d₁ n) (good_size d₂ n) (ltb (file_count d₁) max_files) (lookup d₁ name) (place_of d₁ n)
      (place_of d₂ n))

  -- a file that is let in on both: the discs show one more, and records show as before
  module _ (name : List ℕ) (bytes : List ℕ) (s t : ℕ) (a : Admitted d₁ name (length bytes) s) (b : Admitted d₂ name (length bytes) t) where
    pub entered-files : shown_files (stored d₁ name bytes s) ≡ shown_files (stored d₂ name bytes t)
    entered-files =
        appended-files bytes g₁.sound a
        ∙ (λ z. (same z).files ++ (record { name = padded name; len = length bytes; bytes = bytes } ∷ []))
        ∙ sym (appended-files bytes g₂.sound b)

    pub entered-kernel : aside_kernel (stored d₁ name bytes s) k₁ ≡ aside_kernel (stored d₂ name bytes t) k₂
    entered-kernel =
        appended-kernel bytes g₁.sound a k₁ g₁ ∙ (λ z. (same z).kernel) ∙ sym (appended-kernel bytes g₂.sound b k₂ g₂)

    pub entered-view : view_at k₁ (stored d₁ name bytes s) ≡ view_at k₂ (stored d₂ name bytes t)
    entered-view = λ z. record { files = entered-files z; kernel = entered-kernel z }

  module _ (slot : ℕ) (live : is_live (process_at k₁ slot) ≡ true) where
    abbrev p₁ : Process
    p₁ = process_at k₁ slot

    abbrev p₂ : Process
    p₂ = process_at k₂ slot

    live₂ : is_live p₂ ≡ true
    live₂ = sym (same_live k₁ k₂ d₁ d₂ g₁ g₂ same slot) ∙ live

    own : (l : Local) → aside d₁ (with_local p₁ l) ≡ aside d₂ (with_local p₂ l)
    own l = local-same d₁ d₂ p₁ p₂ (record-same k₁ k₂ d₁ d₂ g₁ g₂ same slot live) l

    -- ---- OPEN of a file that is there
    old-same : (i : ℕ) → i < file_count d₁ → (name : List ℕ) (size : Number) (l : Local)
        → SameAnswered (opened_at k₁ slot d₁ (Some i) name size l) (opened_at k₂ slot d₂ (Some i) name size l)
    old-same i h name size l =
        let m : i < file_count d₂ = subst (λ (n : ℕ). i < n) (same_count k₁ k₂ d₁ d₂ g₁ g₂ same) h in
        both-go (put-view k₁ k₂ d₁ d₂ g₁ g₂ same slot live _ _
        (open-shows d₁ (with_local p₁ l) (run_of (entry_at d₁ i)) i live (λ e. omega (arith, (good-entry-at d₁ g₁.sound i h).some))
        (whose-itself d₁ g₁.sound i h)
        ∙ (λ z. with_file (own l z) (record { start = i; len = same-len k₁ k₂ d₁ d₂ g₁ g₂ same i h z; offset = 0 }))
        ∙ sym (open-shows d₂ (with_local p₂ l) (run_of (entry_at d₂ i)) i live₂ (λ e. omega (arith, (good-entry-at d₂ g₂.sound i m).some))
        (whose-itself d₂ g₂.sound i m))))

    -- ---- OPEN of a new file
    new-start : (name : List ℕ) (n s t : ℕ) → admission d₁ name n ≡ Ok s → admission d₂ name n ≡ Ok t → (l : Local)
        → SameAnswered (created_at k₁ slot d₁ (Ok s) name n l) (created_at k₂ slot d₂ (Ok t) name n l)
    new-start name n s t e f l =
        both-go (λ z. record {
          files = entered-files name (zeros n) s t a b z;
          kernel = put-same k₁ k₂ after₁ after₂ (entered-kernel name (zeros n) s t a b) slot _ _ record-after z;
        })
      where
        let-in : Admitted d₁ name n s
        let-in = admitted d₁ name n s e

        a : Admitted d₁ name (length (zeros n)) s
        a = zeros-admitted let-in

        b : Admitted d₂ name (length (zeros n)) t
        b = zeros-admitted (admitted d₂ name n t f)

        after₁ : List ℕ
        after₁ = stored d₁ name (zeros n) s

        after₂ : List ℕ
        after₂ = stored d₂ name (zeros n) t

        some : n ≡ 0 → ⊥
        some z = omega (arith, let-in.some)

        place₁ : whose after₁ (run_from s n) ≡ file_count d₁
        place₁ = ap (λ (m : ℕ). whose after₁ (run_from s m)) (sym (length-replicate n 0)) ∙ appended-new (zeros n) g₁.sound a

        place₂ : whose after₂ (run_from t n) ≡ file_count d₂
        place₂ = ap (λ (m : ℕ). whose after₂ (run_from t m)) (sym (length-replicate n 0)) ∙ appended-new (zeros n) g₂.sound b

        base : aside after₁ (with_local p₁ l) ≡ aside after₂ (with_local p₂ l)
        base = local-same after₁ after₂ p₁ p₂ (record-of k₁ k₂ after₁ after₂ (entered-kernel name (zeros n) s t a b) slot) l

        record-after : aside after₁ (with_file (with_local p₁ l) (opened (run_from s n)))
            ≡ aside after₂ (with_file (with_local p₂ l) (opened (run_from t n)))
        record-after =
            open-shows after₁ (with_local p₁ l) (run_from s n) (file_count d₁) live some place₁
            ∙ (λ z. with_file (base z) (record { start = same_count k₁ k₂ d₁ d₂ g₁ g₂ same z; len = n; offset = 0 }))
            ∙ sym (open-shows after₂ (with_local p₂ l) (run_from t n) (file_count d₂) live₂ some place₂)

    created-by : (name : List ℕ) (n : ℕ) (l : Local) (a b : Result ℕ Refusal) → admission d₁ name n ≡ a → admission d₂ name n ≡ b
        → BothAdmit a b
        → SameAnswered (created_at k₁ slot d₁ a name n l) (created_at k₂ slot d₂ b name n l)
    created-by name n l _ _ e f (both-denied r) = both-break refl
    created-by name n l _ _ e f (both-start s t) = new-start name n s t e f l

    abbrev Opens : Option ℕ → Option ℕ → List ℕ → Local → Type 0
    Opens a b name l =
        (new_lacks a d₁ name || new_lacks b d₂ name ≡ true) ⊎ SameAnswered (created k₁ slot d₁ a name l) (created k₂ slot d₂ b name l)

    sized-alike : (name : List ℕ) (n : ℕ) (l : Local) → Opens (Some n) (Some n) name l
    sized-alike name n l =
        ⊎_elim inl (λ b. inr (created-by name n l (admission d₁ name n) (admission d₂ name n) refl refl b)) (admitted-alike name n)

    new-alike : (name : List ℕ) (size : Number) (l : Local) (a b : Option ℕ) → new_file_size d₁ size ≡ a → new_file_size d₂ size ≡ b
        → Opens a b name l
    new-alike name size l None b e f = inl refl
    new-alike name size l (Some n) None e f = inl (or-true (new_lacks (Some n) d₁ name))
    new-alike name size l (Some n) (Some m) e f =
        subst (λ (x : ℕ). Opens (Some n) (Some x) name l) (same-size _ _ size n m e f) (sized-alike name n l)

    pub opens-same : (name : List ℕ) (size : Number) (l : Local)
        → (request_lacks (opens name size l) d₁ || request_lacks (opens name size l) d₂ ≡ true)
        ⊎ SameAnswered (answered k₁ slot d₁ (opens name size l)) (answered k₂ slot d₂ (opens name size l))
    unfolding answered
    opens-same name size l =
        subst
        (λ (f : Option ℕ). (open_lacks (lookup d₁ name) (new_file_size d₁ size) d₁ name || open_lacks f (new_file_size d₂ size) d₂ name
        ≡ true)
        ⊎ SameAnswered (opened_at k₁ slot d₁ (lookup d₁ name) name size l) (opened_at k₂ slot d₂ f name size l))
        (same-lookup k₁ k₂ d₁ d₂ g₁ g₂ same name)
        (go (lookup d₁ name) refl)
      where
        go : (f : Option ℕ) → lookup d₁ name ≡ f
            → (open_lacks f (new_file_size d₁ size) d₁ name || open_lacks f (new_file_size d₂ size) d₂ name ≡ true)
            ⊎ SameAnswered (opened_at k₁ slot d₁ f name size l) (opened_at k₂ slot d₂ f name size l)
        go (Some i) q = inr (old-same i (lookup-at d₁ name i q).inside name size l)
        go None q = new-alike name size l (new_file_size d₁ size) (new_file_size d₂ size) refl refl

    -- ---- WRITE
    offset : p₁.file.offset ≡ p₂.file.offset
    offset = offset-same k₁ k₂ d₁ d₂ g₁ g₂ same slot live

    size : p₁.file.len ≡ p₂.file.len
    size = size-same k₁ k₂ d₁ d₂ g₁ g₂ same slot live

    module _ (bytes : List ℕ) (some : p₁.file.len ≡ 0 → ⊥) (fits : p₁.file.offset + length bytes ≤ p₁.file.len) where
      abbrev after₁ : List ℕ
      after₁ = written_at d₁ (file_run p₁.file) p₁.file.offset bytes

      abbrev after₂ : List ℕ
      after₂ = written_at d₂ (file_run p₂.file) p₂.file.offset bytes

      file-of₁ : FileAt d₁ (file_run p₁.file)
      file-of₁ = file₁ k₁ k₂ d₁ d₂ g₁ g₂ same slot live some

      file-of₂ : FileAt d₂ (file_run p₂.file)
      file-of₂ = file₂ k₁ k₂ d₁ d₂ g₁ g₂ same slot live some

      inside₁ : Inside d₁ (file_run p₁.file) p₁.file.offset (length bytes)
      inside₁ =
          let held : Held d₁ (file_run p₁.file) = record { sound = g₁.sound; file = file-of₁ } in
          record { low = held-low held; high = held-inside held; fits = fits }

      inside₂ : Inside d₂ (file_run p₂.file) p₂.file.offset (length bytes)
      inside₂ =
          let held : Held d₂ (file_run p₂.file) = record { sound = g₂.sound; file = file-of₂ } in
          record { low = held-low held; high = held-inside held; fits = omega (arith, offset, size, fits) }

      files-after : shown_files after₁ ≡ shown_files after₂
      files-after =
          overwritten-files-at d₁ d₂ g₁.sound g₂.sound (λ z. (same z).files) p₁.file.offset bytes file-of₁ file-of₂
          (same-open k₁ k₂ d₁ d₂ g₁ g₂ same slot live some) fits
          ∙ (λ z. shown_files (written_at d₂ (file_run p₂.file) (offset z) bytes))

      kernel-after : aside_kernel after₁ k₁ ≡ aside_kernel after₂ k₂
      kernel-after =
          overwritten-kernel-at bytes inside₁ g₁.sound k₁ ∙ (λ z. (same z).kernel) ∙ sym (overwritten-kernel-at bytes inside₂ g₂.sound k₂)

      view-after : (l : Local)
          → view_at (with_process k₁ slot (with_file (with_local p₁ l) (advanced p₁.file (length bytes)))) after₁
          ≡ view_at (with_process k₂ slot (with_file (with_local p₂ l) (advanced p₂.file (length bytes)))) after₂
      view-after l =
          λ z. record {
            files = files-after z;
            kernel = put-same k₁ k₂ after₁ after₂ kernel-after slot _ _
                (advanced-same after₁ after₂ p₁ p₂ (record-of k₁ k₂ after₁ after₂ kernel-after slot) (length bytes) l l refl) z;
          }

    pub writes-same : (bytes : List ℕ) (l : Local) → SameAnswered (written k₁ slot d₁ bytes l) (written k₂ slot d₂ bytes l)
    writes-same bytes l =
        with-open k₁ k₂ d₁ d₂ g₁ g₂ same slot live
        (λ some. inside-same k₁ k₂ d₁ d₂ g₁ g₂ same slot live (length bytes) (λ h. both-go (view-after bytes some (leb-true _ _ h) l)))
