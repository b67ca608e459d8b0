-- The file operations that are done: what they answer and leave.
use Rattle.std.specs.Prelude.{Ok, Err}
use Rattle.std.specs.Prelude.{None, Option, Some}
use Prim.Native.Nat.{ℕ}
use mathlib.Core.Path.{◌≡◌, refl, sym, ap, ◌∙◌, subst}
use mathlib.Core.Bool.{Bool, true, false, not}
use mathlib.Core.List.{List}
use lib.Dec.{leb}
use lib.IntN.{pos}
use lib.ListN.{length}
use Rattle.buffer.specs.Buffer.{overwrite, part}
use Rattle.buffer.specs.Lists.{flat}
use Rattle.place.specs.ShortestFit.{ShortestFit}
use Rattle.disc.specs.Directory.{contents, entry_at, files as entries, lookup, run_of}
use Rattle.disc.specs.declared.Entry.{Entry}
use Rattle.disc.proofs.Lookups.{lookup-at}
use Rattle.disc.specs.Offsets.{size_of, start_of}
use Rattle.disc.proofs.Locations.{contents-part}
use Rattle.disc.proofs.Offsets.{entry-size, entry-start}
use Rattle.store.specs.Answer.{Reported, file_line, files_answer, reported, retrieve_answer, retrieve_at}
use Rattle.store.specs.File.{unless}
use Rattle.store.specs.declared.Refusal.TheVariants.{ShortOutput}
use Rattle.store.proofs.Calls.{free-space-fits, free-space-most, refused-not-done, store-cases}
use Rattle.store.proofs.Checks.{by-checks}
use Rattle.store.proofs.Invariant.{present}
use Rattle.store.proofs.Rooms.{no-place-none-free, placed-free, placed-shortest}
use Rattle.store.specs.Room.{Free}
use Rattle.machine.specs.Answer.{Answer, answer, erase_at, other_answer}
use Rattle.machine.specs.Changed.{Enters, Leaves}
use Rattle.machine.specs.Done.{EraseDone, FilesDone, FreeSpaceDone, RetrieveDone, StoreDone}
use Rattle.machine.specs.Fields.{Named}
use Rattle.machine.specs.Operations.{in_use}
use Rattle.machine.specs.Refusals.{Passes, state_of}
use Rattle.machine.proofs.Done.Entering.{erased-leaves, stored-enters}
use Rattle.machine.proofs.Fields.Files.{lookup-named}
use Rattle.machine.proofs.Fields.Listings.{files-text}
use Rattle.machine.proofs.Operations.Tests.{below-not-done, done-test, done-tests}

pub store-done : StoreDone
unfolding answer other_answer
store-done b name bytes n =
    store-cases b.disc name bytes
    (λ u. u.number ≡ pos n → (n ≡ 0)
    × ((start : ℕ) × ShortestFit (Free b.disc) (length bytes) start × Enters b.disc u.disc name bytes start))
    (λ r d h. absurd (refused-not-done r n h))
    (λ s l g a h.
    let zero : n ≡ 0 = cc in
    (zero, (s, placed-shortest b.disc (length bytes) s a.some a.found, stored-enters bytes g a)))

-- ---- what is written into the output
written : (fit : Bool) (m n : ℕ) (out after : List ℕ)
    → let r = unless fit (reported (Err ShortOutput) out) (reported (Ok m) after) in r.number ≡ pos n → (n ≡ m) × (r.out ≡ after)
written true m n out after h = (cc, refl)
written false m n out after h = below-not-done h

pub retrieve-done : RetrieveDone
unfolding answer other_answer retrieve_answer
retrieve-done b name n =
    by-checks b.disc Retrieved _ _ (λ e. below-not-done) (λ e. below-not-done) (λ l g. found (lookup b.disc name) refl)
  where
    Retrieved : Reported → Type 0
    Retrieved r =
        r.number ≡ pos n → (i : ℕ) × Named b.disc name i × (n ≡ size_of b.disc i)
        × (r.out ≡ overwrite b.out 0 (part b.disc (start_of b.disc i) n))

    found : (f : Option ℕ) → lookup b.disc name ≡ f → Retrieved (retrieve_at f b.disc b.out)
    found None e h = below-not-done h
    found (Some i) e h =
        let d : Entry = entry_at b.disc i in
        let w = written (leb d.len (length b.out)) d.len n b.out (overwrite b.out 0 (contents b.disc (run_of d))) h in
        let row : contents b.disc (run_of d) ≡ part b.disc (start_of b.disc i) n =
        contents-part b.disc (run_of d) ∙ (λ z. part b.disc (entry-start b.disc i z) (sym w.0 z)) in
        (i, lookup-named b.disc name i e, w.0 ∙ entry-size b.disc i, w.1 ∙ ap (overwrite b.out 0) row)

pub files-done : FilesDone
unfolding answer other_answer files_answer
files-done b n =
    subst Writes (files-text b.disc)
    (by-checks b.disc (Written text) _ _ (λ e. below-not-done) (λ e. below-not-done)
    (λ l g. written (leb (length text) (length b.out)) (length text) n b.out (overwrite b.out 0 text)))
  where
    text : List ℕ
    text = flat file_line (entries b.disc)

    Written : List ℕ → Reported → Type 0
    Written text r = r.number ≡ pos n → (n ≡ length text) × (r.out ≡ overwrite b.out 0 text)

    Writes : List ℕ → Type 0
    Writes text = Written text (files_answer b.disc b.out)

pub erase-done : EraseDone
unfolding answer other_answer
erase-done b name n = done-tests Erased b n _ λ passes. found passes (lookup b.disc name) refl
  where
    Erased : Answer → Type 0
    Erased a = (n ≡ 0) × ((i : ℕ) × Named b.disc name i × Leaves b.disc a.disc i)

    found : Passes b.disc b.area → (f : Option ℕ) → lookup b.disc name ≡ f → (erase_at f (state_of b) b).number ≡ pos n
        → Erased (erase_at f (state_of b) b)
    found passes None e = below-not-done
    found passes (Some i) e =
        done-test Erased b n (not (in_use (state_of b) (entry_at b.disc i))) 10 _ λ free h.
        let zero : n ≡ 0 = cc in
        let file = present b.disc passes.disc-good i (lookup-at b.disc name i e).inside in
        (zero, (i, lookup-named b.disc name i e, erased-leaves file))

pub free-space-done : FreeSpaceDone
unfolding answer other_answer
free-space-done b n e = (
  λ some. let f = free-space-fits b.disc n e some in (f.0, placed-free b.disc n f.0 f.1),
  λ m start h. no-place-none-free b.disc m (free-space-most b.disc n e m h) start,
)
