-- A file that a call neither erases nor writes into keeps its name, its place and its bytes.
use Rattle.std.specs.Prelude.{None, Option, Some}
use Prim.Native.Nat.{ℕ, ◌+◌, ◌≤◌, ◌<◌}
use mathlib.Core.Path.{◌≡◌, refl, sym, ap, ◌∙◌, subst, subst⁻¹}
use mathlib.Core.Bool.{true, false, ◌&&◌, not}
use mathlib.Core.List.{List}
use native.Mathlib.Nat.{add-zero}
use native.Mathlib.Omega.{arith}
use lib.Dec.{leb, ltb}
use lib.ListN.{length}
use borrow.Author.Tests.{ltb-true}
use Rattle.buffer.proofs.Bools.{and_left, and_right, true-not-false}
use Rattle.place.specs.Place.{run_from}
use Rattle.place.specs.declared.Run.{Run}
use Rattle.disc.specs.Directory.{contents, entry_at, file_count, good_disc, is_disc_length, lookup, run_of}
use Rattle.disc.proofs.Locations.{FileAt, contents-part}
use Rattle.disc.specs.declared.Entry.{Entry}
use Rattle.disc.proofs.Lengths.{readable}
use Rattle.disc.proofs.Goodness.{good-disc-is}
use Rattle.disc.proofs.Lookups.{Located, located-once, lookup-at}
use Rattle.buffer.specs.Buffer.{part}
use Rattle.disc.specs.Offsets.{size_of, start_of}
use Rattle.disc.proofs.Offsets.{bytes_of}
use Rattle.disc.proofs.InARow.{contents-byte, contents-some}
use Rattle.disc.proofs.Offsets.{bytes-of, entry-size, entry-start}
use Rattle.store.specs.File.{erased, stored, written_at}
use Rattle.store.proofs.Admissions.{Admitted}
use Rattle.store.proofs.Calls.{store-cases}
use Rattle.store.proofs.Changes.{Inside, written_count, written_entry}
use Rattle.store.proofs.Contents.{erased-other-file, written-other-file}
use Rattle.store.proofs.Effects.{stored-contents}
use Rattle.store.proofs.Invariant.{file-inside}
use Rattle.machine.specs.Answer.{Answer, Buffers, Other, store, retrieve, erase, files, free_space, list, Call, turn, round}
use Rattle.machine.specs.Answer.{command, share, run, other, answer, erase_at, other_answer}
use Rattle.machine.specs.Area.{kernel_of}
use Rattle.machine.specs.AtPc.{byte_ahead}
use Rattle.machine.specs.Beyond.{file_run}
use Rattle.machine.specs.Fields.{Named}
use Rattle.machine.specs.LeftAlone.{MayChange}
use Rattle.machine.specs.Limits.{slot_count, turn_room}
use Rattle.machine.specs.Operations.{in_use}
use Rattle.machine.specs.Refusals.{Passes}
use Rattle.machine.specs.State.{is_running, process_at}
use Rattle.machine.specs.declared.Kernel.{Kernel}
use Rattle.machine.proofs.Changes.Change.{Change, GoodState, Outside, Writes, acts, begins, erases, erasing, nothing, stores}
use Rattle.machine.proofs.Changes.Change.{writes}
use Rattle.machine.proofs.Changes.Directories.{Again, open_at}
use Rattle.machine.proofs.Demands.GoodCalls.{passes-good, turn-is-change}
use Rattle.machine.proofs.Fields.Files.{located-named, named-located}
use Rattle.machine.proofs.Fields.Slots.{open-size-is, open-start-is}
use Rattle.machine.proofs.Kept.OutsideKept.{erased-again, stored-again}
use Rattle.machine.proofs.LeftAlone.Buffers.{call-leaves}
use Rattle.machine.proofs.Operations.Tests.{on-tests, tried}

-- file i has that name, place and those bytes on another disc too
abbrev Remains : (disc after name : List ℕ) → ℕ → Type 0
Remains disc after name i =
    (j : ℕ) × Named after name j × (start_of after j ≡ start_of disc i) × (size_of after j ≡ size_of disc i)
    × (bytes_of after j ≡ bytes_of disc i)

-- ---- what becomes of a disc
module _ {disc name : List ℕ} {i : ℕ} (n : Named disc name i) where
  remains-as : {after d : List ℕ} → after ≡ d → Remains disc d name i → Remains disc after name i
  remains-as e r = subst⁻¹ (λ (l : List ℕ). Remains disc l name i) e r

  same-disc : {after : List ℕ} → after ≡ disc → Remains disc after name i
  same-disc e = remains-as e (i, n, refl, refl, refl)

  module _ (long : is_disc_length (length disc) ≡ true) (good : good_disc disc ≡ true) where
    here : Located disc name i
    here = named-located (readable disc long good) n

    again-remains : (after : List ℕ) → Again disc after i
        → contents after (run_of (entry_at disc i)) ≡ contents disc (run_of (entry_at disc i))
        → Remains disc after name i
    again-remains after a held = (
      a.place,
      located-named (record { good = here.good; inside = a.inside; held = ap (λ (e : Entry). e.name) a.same ∙ here.held }),
      sym (entry-start after a.place) ∙ ap (λ (e : Entry). e.start) a.same ∙ entry-start disc i,
      sym (entry-size after a.place) ∙ ap (λ (e : Entry). e.len) a.same ∙ entry-size disc i,
      sym (bytes-of after a.place) ∙ ap (λ (e : Entry). contents after (run_of e)) a.same ∙ held ∙ bytes-of disc i,
    )

    stored-remains : (title bytes : List ℕ) (s : ℕ) → Admitted disc title (length bytes) s → Remains disc (stored disc title bytes s) name i
    stored-remains title bytes s a =
        again-remains (stored disc title bytes s) (stored-again i here.inside bytes good a)
        (stored-contents bytes good a i here.inside)

    -- the file of another name goes
    erased-remains : (title : List ℕ) (m : ℕ) → lookup disc title ≡ Some m → (title ≡ name → ⊥) → Remains disc (erased disc m) name i
    erased-remains title m e differ =
        let l = lookup-at disc title m e in
        again-remains (erased disc m)
        (erased-again i here.inside m good l.inside
        (λ q. differ (located-once l (subst (λ (x : ℕ). Located disc name x) q here))))
        (erased-other-file disc good i here.inside m l.inside
        (λ q. differ (located-once l (subst (λ (x : ℕ). Located disc name x) (sym q) here))))

    -- bytes are written in another file
    written-remains : (m offset : ℕ) (bytes : List ℕ) → m < file_count disc → (m ≡ i → ⊥) → offset + length bytes ≤ (entry_at disc m).len
        → Remains disc (written_at disc (run_of (entry_at disc m)) offset bytes) name i
    written-remains m offset bytes h differ fits =
        let inside : Inside disc (run_of (entry_at disc m)) offset (length bytes) = file-inside disc good m h offset (length bytes) fits in
        again-remains (written_at disc (run_of (entry_at disc m)) offset bytes)
        (record {
          place = i;
          inside = omega (arith, written_count bytes inside, here.inside);
          same = written_entry bytes inside i (omega (arith, here.inside, (good-disc-is disc good).few));
        })
        (written-other-file disc good i here.inside m offset bytes h differ fits)

-- ---- a turn
module _ (b : Buffers) (name : List ℕ) (i : ℕ) (n : Named b.disc name i) where
  abbrev Kept : Answer → Type 0
  Kept a = Remains b.disc a.disc name i

  abbrev k : Kernel
  k = kernel_of b.area

  same : Remains b.disc b.disc name i
  same = same-disc n refl

  module _ (slot clock : ℕ) (good : GoodState k b.disc) (low : slot < slot_count) (far : MayChange (turn slot clock) b name i → ⊥) where
    outside-remains : {title : List ℕ} {j : Kernel} {after : List ℕ} (o : Outside title k b.disc j after) → erasing o ≡ false
        → Remains b.disc after name i
    outside-remains (nothing e f) q = same-disc n f
    outside-remains (stores title bytes s a e f) q = remains-as n f (stored-remains n good.long good.sound title bytes s a)
    outside-remains (erases m h unused e f) q = absurd (true-not-false refl q)
    outside-remains (begins child d t e f) q = same-disc n f

    write-remains : {j : Kernel} {after : List ℕ} → Writes slot k b.disc j after → Remains b.disc after name i
    write-remains x =
        remains-as n x.disc-after
        (subst⁻¹ (λ (r : Run). Remains b.disc (written_at b.disc r offset x.bytes) name i) file.run_is
        (written-remains n good.long good.sound file.place offset x.bytes file.inside differ
        (subst (λ (r : Run). offset + length x.bytes ≤ r.len) file.run_is x.inside)))
      where
        offset : ℕ
        offset = (process_at k slot).file.offset

        file : FileAt b.disc (file_run (process_at k slot).file)
        file = open_at x.file

        byte : byte_ahead b slot 0 ≡ 55
        byte =
            let pc = (process_at k slot).pc in
            let inside = contents-some b.disc (process_at k slot).code pc 54 x.instruction in
            rw add-zero (sym (contents-byte b.disc (process_at k slot).code pc inside) ∙ x.instruction)

        differ : file.place ≡ i → ⊥
        differ q =
            let run : file_run (process_at k slot).file ≡ run_of (entry_at b.disc i) =
            file.run_is ∙ ap (λ (m : ℕ). run_of (entry_at b.disc m)) q in
            far (
              byte,
              sym (open-start-is b.area slot low) ∙ ap (λ (r : Run). r.start) run ∙ entry-start b.disc i,
              sym (open-size-is b.area slot low) ∙ ap (λ (r : Run). r.len) run ∙ entry-size b.disc i,
            )

    change-remains : {title : List ℕ} {j : Kernel} {after : List ℕ} → Change title slot k b.disc j after → Remains b.disc after name i
    change-remains (acts m o still x) = outside-remains o still
    change-remains (writes x) = write-remains x

  -- ---- every call
  turn-remains : (slot clock : ℕ) → (MayChange (turn slot clock) b name i → ⊥) → Kept (answer (turn slot clock) b)
  unfolding answer
  turn-remains slot clock far =
      on-tests Kept b _ same same same λ p.
      tried Kept b (leb turn_room (length b.out)) 4 _ same λ fit.
      tried Kept b (ltb slot slot_count && is_running (process_at k slot)) 16 _ same λ may.
      let good = passes-good b.disc b.area p in
      change-remains slot clock good (ltb-true slot slot_count (and_left (ltb slot slot_count) _ may)) far
      (turn-is-change k slot clock b.disc good (and_right (ltb slot slot_count) _ may))

  erase-remains : (title : List ℕ) → (title ≡ name → ⊥) → Kept (answer (other (erase title)) b)
  unfolding answer other_answer
  erase-remains title far = on-tests Kept b _ same same same λ p. found p (lookup b.disc title) refl
    where
      found : Passes b.disc b.area → (f : Option ℕ) → lookup b.disc title ≡ f → Kept (erase_at f k b)
      found p None e = same
      found p (Some m) e =
          tried Kept b (not (in_use k (entry_at b.disc m))) 11 _ same λ free.
          erased-remains n (passes-good b.disc b.area p).long p.disc-good title m e far

  store-remains : (title bytes : List ℕ) → Kept (answer (other (store title bytes)) b)
  unfolding answer other_answer
  store-remains title bytes =
      store-cases b.disc title bytes (λ u. Remains b.disc u.disc name i) (λ r d. same)
      (λ s l g a. stored-remains n l g title bytes s a)

  other-remains : (o : Other) → (MayChange (other o) b name i → ⊥) → Kept (answer (other o) b)
  other-remains (store title bytes) far = store-remains title bytes
  other-remains (retrieve title) far = same-disc n (call-leaves b (other (retrieve title))).0.0
  other-remains (erase title) far = erase-remains title far
  other-remains files far = same-disc n (call-leaves b (other files)).0.0
  other-remains free_space far = same-disc n (call-leaves b (other free_space)).0.0
  other-remains list far = same-disc n (call-leaves b (other list)).0.0

  held-kept : (c : Call) → (MayChange c b name i → ⊥) → Kept (answer c b)
  held-kept (turn slot clock) far = turn-remains slot clock far
  held-kept (round clock) far = absurd (far tt)
  held-kept (command c id) far = same-disc n (call-leaves b (command c id)).0.0
  held-kept (share id turns) far = same-disc n (call-leaves b (share id turns)).0.0
  held-kept (run title) far = same-disc n (call-leaves b (run title)).0.0
  held-kept (other o) far = other-remains o far

  -- in the bytes of the disc
  pub files-kept : (c : Call) → (MayChange c b name i → ⊥)
      → (j : ℕ) × Named (answer c b).disc name j
      × (start_of (answer c b).disc j ≡ start_of b.disc i)
      × (size_of (answer c b).disc j ≡ size_of b.disc i)
      × (part (answer c b).disc (start_of b.disc i) (size_of b.disc i) ≡ part b.disc (start_of b.disc i) (size_of b.disc i))
  files-kept c far =
      let after = (answer c b).disc in
      let r = held-kept c far in
      let place : run_from (start_of b.disc i) (size_of b.disc i) ≡ run_from (start_of after r.0) (size_of after r.0) =
      λ z. run_from (sym r.2 z) (sym r.3 z) in
      let own = run_from (start_of b.disc i) (size_of b.disc i) in
      let row = sym (contents-part after own) ∙ ap (contents after) place ∙ r.4 ∙ contents-part b.disc own in
      (r.0, r.1, r.2, r.3, row)
