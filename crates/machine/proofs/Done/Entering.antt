-- A file that enters with its bytes, and one that goes, byte by byte.
use Prim.Native.Nat.{ℕ, ◌+◌, ◌-◌, ◌≤◌, ◌<◌}
use mathlib.Core.Path.{◌≡◌, sym, ap, ◌∙◌, subst}
use mathlib.Core.Bool.{true}
use mathlib.Core.List.{List}
use mathlib.Core.Logic.{◌⊎◌, inl, inr}
use native.Mathlib.Omega.{arith}
use lib.ListN.{length, get_or, get_or-replicate}
use Rattle.place.specs.Place.{run_from}
use Rattle.place.specs.declared.Run.{Run}
use Rattle.disc.specs.Directory.{file_count, good_disc}
use Rattle.disc.specs.Layout.{entry_size}
use Rattle.disc.specs.declared.Entry.{Entry}
use Rattle.disc.specs.Offsets.{entry_start}
use Rattle.disc.proofs.InARow.{location-is}
use Rattle.disc.proofs.Locations.{contents-part}
use Rattle.disc.proofs.Offsets.{entry-name, entry-size, entry-start}
use Rattle.store.specs.File.{erased, stored}
use Rattle.store.proofs.Admissions.{Admitted}
use Rattle.store.proofs.Changes.{Present, erased-byte, erased-count, erased-moved, erased-vacated}
use Rattle.store.proofs.Effects.{stored-byte, stored-count, stored-data, stored-new}
use Rattle.store.proofs.Invariant.{room}
use Rattle.machine.specs.Changed.{Enters, Leaves}
use Rattle.machine.proofs.Fields.Names.{padded-spells}
use Rattle.machine.proofs.Fields.Parts.{is-part}

-- ---- a file enters
pub stored-enters : {disc name : List ℕ} {s : ℕ} (bytes : List ℕ) → good_disc disc ≡ true → Admitted disc name (length bytes) s
    → Enters disc (stored disc name bytes s) name bytes s
stored-enters {disc} {name} {s} bytes good a =
    let after : List ℕ = stored disc name bytes s in
    let new = stored-new bytes good a in
    record {
      count = stored-count bytes good a;
      spelled = padded-spells name (room a).short after (entry_start (file_count disc))
          (sym (entry-name after (file_count disc)) ∙ ap (λ (e : Entry). e.name) new);
      starts = sym (entry-start after (file_count disc)) ∙ ap (λ (e : Entry). e.start) new;
      sized = sym (entry-size after (file_count disc)) ∙ ap (λ (e : Entry). e.len) new;
      holds = sym (contents-part after run) ∙ stored-data bytes good a;
      rest = λ j k e o. stored-byte bytes good a j k e (λ i h q. aside o (q ∙ location-is after run i) h);
    }
  where
    run : Run
    run = run_from s (length bytes)

    -- a byte before the file or behind it is none of its own
    aside : {j i : ℕ} → (j < s) ⊎ (s + length bytes ≤ j) → j ≡ s + i → i < length bytes → ⊥
    aside (inl h) q k = omega arith
    aside (inr h) q k = omega arith

-- ---- a file goes
pub erased-leaves : {disc : List ℕ} {i : ℕ} → Present disc i → Leaves disc (erased disc i) i
erased-leaves {disc} {i} file =
    let count = erased-count file in
    record {
      count = omega (arith, count, file.inside);
      earlier = λ j h. erased-byte file j (inl h) (λ k. omega (arith, file.inside, file.few));
      later = λ j low h. erased-moved file j low (omega (arith, count));
      vacated = λ j low h. vacated j (omega (arith, count)) (omega (arith, file.inside));
      rest = λ j h k. erased-byte file j (inr h) k;
    }
  where
    last : ℕ
    last = entry_start (file_count disc - 1)

    vacated : (j : ℕ) → last ≤ j → j < last + entry_size → get_or (erased disc i) j 0 ≡ 0
    vacated j low h =
        let q : last + (j - last) ≡ j = omega arith in
        let inside : j - last < entry_size = omega arith in
        subst (λ (x : ℕ). get_or (erased disc i) x 0 ≡ 0) q
        (is-part (erased disc i) _ last entry_size (erased-vacated file) (j - last) inside
        ∙ get_or-replicate entry_size (j - last) 0 0 inside)
