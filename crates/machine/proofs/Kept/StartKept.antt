-- A start keeps a good state good: the new record is good, its ID is no other live process's, and every owner of a variable stays live.
use Prim.Native.Nat.{ℕ, ◌+◌, ◌<◌}
use mathlib.Core.Path.{◌≡◌, refl, sym, ap, ◌∙◌, subst, subst⁻¹}
use mathlib.Core.Bool.{true}
use mathlib.Core.List.{List}
use mathlib.Core.Logic.{◌⊎◌, inl, inr, ⊎_elim}
use native.Mathlib.Omega.{arith}
use lib.Dec.{eqb}
use lib.ListN.{length, length-set}
use Rattle.buffer.specs.Lists.{any}
use Rattle.buffer.proofs.Lists.{all-each}
use Rattle.disc.specs.Directory.{entry_at, files}
use Rattle.disc.specs.declared.Entry.{Entry}
use Rattle.disc.specs.Layout.{name_size}
use Rattle.disc.proofs.Goodness.{good-entry-at}
use Rattle.disc.proofs.Lookups.{lookup-at}
use Rattle.disc.proofs.Names.{field-length}
use Rattle.machine.specs.GoodArea.{good_process, is_program}
use Rattle.machine.specs.Limits.{id_limit}
use Rattle.machine.specs.Start.{started, started_process}
use Rattle.machine.specs.State.{is_live, live_ids, no_process, process_at}
use Rattle.machine.specs.declared.Kernel.{Kernel}
use Rattle.machine.specs.declared.Process.{Process}
use Rattle.machine.proofs.Kept.Begins.{Begins, started-cases, started-spares}
use Rattle.machine.proofs.Changes.Change.{GoodState}
use Rattle.machine.proofs.Changes.Directories.{is-listed, live-record}
use Rattle.machine.proofs.Goodness.DistinctIds.{distinct-ids}
use Rattle.machine.proofs.Goodness.GoodLaws.{GoodHeader, GoodKernel, good-kernel-is, good-process-at, is-good-kernel, one-of-id}
use Rattle.machine.proofs.Goodness.GoodRecords.{GoodLive, ended-good, good-process-is, is-program, live-good}
use Rattle.machine.proofs.Changes.LiveIds.{is-live-id, live-id-is, still-owned}
use Rattle.machine.proofs.Bytes.Sizes.{started-sized}
use Rattle.machine.proofs.Changes.Slots.{live_inside}

module _ {name : List ℕ} {k : Kernel} {disc : List ℕ} {slot : ℕ} {e : Entry} (g : GoodState k disc) (b : Begins name k disc slot e) where
  area : GoodKernel (files disc) k
  area = good-kernel-is (files disc) k g.area

  -- Document 01: "state 'r', no loop, name, ID and code filled in, all else of the record zero"
  new-good : good_process (files disc) (k.next + 1) (started_process e k.next) ≡ true
  new-good =
      live-good (files disc) (k.next + 1) (started_process e k.next) refl
      (record {
        low = area.header.low;
        given = omega arith;
        registers = record { share = omega arith; sp = omega arith; pc = omega arith; loop = inl refl };
        program = is-listed (is_program (started_process e k.next)) disc b.file (lookup-at disc name b.file b.found).inside
            (is-program (started_process e k.next) (entry_at disc b.file)
            (record {
              name = ap (λ (x : Entry). x.name) b.entry;
              start = ap (λ (x : Entry). x.start) b.entry;
              len = ap (λ (x : Entry). x.len) b.entry;
            }));
        file = inl (record { len = refl; offset = refl });
      })

  old-good : (s : ℕ) → s < length k.processes → good_process (files disc) (k.next + 1) (process_at k s) ≡ true
  old-good s m =
      ⊎_elim (λ (z : (process_at k s).state ≡ 0). ended-good (files disc) (k.next + 1) (process_at k s) z)
      (λ l.
      let x : GoodLive (files disc) k.next (process_at k s) = l.1 in
      live-good (files disc) (k.next + 1) (process_at k s) l.0
      (record { low = x.low; given = omega (arith, x.given); registers = x.registers; program = x.program; file = x.file }))
      (good-process-is (files disc) k.next (process_at k s) (good-process-at (files disc) k g.area s m))

  each : (s : ℕ) → s < length (started k slot e).processes → good_process (files disc) (k.next + 1) (process_at (started k slot e) s) ≡ true
  each s m =
      ⊎_elim (λ new. subst⁻¹ (λ (p : Process). good_process (files disc) (k.next + 1) p ≡ true) new.1 new-good)
      (λ (old : process_at (started k slot e) s ≡ process_at k s).
      subst⁻¹ (λ (p : Process). good_process (files disc) (k.next + 1) p ≡ true) old
      (old-good s (subst (λ (n : ℕ). s < n) (length-set k.processes slot (started_process e k.next)) m)))
      (started-cases b s)

  -- a record of the new ID is the new one
  next-not-given : (s : ℕ) (p q : Process) → p ≡ started_process e k.next → q ≡ process_at k s → is_live q ≡ true → p.id ≡ q.id → ⊥
  next-not-given s p q u v h i =
      let l = live-record g s (ap is_live (sym v) ∙ h) in
      let n : k.next ≡ (process_at k s).id = sym (ap (λ (x : Process). x.id) u) ∙ i ∙ ap (λ (x : Process). x.id) v in
      omega (arith, l.given)

  one : (i j : ℕ) → is_live (process_at (started k slot e) i) ≡ true → is_live (process_at (started k slot e) j) ≡ true
      → (process_at (started k slot e) i).id ≡ (process_at (started k slot e) j).id → i ≡ j
  one i j x y q = go (started-cases b i) (started-cases b j)
    where
      p : ℕ → Process
      p s = process_at (started k slot e) s

      go : ((i ≡ slot) × (p i ≡ started_process e k.next)) ⊎ (p i ≡ process_at k i) → ((j ≡ slot) × (p j ≡ started_process e k.next))
          ⊎ (p j ≡ process_at k j) → i ≡ j
      go (inl u) (inl v) = u.0 ∙ sym v.0
      go (inl u) (inr v) = absurd (next-not-given j (p i) (p j) u.1 v y q)
      go (inr u) (inl v) = absurd (next-not-given i (p j) (p i) v.1 u x (sym q))
      go (inr u) (inr v) =
          let h : is_live (process_at k i) ≡ true = ap is_live (sym u) ∙ x in
          let m : is_live (process_at k j) ≡ true = ap is_live (sym v) ∙ y in
          one-of-id (files disc) k g.area i j (live_inside k i h) (live_inside k j m) h m (ap (λ (r : Process). r.id) (sym u) ∙ q
          ∙ ap (λ (r : Process). r.id) v)

  more : (i : ℕ) → any (eqb i) (live_ids k) ≡ true → any (eqb i) (live_ids (started k slot e)) ≡ true
  more i t =
      let f = live-id-is k i t in
      let same = started-spares b f.0 f.1 in
      is-live-id (started k slot e) i f.0 (ap is_live same ∙ f.1) (ap (λ (p : Process). p.id) same ∙ f.2)

  header : GoodHeader (started k slot e)
  header = record {
    zeros = area.header.zeros;
    low = omega arith;
    high = let n : k.next ≡ id_limit → ⊥ = b.unspent in
        omega (arith, area.header.high);
  }

  named : length e.name ≡ name_size
  named =
      subst⁻¹ (λ (x : Entry). length x.name ≡ name_size) b.entry
      (field-length (entry_at disc b.file).name
      (good-entry-at disc g.sound b.file (lookup-at disc name b.file b.found).inside).field)

  pub started-good : GoodState (started k slot e) disc
  started-good =
      record {
        sized = started-sized k g.sized slot e named;
        long = g.long;
        sound = g.sound;
        area =
            is-good-kernel (files disc) (started k slot e)
            (record {
              variables = still-owned (live_ids k) (live_ids (started k slot e)) k.variables more area.variables;
              header = header;
              each = all-each (good_process (files disc) (k.next + 1)) (started k slot e).processes no_process each;
              distinct = distinct-ids (started k slot e) one;
            });
      }
