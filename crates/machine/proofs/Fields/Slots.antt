-- Slots: a record's fields, live and ended slots, the slot of an ID, and the files that a process uses.
use Rattle.std.specs.Prelude.{None, Some}
use Prim.Native.Nat.{ℕ, ◌+◌, ◌<◌}
use mathlib.Core.Path.{◌≡◌, refl, sym, ap, ◌∙◌, subst}
use mathlib.Core.Bool.{true, false, not}
use mathlib.Core.List.{List}
use mathlib.Core.Logic.{inl, inr, ⊎_elim}
use native.Mathlib.Omega.{arith}
use lib.Dec.{eqb}
use lib.ListN.{length, get_or}
use borrow.Author.Tests.{eq-eqb, eqb-true, not-true}
use Rattle.buffer.specs.Buffer.{part}
use Rattle.buffer.specs.Lists.{tab}
use Rattle.buffer.proofs.Bools.{and_both, and_left, and_right, not-is-true, true-not-false}
use Rattle.buffer.proofs.Disjunctions.{any-is, or_cases, or-first, or-second}
use Rattle.buffer.proofs.Kept.{any_at}
use Rattle.buffer.proofs.Lists.{tab-at, tab-length, tab-same}
use Rattle.buffer.proofs.Parts.{part-byte, part-first, part-word}
use Rattle.buffer.proofs.Tables.{index_at, index-none}
use Rattle.disc.specs.Directory.{entry_at, file_count, files}
use Rattle.disc.specs.Layout.{name_size}
use Rattle.disc.specs.declared.Entry.{Entry}
use Rattle.disc.proofs.Lengths.{readable}
use Rattle.disc.proofs.Goodness.{one-of-name}
use Rattle.disc.specs.Offsets.{entry_start, size_of, start_of}
use Rattle.disc.proofs.Offsets.{entry-name, entry-size, entry-start}
use Rattle.machine.specs.Area.{kernel_of, process_of}
use Rattle.machine.specs.Fields.{Ended, HasId, Live, Lowest, Uses, id_of, next_id, open_size, open_start}
use Rattle.machine.specs.Fields.{record_start, state_byte}
use Rattle.machine.specs.GoodArea.{is_open_in, is_program}
use Rattle.machine.specs.Limits.{area_length, record_size, slot_count}
use Rattle.machine.specs.Operations.{in_use, uses}
use Rattle.machine.specs.Refusals.{Passes}
use Rattle.machine.specs.State.{ended_slot, is_live, no_process, paused, process_at, running, slot_of}
use Rattle.machine.specs.declared.Process.{Process}
use Rattle.machine.proofs.Changes.Change.{GoodState}
use Rattle.machine.proofs.Changes.Directories.{listed-is, live-record}
use Rattle.machine.proofs.Changes.Slots.{live_inside, slot_at, slot_is, slot-none}
use Rattle.machine.proofs.Demands.GoodCalls.{area-length, passes-good}
use Rattle.machine.proofs.Fields.Parts.{parts_same, same-bytes}
use Rattle.machine.proofs.Goodness.GoodLaws.{good-process-at}
use Rattle.machine.proofs.Goodness.GoodRecords.{good-process-is, is-open-in, open-in-is, program-is}

module _ (area : List ℕ) where
  pub next-is : (kernel_of area).next ≡ next_id area
  unfolding kernel_of
  next-is = refl

  pub slots_length : length (kernel_of area).processes ≡ slot_count
  unfolding kernel_of
  slots_length = tab-length (λ i. process_of (part area (record_start i) record_size)) slot_count

  -- ---- a record
  module _ (i : ℕ) (low : i < slot_count) where
    record_is : process_at (kernel_of area) i ≡ process_of (part area (record_start i) record_size)
    unfolding kernel_of
    record_is = tab-at (λ i. process_of (part area (record_start i) record_size)) slot_count i no_process low

    pub name-is : (process_at (kernel_of area) i).name ≡ part area (record_start i) name_size
    name-is = ap (λ (p : Process). p.name) record_is ∙ part-first area (record_start i) name_size record_size (omega arith)

    pub id-is : (process_at (kernel_of area) i).id ≡ id_of area i
    id-is = ap (λ (p : Process). p.id) record_is ∙ part-word area (record_start i) record_size 12 (omega arith)

    pub state-is : (process_at (kernel_of area) i).state ≡ state_byte area i
    state-is = ap (λ (p : Process). p.state) record_is ∙ part-byte area (record_start i) record_size 14 (omega arith)

    pub open-start-is : (process_at (kernel_of area) i).file.start ≡ open_start area i
    open-start-is = ap (λ (p : Process). p.file.start) record_is ∙ part-word area (record_start i) record_size 24 (omega arith)

    pub open-size-is : (process_at (kernel_of area) i).file.len ≡ open_size area i
    open-size-is = ap (λ (p : Process). p.file.len) record_is ∙ part-word area (record_start i) record_size 26 (omega arith)

  pub slots-table : (kernel_of area).processes ≡ tab (process_at (kernel_of area)) slot_count
  unfolding kernel_of
  slots-table = tab-same (λ i. process_of (part area (record_start i) record_size)) (process_at (kernel_of area)) slot_count
      (λ i h. sym (record_is i h))

  -- ---- live: past the ten slots nothing is
  pub live-is : (i : ℕ) → is_live (process_at (kernel_of area) i) ≡ true → Live area i
  live-is i h =
      let low : i < slot_count = omega (arith, live_inside (kernel_of area) i h, slots_length) in
      let same = sym (state-is i low) in
      let state = (process_at (kernel_of area) i).state in
      record {
        slot = low;
        state = ⊎_elim (λ e. inl (same ∙ eqb-true state running e)) (λ e. inr (same ∙ eqb-true state paused e))
            (or_cases (eqb state running) (eqb state paused) h);
      }

  pub is-live : (i : ℕ) → Live area i → is_live (process_at (kernel_of area) i) ≡ true
  is-live i l =
      let same = state-is i l.slot in
      let state = (process_at (kernel_of area) i).state in
      ⊎_elim (λ e. or-first (eqb state paused) (eq-eqb state running (same ∙ e)))
      (λ e. or-second (eqb state running) (eq-eqb state paused (same ∙ e))) l.state

  pub ended-not-live : (i : ℕ) → Ended area i → is_live (process_at (kernel_of area) i) ≡ false
  ended-not-live i e = rw (state-is i e.slot ∙ e.state)

-- ---- on good buffers
module _ {disc area : List ℕ} (passes : Passes disc area) where
  good : GoodState (kernel_of area) disc
  good = passes-good disc area passes

  pub not-live-ended : (i : ℕ) → i < slot_count → is_live (process_at (kernel_of area) i) ≡ false → Ended area i
  not-live-ended i low h =
      record {
        slot = low;
        state = sym (state-is area i low)
            ∙ ⊎_elim (λ e. e) (λ l. absurd (true-not-false l.0 h))
            (good-process-is (files disc) (kernel_of area).next (process_at (kernel_of area) i)
            (good-process-at (files disc) (kernel_of area) good.area i (omega (arith, slots_length area))));
      }

  -- ---- the ended slot
  pub ended-slot-lowest : (i : ℕ) → ended_slot (kernel_of area) ≡ Some i → Lowest (Ended area) i
  unfolding ended_slot
  ended-slot-lowest i e =
      let f = index_at (λ p. not (is_live p)) no_process (kernel_of area).processes i e in (
        not-live-ended i (omega (arith, f.inside, slots_length area)) (not-true (is_live (process_at (kernel_of area) i)) f.holds),
        λ m h ended. true-not-false (not-is-true (ended-not-live area m ended)) (f.first m h),
      )

  pub no-ended-slot : ended_slot (kernel_of area) ≡ None → (i : ℕ) → Ended area i → ⊥
  unfolding ended_slot
  no-ended-slot e i ended =
      true-not-false (not-is-true (ended-not-live area i ended))
      (index-none (λ p. not (is_live p)) no_process (kernel_of area).processes e i (omega (arith, ended.slot, slots_length area)))

  -- ---- the slot of an ID
  pub slot-has-id : (id i : ℕ) → slot_of (kernel_of area) id ≡ Some i → HasId area id i
  slot-has-id id i e =
      let f = slot_at (kernel_of area) id i e in
      let l = live-is area i f.1 in
      record { live = l; same = sym (id-is area i l.slot) ∙ f.2 }

  pub has-id-slot : (id i : ℕ) → HasId area id i → slot_of (kernel_of area) id ≡ Some i
  has-id-slot id i h = slot_is good i id (is-live area i h.live) (id-is area i h.live.slot ∙ h.same)

  pub slot-no-id : (id : ℕ) → slot_of (kernel_of area) id ≡ None → (i : ℕ) → HasId area id i → ⊥
  slot-no-id id e i h = slot-none (kernel_of area) id e i (is-live area i h.live) (id-is area i h.live.slot ∙ h.same)

  -- ---- the files that a process uses
  module _ (file i : ℕ) (counted : file < file_count disc) where
    abbrev e : Entry
    e = entry_at disc file

    abbrev p : Process
    p = process_at (kernel_of area) i

    abbrev SameName : Type 0
    SameName = (j : ℕ) → j < name_size → get_or area (record_start i + j) 0 ≡ get_or disc (entry_start file + j) 0

    abbrev SameFile : Type 0
    SameFile = (open_start area i ≡ start_of disc file) × (open_size area i ≡ size_of disc file)

    pub uses-is : uses (entry_at disc file) (process_at (kernel_of area) i) ≡ true → Uses disc area file i
    uses-is t =
        let live = live-is area i (and_left (is_live p) _ t) in
        record {
          live = live;
          runs = ⊎_elim (λ u. inl (runs live.slot u)) (λ u. inr (opened live.slot u))
              (or_cases (is_program p e) (is_open_in p.file e) (and_right (is_live p) _ t));
        }
      where
        runs : i < slot_count → is_program p e ≡ true → SameName
        runs low u = same-bytes area disc (record_start i) (entry_start file) name_size
            (sym (name-is area i low) ∙ (program-is p e u).name ∙ entry-name disc file)

        opened : i < slot_count → is_open_in p.file e ≡ true → SameFile
        opened low u =
            let o = open-in-is p.file e u in
            let start = sym (open-start-is area i low) ∙ o.start ∙ entry-start disc file in
            (start, sym (open-size-is area i low) ∙ o.len ∙ entry-size disc file)

    pub is-uses : Uses disc area file i → uses (entry_at disc file) (process_at (kernel_of area) i) ≡ true
    is-uses u =
        and_both live
        (⊎_elim (λ s. or-first (is_open_in p.file e) (runs s)) (λ s. or-second (is_program p e) (opened s)) u.runs)
      where
        low : i < slot_count
        low = u.live.slot

        live : is_live p ≡ true
        live = is-live area i u.live

        -- a good record's program is the file of that name
        runs : SameName → is_program p e ≡ true
        runs s =
            let f = listed-is (is_program p) disc (live-record good i live).program in
            let r = readable disc good.long good.sound in
            let size : length area ≡ area_length = eqb-true _ _ (area-length passes) in
            let name : p.name ≡ e.name =
            name-is area i low ∙ parts_same area disc (record_start i) (entry_start file) name_size (omega arith)
            (omega (arith, r.low, r.few)) s
            ∙ sym (entry-name disc file) in
            subst (λ (m : ℕ). is_program p (entry_at disc m) ≡ true)
            (one-of-name disc good.sound f.place file f.inside counted
            (sym (program-is p (entry_at disc f.place) f.holds).name ∙ name)) f.holds

        opened : SameFile → is_open_in p.file e ≡ true
        opened s = is-open-in p.file e
            (record {
              start = open-start-is area i low ∙ s.0 ∙ sym (entry-start disc file);
              len = open-size-is area i low ∙ s.1 ∙ sym (entry-size disc file);
            })

  pub in-use-is : (file : ℕ) → file < file_count disc → in_use (kernel_of area) (entry_at disc file) ≡ true
      → (i : ℕ) × Uses disc area file i
  unfolding in_use
  in-use-is file counted t =
      let f = any-is (uses (entry_at disc file)) no_process (kernel_of area).processes t in
      (f.place, uses-is file f.place counted f.holds)

  pub is-in-use : (file i : ℕ) → file < file_count disc → Uses disc area file i → in_use (kernel_of area) (entry_at disc file) ≡ true
  unfolding in_use
  is-in-use file i counted u =
      any_at (uses (entry_at disc file)) (kernel_of area).processes i no_process (omega (arith, u.live.slot, slots_length area))
      (is-uses file i counted u)
