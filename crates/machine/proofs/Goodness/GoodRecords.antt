-- One process record of a good area as facts: laws out of each test, and laws into it.
use Prim.Native.Nat.{ℕ, ◌≤◌, ◌<◌}
use mathlib.Core.Path.{◌≡◌, refl}
use mathlib.Core.Bool.{Bool, true, false, cond, ◌&&◌}
use mathlib.Core.List.{List}
use mathlib.Core.Logic.{◌⊎◌, inl, inr, ⊎_elim}
use lib.Dec.{eqb, leb}
use borrow.Author.Tests.{eq-eqb, eqb-false, eqb-true, le-leb, leb-true, lt-ltb, ltb-true, ne_eqb}
use Rattle.buffer.specs.Lists.{any, same}
use Rattle.buffer.proofs.Bools.{and_left, and_right, and_both, true-not-false}
use Rattle.buffer.proofs.Lists.{same-eq, same_refl}
use Rattle.disc.specs.declared.Entry.{Entry}
use Rattle.machine.specs.GoodArea.{good_file, good_id, good_live, good_process, good_registers, is_open_in, is_program}
use Rattle.machine.specs.Limits.{max_share, stack_size}
use Rattle.machine.specs.State.{is_live, no_loop}
use Rattle.machine.specs.declared.OpenFile.{OpenFile}
use Rattle.machine.specs.declared.Process.{Process}
use Rattle.buffer.proofs.Disjunctions.{or_cases, or-first, or-second}

-- ---- the numbers of a live record
pub record GoodRegisters (p : Process) : Type 0 where
  pub share : p.share ≤ max_share
  pub sp : p.sp ≤ stack_size
  pub pc : p.pc ≤ p.code.len
  pub loop : (p.loopstart ≡ no_loop) ⊎ (p.loopstart ≤ p.code.len)

pub good-registers-is : (p : Process) → good_registers p ≡ true → GoodRegisters p
unfolding good_registers
good-registers-is p t =
    let r = and_right (leb p.share max_share) _ t in
    let s = and_right (leb p.sp stack_size) _ r in
    let u = and_right (leb p.pc p.code.len) _ s in
    record {
      share = leb-true _ _ (and_left (leb p.share max_share) _ t);
      sp = leb-true _ _ (and_left (leb p.sp stack_size) _ r);
      pc = leb-true _ _ (and_left (leb p.pc p.code.len) _ s);
      loop = ⊎_elim (λ e. inl (eqb-true _ _ e)) (λ e. inr (leb-true _ _ e)) (or_cases (eqb p.loopstart no_loop) _ u);
    }

pub is-good-registers : (p : Process) → GoodRegisters p → good_registers p ≡ true
unfolding good_registers
is-good-registers p g =
    and_both (le-leb _ _ g.share)
    (and_both (le-leb _ _ g.sp)
    (and_both (le-leb _ _ g.pc)
    (⊎_elim (λ e. or-first (leb p.loopstart p.code.len) (eq-eqb _ _ e)) (λ e. or-second (eqb p.loopstart no_loop) (le-leb _ _ e))
    g.loop)))

-- ---- the program and the open file of a live record
pub record ProgramIs (p : Process) (e : Entry) : Type 0 where
  pub name : p.name ≡ e.name
  pub start : p.code.start ≡ e.start
  pub len : p.code.len ≡ e.len

pub program-is : (p : Process) (e : Entry) → is_program p e ≡ true → ProgramIs p e
unfolding is_program
program-is p e t =
    let r = and_right (same p.name e.name) _ t in
    record {
      name = same-eq p.name e.name (and_left (same p.name e.name) _ t);
      start = eqb-true _ _ (and_left (eqb p.code.start e.start) _ r);
      len = eqb-true _ _ (and_right (eqb p.code.start e.start) _ r);
    }

pub is-program : (p : Process) (e : Entry) → ProgramIs p e → is_program p e ≡ true
unfolding is_program
is-program p e g =
    let q : same p.name e.name ≡ true = rw g.name (same_refl e.name) in
    and_both q (and_both (eq-eqb _ _ g.start) (eq-eqb _ _ g.len))

pub record OpenIn (f : OpenFile) (e : Entry) : Type 0 where
  pub start : f.start ≡ e.start
  pub len : f.len ≡ e.len

pub open-in-is : (f : OpenFile) (e : Entry) → is_open_in f e ≡ true → OpenIn f e
open-in-is f e t = record {
  start = eqb-true _ _ (and_left (eqb f.start e.start) _ t);
  len = eqb-true _ _ (and_right (eqb f.start e.start) _ t);
}

pub is-open-in : (f : OpenFile) (e : Entry) → OpenIn f e → is_open_in f e ≡ true
is-open-in f e g = and_both (eq-eqb _ _ g.start) (eq-eqb _ _ g.len)

pub record Closed (f : OpenFile) : Type 0 where
  pub len : f.len ≡ 0
  pub offset : f.offset ≡ 0

pub record Opened (entries : List Entry) (f : OpenFile) : Type 0 where
  pub some : f.len ≡ 0 → ⊥
  pub offset : f.offset ≤ f.len
  pub listed : any (is_open_in f) entries ≡ true

abbrev pub GoodFile : List Entry → OpenFile → Type 0
GoodFile entries f = Closed f ⊎ Opened entries f

module _ (entries : List Entry) (f : OpenFile) where
  pub good-file-is : good_file entries f ≡ true → GoodFile entries f
  unfolding good_file
  good-file-is t = go (eqb f.len 0) refl t
    where
      go : (b : Bool) → eqb f.len 0 ≡ b → cond b (eqb f.offset 0) (leb f.offset f.len && any (is_open_in f) entries) ≡ true
          → GoodFile entries f
      go true e h = inl (record { len = eqb-true _ _ e; offset = eqb-true _ _ h })
      go false e h = inr (record {
        some = eqb-false _ _ e;
        offset = leb-true _ _ (and_left (leb f.offset f.len) _ h);
        listed = and_right (leb f.offset f.len) _ h;
      })

  pub is-good-file : GoodFile entries f → good_file entries f ≡ true
  unfolding good_file
  is-good-file (inl c) = rw (eq-eqb _ _ c.len) (eq-eqb _ _ c.offset)
  is-good-file (inr o) = rw (ne_eqb _ _ o.some) (and_both (le-leb _ _ o.offset) o.listed)

-- ---- a live record
pub record GoodLive (entries : List Entry) (next : ℕ) (p : Process) : Type 0 where
  pub low : 1 ≤ p.id
  pub given : p.id < next
  pub registers : GoodRegisters p
  pub program : any (is_program p) entries ≡ true
  pub file : GoodFile entries p.file

module _ (entries : List Entry) (next : ℕ) (p : Process) where
  pub good-live-is : good_live entries next p ≡ true → GoodLive entries next p
  unfolding good_live
  good-live-is t =
      let i = and_left (good_id next p) _ t in
      let r = and_right (good_id next p) _ t in
      let s = and_right (good_registers p) _ r in
      record {
        low = leb-true _ _ (and_left (leb 1 p.id) _ i);
        given = ltb-true _ _ (and_right (leb 1 p.id) _ i);
        registers = good-registers-is p (and_left (good_registers p) _ r);
        program = and_left (any (is_program p) entries) _ s;
        file = good-file-is entries p.file (and_right (any (is_program p) entries) _ s);
      }

  pub is-good-live : GoodLive entries next p → good_live entries next p ≡ true
  unfolding good_live
  is-good-live g =
      and_both (and_both (le-leb _ _ g.low) (lt-ltb _ _ g.given))
      (and_both (is-good-registers p g.registers) (and_both g.program (is-good-file entries p.file g.file)))

  -- ---- any record
  pub ended-good : p.state ≡ 0 → good_process entries next p ≡ true
  unfolding good_process
  ended-good h = or-first (is_live p && good_live entries next p) (eq-eqb _ _ h)

  pub live-good : is_live p ≡ true → GoodLive entries next p → good_process entries next p ≡ true
  unfolding good_process
  live-good h g = or-second (eqb p.state 0) (and_both h (is-good-live g))

  pub good-process-is : good_process entries next p ≡ true → (p.state ≡ 0) ⊎ ((is_live p ≡ true) × GoodLive entries next p)
  unfolding good_process
  good-process-is t =
      ⊎_elim (λ e. inl (eqb-true _ _ e)) (λ e. inr (and_left (is_live p) _ e, good-live-is (and_right (is_live p) _ e)))
      (or_cases (eqb p.state 0) (is_live p && good_live entries next p) t)

  pub good-live-of : good_process entries next p ≡ true → is_live p ≡ true → GoodLive entries next p
  good-live-of t h = ⊎_elim (λ e. absurd (true-not-false h (ended-not-live e))) (λ g. g.1) (good-process-is t)
    where
      ended-not-live : p.state ≡ 0 → is_live p ≡ false
      ended-not-live e = rw e
