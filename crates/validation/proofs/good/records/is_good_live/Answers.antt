-- Its tests are those of `good_live`, in their order.
use Prim.Native.Nat.{ℕ, ◌<◌, ◌≤◌}
use mathlib.Core.Path.{◌≡◌, sym, subst, ◌∙◌}
use mathlib.Core.Bool.{true}
use borrow.Author.Tests.{le-leb, le-ltb, lt-leb, lt-ltb}
use Rattle.buffer.proofs.Bools.{and_both}
use Rattle.machine.specs.Area.{process_of}
use Rattle.machine.specs.GoodArea.{good_id, good_live}
use Rattle.machine.specs.declared.Process.{Process}
use Rattle.validation.proofs.good.records.is_good_live.Goals as goal

good-id : (p : Process) {id next : ℕ} → id ≡ p.id → 1 ≤ id → id < next → good_id next p ≡ true
good-id p {id} {next} e low high = rw (← e) (and_both (le-leb 1 id low) (lt-ltb id next high))

pub returns-then-id-lt1 : goal.returns-then-id-lt1
unfolding good_live
returns-then-id-lt1 c = rw (lt-leb _ _ (subst (λ (k : ℕ). k < 1) c.word_at-id.ensures c.if-id-lt1.true))

pub returns-then-next-id : goal.returns-then-next-id
unfolding good_live
returns-then-next-id c =
    let n = c.args.next in
    let e = c.word_at-id.ensures in
    rw (le-leb _ _ (subst (λ (k : ℕ). 1 ≤ k) e c.if-id-lt1.false), le-ltb _ _ (subst (λ (k : ℕ). n ≤ k) e c.if-next-id.true))

pub returns-then-not-are_good_registers : goal.returns-then-not-are_good_registers
unfolding good_live
returns-then-not-are_good_registers c =
    rw (
      good-id (process_of c.args.bytes.now) c.word_at-id.ensures c.if-id-lt1.false c.if-next-id.false,
      sym c.are_good_registers.ensures ∙ c.if-not-are_good_registers.true,
    )

pub returns-then-not-is_good_program : goal.returns-then-not-is_good_program
unfolding good_live
returns-then-not-is_good_program c =
    rw (
      good-id (process_of c.args.bytes.now) c.word_at-id.ensures c.if-id-lt1.false c.if-next-id.false,
      sym c.are_good_registers.ensures ∙ c.if-not-are_good_registers.false,
      sym c.is_good_program.ensures ∙ c.if-not-is_good_program.true,
    )

pub returns : goal.returns
unfolding good_live
returns c =
    rw (
      good-id (process_of c.args.bytes.now) c.word_at-id.ensures c.if-id-lt1.false c.if-next-id.false,
      sym c.are_good_registers.ensures ∙ c.if-not-are_good_registers.false,
      sym c.is_good_program.ensures ∙ c.if-not-is_good_program.false,
    ) c.is_good_file.ensures
