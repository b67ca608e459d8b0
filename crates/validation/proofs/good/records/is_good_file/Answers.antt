-- None is open, or one of the directory's.
use Prim.Native.Nat.{ℕ, ◌<◌, ◌≤◌}
use mathlib.Core.Path.{◌≡◌, sym, ap, subst, subst₂, ◌∙◌}
use native.Mathlib.Omega.{arith}
use borrow.Author.Tests.{eq-eqb, le-leb, lt-leb, ne_eqb}
use lib.Dec.{eqb}
use Rattle.buffer.specs.Buffer.{word_at}
use Rattle.machine.specs.GoodArea.{good_file}
use Rattle.validation.specs.Columns.{FileOf}
use Rattle.validation.proofs.Files.{open-listed}
use Rattle.validation.proofs.good.records.is_good_file.Goals as goal

pub returns-then-len-eq0 : goal.returns-then-len-eq0
unfolding good_file
returns-then-len-eq0 c =
    rw (eq-eqb _ _ (sym c.word_at-len.ensures ∙ c.if-len-eq0.true)) (ap (λ (n : ℕ). eqb n 0) c.word_at-offset.ensures)

pub returns-then-len-offset : goal.returns-then-len-offset
unfolding good_file
returns-then-len-offset c =
    let some : word_at c.args.bytes.now 26 ≡ 0 → ⊥ = λ z. c.if-len-eq0.false (c.word_at-len.ensures ∙ z) in
    rw (
      ne_eqb _ _ some,
      lt-leb _ _ (subst₂ (λ (l n : ℕ). l < n) c.word_at-len.ensures c.word_at-offset.ensures c.if-len-offset.true),
    )

pub returns : goal.returns
unfolding good_file
returns c =
    let a = c.args in
    let some : word_at a.bytes.now 26 ≡ 0 → ⊥ = λ z. c.if-len-eq0.false (c.word_at-len.ensures ∙ z) in
    rw (
      ne_eqb _ _ some,
      le-leb _ _ (subst₂ (λ (n l : ℕ). n ≤ l) c.word_at-offset.ensures c.word_at-len.ensures c.if-len-offset.false),
    )
    (c.is_some.ensures ∙ open-listed a.disc.now a.runs.now c.requires.0 (λ n. omega (arith, c.type_inv.disc n))
    a.bytes.now (λ n. omega (arith, c.type_inv.bytes n)) 24 c.file_of.result
    (subst (λ (n : ℕ). FileOf a.runs.now n c.file_of.result) c.four_at.ensures c.file_of.ensures) some)
