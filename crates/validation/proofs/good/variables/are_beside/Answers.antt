-- The columns filled, the loop tests all pairs of one distance after another.
use Prim.Native.Nat.{ℕ, ◌+◌, ◌≤◌, ◌<◌, ◌-◌}
use mathlib.Core.Path.{◌≡◌, sym, ap, ◌∙◌}
use mathlib.Core.Bool.{Bool}
use mathlib.Core.List.{List}
use native.Mathlib.Omega.{arith}
use Rattle.buffer.specs.Buffer.{overwrite}
use Rattle.buffer.specs.Lists.{any, tab}
use Rattle.buffer.proofs.Fours.{Bytes}
use Rattle.variable.specs.Limits.{max_variables}
use Rattle.validation.specs.Columns.{bytes_of, clash, places, reach}
use Rattle.validation.proofs.Clashes.{clash-in-columns, clash-next, clash-none, clash-stops, clash_by, reach-enough}
use Rattle.validation.proofs.Clashes.{end_column, owner_column, start_column}
use Rattle.validation.proofs.good.variables.are_beside.Goals as goal

-- what the test of a turn says of the variables
module _ (area : List ℕ) (bytes : Bytes area) (count d : ℕ) (few : count ≤ max_variables) (low : 1 ≤ d) (inside : d < count) where
  tested : (starts ends none names owners : List ℕ) {hit : Bool} → starts ≡ start_column area count → ends ≡ end_column area count
      → none ≡ tab (λ i. 256 + i) places → names ≡ overwrite none 0 (bytes_of area 0 count) → owners ≡ owner_column area count
      → hit ≡ any (λ i. clash starts ends names owners i (i + d)) (tab (λ i. i) (reach (count - d)))
      → hit ≡ clash_by area count d
  tested starts ends none names owners s e n m o h =
      let named = m ∙ ap (λ (l : List ℕ). overwrite l 0 (bytes_of area 0 count)) n in
      h ∙ clash-in-columns area count starts ends names owners s e named o d (reach (count - d))
      ∙ reach-enough area count few bytes d low inside

pub returns-then-count-lt2 : goal.returns-then-count-lt2
returns-then-count-lt2 c =
    sym (clash-none c.args.area.now c.args.count (omega arith) (λ k h m. absurd (omega arith)))

pub loop-d-init : goal.loop-d-init
loop-d-init c = (omega arith, λ k l m. absurd (omega arith))

pub returns-then-is_clash_at : goal.returns-then-is_clash_at
returns-then-is_clash_at c =
    let a = c.args in
    let l = c.loop-d in
    let known : Bytes a.area.now = λ k. omega (arith, c.type_inv.area k) in
    let said = tested a.area.now known a.count l.d c.requires.1 l.invariant.0 c.loop-d-test.true
    c.fill_bytes.new.column c.fill_ends.new.column c.no_names-names.result c.fill_bytes-2.new.column a.owners.now
    c.fill_bytes.ensures c.fill_ends.ensures c.no_names-names.ensures c.fill_bytes-2.ensures c.requires.2 c.is_clash_at.ensures in
    sym (clash-stops a.area.now a.count c.requires.1 known l.d l.invariant.0 c.loop-d-test.true (sym said ∙ c.if-is_clash_at.true))

pub loop-d-preserved : goal.loop-d-preserved
loop-d-preserved c =
    let a = c.args in
    let l = c.loop-d in
    let known : Bytes a.area.now = λ k. omega (arith, c.type_inv.area k) in
    let said = tested a.area.now known a.count l.d c.requires.1 l.invariant.0 c.loop-d-test.true
    c.fill_bytes.new.column c.fill_ends.new.column c.no_names-names.result c.fill_bytes-2.new.column a.owners.now
    c.fill_bytes.ensures c.fill_ends.ensures c.no_names-names.ensures c.fill_bytes-2.ensures c.requires.2 c.is_clash_at.ensures in
    (omega arith, clash-next a.area.now a.count l.d l.invariant.1 (sym said ∙ c.if-is_clash_at.false))

pub returns : goal.returns
returns c =
    let a = c.args in
    sym (clash-none a.area.now a.count c.requires.1 (λ k h m. c.loop-d.invariant.1 k h (omega arith)))
